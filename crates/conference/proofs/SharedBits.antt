-- Three rows of bits: where the differing places of a, x and of x, b add up to those of a, b, x has the bits that a and b share; and a row
-- that has what each two of three share has the majority's bits. Assumes nothing.
use mathlib.Core.Path.{◌≡◌, refl}
use mathlib.Core.Bool.{Bool, true, false}
use mathlib.Core.Logic.{inl, inr}
use mathlib.Core.List.{List, [], ◌∷◌}
use Prim.Native.Nat.{ℕ, ◌+◌, ◌≤◌, ◌<◌}
use native.Mathlib.Omega.{arith}
use Rattle.rack.specs.Lists.{differ, one, count, range}
use Rattle.rack.specs.Columns.{hamming}
use Rattle.rack.proofs.Logic.{true_not_false}
use Rattle.rack.proofs.Lists.{In}
use Rattle.rack.proofs.Tables.{in_range}
use Rattle.rack.proofs.Hamming.{bit_triangle}
use Rattle.conference.specs.Conference.{majority}

-- COUNTS of which one is at most the sum of two at each element: so they are in all, and if they are equal in all, at each element
module _ {A : Type 0} (p q s : A → Bool) (small : (v : A) → one (s v) ≤ one (p v) + one (q v)) where
  count_small : (xs : List A) → count s xs ≤ count p xs + count q xs
  count_small [] = omega arith
  count_small (x ∷ xs) = omega (arith, small x, count_small xs)

  count_tight : (xs : List A) → count p xs + count q xs ≡ count s xs → (v : A) → In v xs → one (p v) + one (q v) ≡ one (s v)
  count_tight [] e v m = absurd m
  count_tight (x ∷ xs) e v (inl f) = let k : one (p x) + one (q x) ≡ one (s x) = omega (arith, small x, count_small xs) in rw f at k
  count_tight (x ∷ xs) e v (inr m) = count_tight xs (omega (arith, small x, count_small xs)) v m

-- ONE PLACE
bit_shared : (a x b : Bool) → one (differ a x) + one (differ x b) ≡ one (differ a b) → differ a b ≡ false → x ≡ a
bit_shared true true b e f = refl
bit_shared true false true e f = absurd (omega arith)
bit_shared true false false e f = true_not_false true refl f
bit_shared false false b e f = refl
bit_shared false true false e f = absurd (omega arith)
bit_shared false true true e f = true_not_false true refl f

pub shared_majority : (a b c x : Bool) → (differ a b ≡ false → x ≡ a) → (differ a c ≡ false → x ≡ a) → (differ b c ≡ false → x ≡ b)
    → x ≡ majority a b c
shared_majority true true c x f g h = f refl
shared_majority true false true x f g h = g refl
shared_majority true false false x f g h = h refl
shared_majority false true true x f g h = h refl
shared_majority false true false x f g h = g refl
shared_majority false false c x f g h = f refl

-- ALL PLACES
pub hamming_shared : (k : ℕ) (a x b : ℕ → Bool) → hamming k a x + hamming k x b ≡ hamming k a b → (j : ℕ) → j < k
    → differ (a j) (b j) ≡ false → x j ≡ a j
unfolding hamming
hamming_shared k a x b e j h =
    bit_shared (a j) (x j) (b j)
    (count_tight (λ i. differ (a i) (x i)) (λ i. differ (x i) (b i)) (λ i. differ (a i) (b i))
    (λ i. bit_triangle (a i) (x i) (b i)) (range k) e j (in_range k j h))
