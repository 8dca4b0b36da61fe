-- Differing places of two rows of bits: at most as many as there are, piece by piece, of rows that agree, and of three rows. Assumes nothing.
use mathlib.Core.Path.{◌≡◌, refl, ap, ap₂, ◌∙◌}
use mathlib.Core.Bool.{Bool, true, false}
use mathlib.Core.List.{List, [], ◌∷◌}
use Prim.Native.Nat.{ℕ, ◌+◌, ◌-◌, ◌≤◌, ◌<◌}
use native.Mathlib.Omega.{arith}
use Rattle.rack.specs.Lists.{differ, one, count, range}
use Rattle.rack.specs.Columns.{hamming}
use Rattle.rack.proofs.Logic.{differ_self, differ_sym}
use Rattle.rack.proofs.Lists.{count_ext, count_le_length, none_count}
use Rattle.rack.proofs.Tables.{length_tabulate, range_in, count_range_add}

pub hamming_none : (x y : ℕ → Bool) → hamming 0 x y ≡ 0
unfolding hamming
hamming_none x y = refl

pub hamming_le : (k : ℕ) (x y : ℕ → Bool) → hamming k x y ≤ k
unfolding hamming
hamming_le k x y = omega (arith, count_le_length (λ j. differ (x j) (y j)) (range k), length_tabulate k (λ i. i))

pub hamming_ext : (k : ℕ) (x y u v : ℕ → Bool) → ((j : ℕ) → j < k → x j ≡ u j) → ((j : ℕ) → j < k → y j ≡ v j) → hamming k x y ≡ hamming k u v
unfolding hamming
hamming_ext k x y u v f g =
    count_ext (λ j. differ (x j) (y j)) (λ j. differ (u j) (v j)) (range k) (λ j i. ap₂ differ (f j (range_in k j i)) (g j (range_in k j i)))

pub hamming_add : (m n : ℕ) (x y : ℕ → Bool) → hamming (m + n) x y ≡ hamming m x y + hamming n (λ j. x (m + j)) (λ j. y (m + j))
unfolding hamming
hamming_add m n x y = count_range_add (λ j. differ (x j) (y j)) m n

pub hamming_same : (k : ℕ) (x y : ℕ → Bool) → ((j : ℕ) → j < k → x j ≡ y j) → hamming k x y ≡ 0
unfolding hamming
hamming_same k x y f = none_count (λ j. differ (x j) (y j)) (range k) (λ j i. rw (f j (range_in k j i)) (differ_self (y j)))

-- rows that agree from place k on differ in the first k places alone
pub hamming_front : (k l : ℕ) (x y : ℕ → Bool) → k ≤ l → ((j : ℕ) → x (k + j) ≡ y (k + j)) → hamming l x y ≡ hamming k x y
hamming_front k l x y h same =
    let e : l ≡ k + (l - k) = omega arith in
    ap (λ (n : ℕ). hamming n x y) e ∙ hamming_add k (l - k) x y
    ∙ omega (arith, hamming_same (l - k) (λ j. x (k + j)) (λ j. y (k + j)) (λ j i. same j))

pub hamming_sym : (k : ℕ) (x y : ℕ → Bool) → hamming k x y ≡ hamming k y x
unfolding hamming
hamming_sym k x y = count_ext (λ j. differ (x j) (y j)) (λ j. differ (y j) (x j)) (range k) (λ j i. differ_sym (x j) (y j))

-- differing places obey the triangle
pub bit_triangle : (a x b : Bool) → one (differ a b) ≤ one (differ a x) + one (differ x b)
bit_triangle true true b = omega arith
bit_triangle true false true = omega arith
bit_triangle true false false = omega arith
bit_triangle false false b = omega arith
bit_triangle false true true = omega arith
bit_triangle false true false = omega arith

count_triangle : (x y z : ℕ → Bool) (js : List ℕ)
    → count (λ j. differ (x j) (z j)) js ≤ count (λ j. differ (x j) (y j)) js + count (λ j. differ (y j) (z j)) js
count_triangle x y z [] = omega arith
count_triangle x y z (j ∷ js) = omega (arith, bit_triangle (x j) (y j) (z j), count_triangle x y z js)

pub hamming_triangle : (k : ℕ) (x y z : ℕ → Bool) → hamming k x z ≤ hamming k x y + hamming k y z
unfolding hamming
hamming_triangle k x y z = count_triangle x y z (range k)
