-- Sums of tables: the last place, place by place, two added, and a bound. Assumes nothing.
use mathlib.Core.Path.{◌≡◌, refl, sym, ap, ◌∙◌}
use mathlib.Core.List.{List, map}
use Prim.Native.Nat.{ℕ, zero, suc, ◌+◌, ◌*◌, ◌≤◌, ◌<◌}
use native.Mathlib.Omega.{arith}
use lib.ListN.{length, get_or}
use Rattle.rack.specs.Lists.{sum, tabulate}
use Rattle.rack.proofs.Tables.{tabulate_ext, tabulate_get_or, map_tabulate}

-- THE LAST PLACE
pub sum_none : (f : ℕ → ℕ) → sum (tabulate 0 f) ≡ 0
unfolding sum
sum_none f = refl

pub sum_suc : (n : ℕ) (f : ℕ → ℕ) → sum (tabulate (suc n) f) ≡ sum (tabulate n f) + f n
unfolding sum
sum_suc zero f = omega arith
sum_suc (suc n) f = omega (arith, sum_suc n (λ i. f (suc i)))

pub sum_last : (n : ℕ) (f : ℕ → ℕ) → sum (tabulate (n + 1) f) ≡ sum (tabulate n f) + f n
sum_last n f = let e : n + 1 ≡ suc n = omega arith in rw e (sum_suc n f)

-- PLACE BY PLACE
pub sum_ext : (n : ℕ) (f g : ℕ → ℕ) → ((i : ℕ) → i < n → f i ≡ g i) → sum (tabulate n f) ≡ sum (tabulate n g)
sum_ext n f g h = ap sum (tabulate_ext n f g h)

pub sum_add : (n : ℕ) (f g : ℕ → ℕ) → sum (tabulate n (λ i. f i + g i)) ≡ sum (tabulate n f) + sum (tabulate n g)
unfolding sum
sum_add zero f g = omega arith
sum_add (suc n) f g = omega (arith, sum_add n (λ i. f (suc i)) (λ i. g (suc i)))

pub sum_same : (n b : ℕ) → sum (tabulate n (λ i. b)) ≡ n * b
unfolding sum
sum_same zero b = omega arith
sum_same (suc n) b = omega (arith, sum_same n b)

pub sum_le : (n b : ℕ) (f : ℕ → ℕ) → ((i : ℕ) → i < n → f i ≤ b) → sum (tabulate n f) ≤ n * b
unfolding sum
sum_le zero b f h = omega arith
sum_le (suc n) b f h = omega (arith, h 0 (omega arith), sum_le n b (λ i. f (suc i)) (λ i l. h (suc i) (omega arith)))

-- a list's elements, each by its place
pub sum_map : {A : Type 0} (g : A → ℕ) (xs : List A) (d : A) → sum (map g xs) ≡ sum (tabulate (length xs) (λ i. g (get_or xs i d)))
sum_map g xs d = ap (λ (ys : List _). sum (map g ys)) (sym (tabulate_get_or xs d)) ∙ ap sum (map_tabulate g (length xs) (λ i. get_or xs i d))
