-- How long a part of a list is, and lists compared place by place. Assumes nothing.
use mathlib.Core.Path.{◌≡◌, refl, sym, ap, ◌∙◌}
use mathlib.Core.Bool.{Bool, true, false, false≢true}
use mathlib.Core.List.{List}
use Prim.Native.Nat.{ℕ, ◌+◌, ◌≤◌, ◌<◌}
use native.Mathlib.Omega.{arith}
use lib.Dec.{eqb}
use lib.ListN.{length, get_or, take, drop, length-drop}
use lib.Seq.{length-take-le, get_or-take, ext_get_or}
use borrow.Author.Tests.{eqb-true, eq-eqb}
use Rattle.std.specs.Prelude.{◌↔◌, IsTrue, EachIndex, slice_index}
use Rattle.rack.specs.Lists.{same}
use Rattle.rack.proofs.Logic.{not_true_false}
use Rattle.rack.proofs.Lists.{same_eq, same_self}

pub length_part : (k i : ℕ) (xs : List ℕ) → k + i ≤ length xs → length (take i (drop k xs)) ≡ i
length_part k i xs h = length-take-le i (drop k xs) (simp length-drop (omega arith))

-- the test of a beginning, place by place
module _ (xs ys : List ℕ) (h : length ys ≤ length xs) where
  beginning_is : ((j : ℕ) → j < length ys → get_or xs j 0 ≡ get_or ys j 0) → take (length ys) xs ≡ ys
  beginning_is each =
      ext_get_or 0 (take (length ys) xs) ys (length-take-le (length ys) xs h) (λ i l.
      let k : i < length ys = omega (arith, length-take-le (length ys) xs h) in get_or-take (length ys) xs i 0 k ∙ each i k)

  is_beginning : take (length ys) xs ≡ ys → (j : ℕ) → j < length ys → get_or xs j 0 ≡ get_or ys j 0
  is_beginning e j l = sym (get_or-take (length ys) xs j 0 l) ∙ ap (λ (zs : List ℕ). get_or zs j 0) e

  pub beginning_tested : (t : Bool) → (IsTrue t ↔ EachIndex ys (λ j. slice_index xs j ≡ slice_index ys j)) → t ≡ same eqb (take (length ys) xs) ys
  beginning_tested true b = sym (rw (beginning_is (b.0 refl)) (same_self eqb (λ x. eq-eqb x x refl) ys))
  beginning_tested false b =
      sym (not_true_false (same eqb (take (length ys) xs) ys) (λ t.
      absurd (false≢true (b.1 (is_beginning (same_eq eqb eqb-true (take (length ys) xs) ys t))))))
