-- The search for the lowest differing place: over equal bytes first, then bit by bit. Assumes nothing.
use mathlib.Core.Path.{◌≡◌, refl, sym, ap, ◌∙◌}
use mathlib.Core.Bool.{Bool, true, false, not}
use mathlib.Core.List.{List}
use Prim.Native.Nat.{ℕ, ◌+◌, ◌*◌, ◌/◌, ◌%◌, ◌≤◌, ◌<◌}
use native.Mathlib.Omega.{arith}
use lib.Dec.{eqb}
use lib.ListN.{get_or}
use borrow.Author.Tests.{eqb-true}
use Rattle.rack.specs.Bits.{number_bit}
use Rattle.std.specs.Prelude.{Option, None, Some}
use Rattle.std.specs.Option.{unwrap_or}
use Rattle.rack.specs.Lists.{FoundBelow, differ, lowest}
use Rattle.rack.specs.PlanFile.{bit_from}
use Rattle.rack.proofs.Logic.{differ_self}
use Rattle.rack.proofs.Tables.{lowest_le, lowest_first}

not_false : (b : Bool) → not b ≡ false → b ≡ true
not_false true e = refl
not_false false e = sym e

module _ (xs ys : List ℕ) where
  -- the one has another t-th byte than the other; another j-th bit
  abbrev pub bytes_differ : (t : ℕ) → Bool
  bytes_differ t = not (eqb (get_or xs t 0) (get_or ys t 0))

  abbrev pub bits_apart : (j : ℕ) → Bool
  bits_apart j = differ (bit_from xs 0 j) (bit_from ys 0 j)

  -- EQUAL BYTES up to the first that differs; so their bits agree
  pub bytes_found : (count : ℕ) (r : Option ℕ) → FoundBelow count (lowest count bytes_differ) r → unwrap_or r count ≡ lowest count bytes_differ
  bytes_found count None e = sym e
  bytes_found count (Some i) e = e.0

  pub bytes_within : (count t : ℕ) → t ≡ lowest count bytes_differ → t ≤ count
  bytes_within count t e = omega (arith, e, lowest_le count bytes_differ)

  pub bytes_agree : (count t : ℕ) → t ≡ lowest count bytes_differ → (j : ℕ) → j < 8 * t → bits_apart j ≡ false
  unfolding bit_from
  bytes_agree count t e j h =
      let same = eqb-true (get_or xs (0 + j / 8) 0) (get_or ys (0 + j / 8) 0) (not_false _ (lowest_first count bytes_differ (0 + j / 8) (omega (arith, e)))) in
      ap (λ (x : ℕ). differ (number_bit x (j % 8)) (number_bit (get_or ys (0 + j / 8) 0) (j % 8))) same
      ∙ differ_self (number_bit (get_or ys (0 + j / 8) 0) (j % 8))
