-- Whether sizes are those in a plan's bytes, as the code compares them, and what a call then sees. Assumes nothing.
use mathlib.Core.Path.{◌≡◌, refl, ap}
use mathlib.Core.Bool.{true, false, ◌&&◌}
use mathlib.Core.Logic.{◌≢◌}
use mathlib.Core.List.{List, []}
use Prim.Native.Nat.{ℕ, ◌+◌}
use native.Mathlib.Omega.{arith}
use lib.Dec.{eqb}
use Rattle.reader.specs.Reading.{Sizes, LayoutSays}
use Rattle.reader.proofs.Reading.{says_layout, says_laid_out, says_no_layout}
use Rattle.carried.specs.Carried.{carries, carried_bytes}

module _ (ps : List ℕ) (n m k : ℕ) where
  module _ (r : Sizes) (s : LayoutSays ps r) where
    pub no_layout_carries : r.number ≢ 0 → carries ps n m k ≡ false
    unfolding carries
    no_layout_carries h = rw (says_no_layout ps r s h) refl

    pub carries_as_compared : r.number ≡ 0 → carries ps n m k ≡ (eqb n r.cards && eqb m r.links && eqb k r.columns)
    unfolding carries
    carries_as_compared h =
        let z = says_laid_out ps r s h in rw (says_layout ps r s h, z.cards, z.links, z.columns) refl

  pub carried_bytes_whole : carries ps n m k ≡ true → carried_bytes ps n m k ≡ ps
  unfolding carried_bytes
  carried_bytes_whole t = rw t refl

  pub carried_bytes_none : carries ps n m k ≡ false → carried_bytes ps n m k ≡ []
  unfolding carried_bytes
  carried_bytes_none t = rw t refl

-- no bytes are handed out from the first byte on
pub none_from_start : (at : ℕ × ℕ) → (at.0, 0 + at.1) ≡ at
none_from_start at = ap (λ (o : ℕ). (at.0, o)) (omega arith)
