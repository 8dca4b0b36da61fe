-- The entries before x are the bytes spread. Assumes nothing.
use mathlib.Core.Path.{◌≡◌}
use Prim.Native.Nat.{ℕ, ◌<◌}
use lib.ListN.{length, get_or}
use Rattle.card_sets.specs.WordBytes.{spread}
use Rattle.card_sets.proofs.columns.spread_words.Given as goal

abbrev pub invariant-loop-x : goal.invariant-loop-x
invariant-loop-x l = (length l.words ≡ 256) × ((y : ℕ) → y < l.x → get_or l.words y 0 ≡ spread y)
