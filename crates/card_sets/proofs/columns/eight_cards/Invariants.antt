-- The word holds the cards from i on. Assumes nothing.
use mathlib.Core.Path.{◌≡◌}
use Prim.Native.Nat.{◌-◌}
use Rattle.card_sets.proofs.WordBytes.{cards_value}
use Rattle.card_sets.proofs.columns.eight_cards.Given as goal

abbrev pub invariant-loop-i : goal.invariant-loop-i
invariant-loop-i l = l.word ≡ cards_value l.bytes l.at l.size l.i (l.count - l.i)
