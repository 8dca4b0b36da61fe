-- The first cards are appended. Assumes nothing.
use lib.ListN.{get_or}
use Rattle.rack.specs.Lists.{blocks}
use Rattle.rack.specs.Buffers.{two_bytes}
use Rattle.rack.specs.Putting.{Grows}
use Rattle.jolvente.proofs.records.put_cards.Given as goal

abbrev pub invariant-loop-card : goal.invariant-loop-card
invariant-loop-card l = Grows l.initial.written l.written (blocks l.card-index (λ i. two_bytes (get_or l.cards i 0)))
