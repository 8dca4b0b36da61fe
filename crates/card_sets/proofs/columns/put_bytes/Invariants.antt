-- The first j bytes are put. Assumes nothing.
use Rattle.card_sets.specs.WordBytes.{BytesPut}
use Rattle.card_sets.proofs.columns.put_bytes.Given as goal

abbrev pub invariant-loop-j : goal.invariant-loop-j
invariant-loop-j l = BytesPut l.word l.at l.initial.columns l.columns l.j
