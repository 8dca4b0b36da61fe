-- The first t bytes of the address are appended. Assumes nothing.
use Rattle.rack.specs.Lists.{tabulate}
use Rattle.rack.specs.Putting.{Grows}
use Rattle.plan_writer.specs.Writing.{word_byte}
use Rattle.plan_writer.proofs.put_address.Given as goal

abbrev pub invariant-loop-t : goal.invariant-loop-t
invariant-loop-t l = Grows l.initial.output l.output (tabulate l.t (word_byte l.words l.c))
