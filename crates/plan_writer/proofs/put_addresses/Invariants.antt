-- The addresses of the first c cards are appended. Assumes nothing.
use Rattle.rack.specs.Lists.{tabulate, blocks}
use Rattle.rack.specs.Putting.{Grows}
use Rattle.plan_writer.specs.Writing.{word_byte}
use Rattle.plan_writer.proofs.put_addresses.Given as goal

abbrev pub invariant-loop-c : goal.invariant-loop-c
invariant-loop-c l = Grows l.initial.output l.output (blocks l.c (λ i. tabulate l.size (word_byte l.words i)))
