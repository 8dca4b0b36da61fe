-- The first `i` ends are appended. Assumes nothing.
use Rattle.rack.specs.Lists.{blocks}
use Rattle.rack.specs.Putting.{Grows}
use Rattle.plan_writer.specs.Writing.{end_pair}
use Rattle.plan_writer.proofs.put_ends.Given as goal

abbrev pub invariant-loop-i : goal.invariant-loop-i
invariant-loop-i l = Grows l.initial.output l.output (blocks l.i (end_pair l.file.bytes.now))
