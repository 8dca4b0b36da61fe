-- One end more is appended each turn. Assumes nothing.
use mathlib.Core.Path.{sym, ap, ◌∙◌}
use mathlib.Core.List.{◌++◌}
use Prim.Native.Nat.{ℕ}
use native.Mathlib.Omega.{arith}
use Rattle.rack.specs.Buffers.{two_bytes}
use Rattle.rack.specs.Lists.{blocks}
use Rattle.rack.proofs.Tables.{blocks_snoc}
use Rattle.rack.proofs.Putting.{grows_then, grows_as}
use Rattle.plan_writer.specs.Writing.{end_pair}
use Rattle.plan_writer.proofs.WrittenPlan.{length_pairs}
use Rattle.plan_writer.proofs.put_ends.Goals as goal

pub put_number-requires : goal.put_number-requires
put_number-requires c =
    let p = c.loop-i.invariant in
    omega (arith, p.room, p.puts.place, length_pairs c.args.file.bytes.now c.loop-i.i)

pub loop-i-preserved : goal.loop-i-preserved
loop-i-preserved c =
    let l = c.loop-i in
    let f = end_pair c.args.file.bytes.now in
    grows_as (ap (λ (v : ℕ). blocks l.i f ++ two_bytes v) c.number_at.ensures.is ∙ sym (blocks_snoc l.i f)) (grows_then l.invariant c.put_number.ensures)
