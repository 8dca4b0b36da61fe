-- The address of one card more is appended each turn. Assumes nothing.
use mathlib.Core.Path.{sym}
use native.Mathlib.Omega.{arith}
use Rattle.rack.specs.Lists.{tabulate}
use Rattle.rack.proofs.Tables.{blocks_snoc}
use Rattle.rack.proofs.Putting.{grows_then, grows_as}
use Rattle.plan_writer.specs.Writing.{word_byte}
use Rattle.plan_writer.proofs.WrittenPlan.{address_room, length_rows}
use Rattle.plan_writer.proofs.put_addresses.Goals as goal

pub put_address-requires : goal.put_address-requires
put_address-requires c =
    let a = c.args in
    let l = c.loop-c in
    let p = l.invariant in (
      omega arith,
      omega arith,
      omega (arith, p.room, p.puts.place, length_rows l.c a.size (word_byte a.words.now), address_room l.c a.n a.size (omega arith)),
    )

pub loop-c-preserved : goal.loop-c-preserved
loop-c-preserved c =
    let a = c.args in
    let l = c.loop-c in
    grows_as (sym (blocks_snoc l.c (λ i. tabulate a.size (word_byte a.words.now i)))) (grows_then l.invariant c.put_address.ensures)
