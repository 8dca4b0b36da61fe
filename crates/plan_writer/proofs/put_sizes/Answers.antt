-- One number is appended after the other. Assumes nothing.
use native.Mathlib.Omega.{arith}
use Rattle.rack.proofs.WiringFile.{length_two_bytes}
use Rattle.rack.proofs.Putting.{grows_then}
use Rattle.plan_writer.proofs.put_sizes.Goals as goal

pub put_number-requires-2 : goal.put_number-requires-2
put_number-requires-2 c =
    let p = c.put_number.ensures in omega (arith, c.requires, p.room, p.puts.place, length_two_bytes c.args.n)

pub put_number-requires-3 : goal.put_number-requires-3
put_number-requires-3 c =
    let a = c.args in
    let p = c.put_number.ensures in
    let q = c.put_number-2.ensures in
    omega (arith, c.requires, p.room, q.room, p.puts.place, q.puts.place, length_two_bytes a.n, length_two_bytes a.m)

pub returns : goal.returns
returns c = grows_then (grows_then c.put_number.ensures c.put_number-2.ensures) c.put_number-3.ensures
