-- One number is appended after the other, and four fill the record. Assumes nothing.
use native.Mathlib.Omega.{arith}
use Rattle.rack.proofs.Appending.{length_four_bytes, written_full}
use Rattle.rack.proofs.Putting.{grows_then, grown_written}
use Rattle.jolvente.specs.Records.{record_bytes}
use Rattle.jolvente.proofs.RecordBytes.{length_record}
use Rattle.jolvente.proofs.records.put_record.Goals as goal

pub put_number32-requires-2 : goal.put_number32-requires-2
put_number32-requires-2 c = omega (arith, length_four_bytes c.args.x)

pub put_number32-requires-3 : goal.put_number32-requires-3
put_number32-requires-3 c = omega (arith, length_four_bytes c.args.x, length_four_bytes c.args.y)

pub put_number32-requires-4 : goal.put_number32-requires-4
put_number32-requires-4 c = omega (arith, length_four_bytes c.args.x, length_four_bytes c.args.y, length_four_bytes c.args.z)

pub returns : goal.returns
unfolding record_bytes
returns c =
    let z = c.args in
    let new = c.new-written.ensures in
    let half = grows_then c.put_number32.ensures c.put_number32-2.ensures in
    let all = grows_then (grows_then half c.put_number32-3.ensures) c.put_number32-4.ensures in
    written_full _ (record_bytes z.x z.y z.z z.u) (omega (arith, length_record z.x z.y z.z z.u)) (grown_written new.start new.zeros all)
