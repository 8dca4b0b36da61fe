-- The promises of specs/Promises.antt, proved. Assumes nothing.
use mathlib.Core.Path.{◌≡◌}
use mathlib.Core.Bool.{true}
use Prim.Native.Nat.{◌<◌}
use native.Mathlib.Omega.{arith}
use lib.ListN.{length}
use Rattle.reader.specs.Plan.{layout_holds}
use Rattle.traffic.specs.Promises.{CallerRefused}
use Rattle.traffic.proofs.Promises.{caller_refused}
use Rattle.jolvente.specs.Records.{lent_record, lent_met_bytes, counts_in}
use Rattle.jolvente.specs.Promises.{CWritingFinds, CReadingMeasures, CWalkArrives, CWalkFull, CCallerRefused}
use Rattle.jolvente.proofs.PlanPromise.{c_found, c_measured}
use Rattle.jolvente.proofs.WalkAnswer.{eighteen_only, eighteen_said, refused_left}
use Rattle.jolvente.proofs.WalkArrival.{arrives, full}

pub c_writing_finds : CWritingFinds
unfolding CWritingFinds
c_writing_finds bs r plan plan_now rec rec_now s room record_room formed whole =
    c_found bs r plan plan_now rec rec_now s (record { room = room; record_room = record_room; formed = formed; whole = whole })

pub c_reading_measures : CReadingMeasures
unfolding CReadingMeasures
c_reading_measures ps r rec rec_now s z = c_measured ps r rec rec_now s z

pub c_walk_arrives : CWalkArrives
unfolding CWalkArrives counts_in
c_walk_arrives ps a b u r met met_now rec rec_now s read from goal caller room record_room frames total =
    arrives ps a b u r met met_now rec rec_now s
    (record { read = read; from = from; goal = goal; caller = omega arith; room = room; record_room = record_room })
    (frames, total)

pub c_walk_full : CWalkFull
unfolding CWalkFull counts_in
c_walk_full ps a b u r met met_now rec rec_now s read from goal caller room record_room never =
    full ps a b u r met met_now rec rec_now s
    (record { read = read; from = from; goal = goal; caller = omega arith; room = room; record_room = record_room })
    (λ take. let passed = never take.0 in omega (arith, take.1))

pub c_caller_refused : CCallerRefused
unfolding CCallerRefused CallerRefused
c_caller_refused ps a b u r met met_now rec rec_now s = (
  (over, λ (room, record_room, l, h). eighteen_said ps a b u r met met_now rec rec_now s room record_room ((caller_refused ps u).1 (l, h))),
  λ e. refused_left ps a b u r met met_now rec rec_now s (λ z. omega arith),
)
  where
    over : r ≡ 18 → (length met ≡ lent_met_bytes) × (length rec ≡ lent_record) × (layout_holds ps ≡ true) × (15 < u)
    over e =
        let (room, record_room, x) = eighteen_only ps a b u r met met_now rec rec_now s e in
        let (l, h) = (caller_refused ps u).0 x in
        (room, record_room, l, h)
