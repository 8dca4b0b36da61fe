-- 1 comes first, then 12 and 18; a refused frame leaves all as it was; else the cards met and the record are written. Demand 3 follows. Assumes nothing.
use mathlib.Core.Path.{◌≡◌, refl}
use mathlib.Core.Bool.{Bool, true, false}
use mir.Val.{bool_byte}
use Rattle.std.specs.Prelude.{Ok, Err}
use Rattle.rack.specs.Lists.{one}
use Rattle.rack.proofs.RefusalNumbers.{refusal_numbered}
use Rattle.forwarder.specs.declared.walk.Tally.{Tally}
use Rattle.forwarder.specs.Calls.{walked_of}
use Rattle.jolvente.proofs.WalkArrival.{with_c_arrival}
use Rattle.jolvente.proofs.WalkAnswer.{no_met_room, no_walk_record, caller_refused, walk_refused, walk_said}
use Rattle.jolvente.proofs.jolvente_walk.Goals as goal

-- a Boolean as a number
byte_one : (t : Bool) → bool_byte t ≡ one t
byte_one true = refl
byte_one false = refl

pub returns-in_default : goal.returns-in_default
returns-in_default c =
    let z = c.args in
    with_c_arrival _ _ _ _ _ _ _ _ _ (no_met_room z.plan.now z.from z.goal z.caller z.met.now z.«record».now c.in_default.ensures.cases)

pub returns-in_default-as_mut_array : goal.returns-in_default-as_mut_array
returns-in_default-as_mut_array c =
    let z = c.args in
    rw c.in-Some.ensures.cases.same
    (with_c_arrival _ _ _ _ _ _ _ _ _
    (no_walk_record z.plan.now z.from z.goal z.caller z.met.now z.«record».now c.in_default-as_mut_array.ensures.cases))

pub returns-in-Err : goal.returns-in-Err
returns-in-Err c =
    let z = c.args in
    let room = c.in-Some.ensures.cases in
    let record_room = c.in-Some-as_mut_array.ensures.cases in
    rw (c.number.ensures, room.same, record_room.same)
    (with_c_arrival _ _ _ _ _ _ _ _ _
    (caller_refused z.plan.now z.from z.goal z.caller z.met.now z.«record».now room.long record_room.long _ c.in-Err.ensures
    (refusal_numbered c.in-Err.refused)))

pub returns-in-Ok : goal.returns-in-Ok
returns-in-Ok c =
    let z = c.args in
    let room = c.in-Some.ensures.cases in
    let record_room = c.in-Some-as_mut_array.ensures.cases in
    let t : Tally = record { frames = c.number32_at.result; hops = c.number32_at-2.result } in
    with_c_arrival _ _ _ _ _ _ _ _ _
    (walk_said z.plan.now z.from z.goal z.caller z.met.now z.«record».now room.long record_room.long 0 c.in_default-caller_fault.ensures refl
    _ (rw record_room.same at c.number32_at.ensures) (rw record_room.same at c.number32_at-2.ensures) (walked_of t (Ok c.in-Ok.w)) _ _ refl c.in-Ok.ensures.says
    refl _ _ c.put_cards.ensures (rw (c.from.ensures, byte_one c.in-Ok.w.arrived) at c.put_record.ensures))

pub returns-in-Err-walk_counted : goal.returns-in-Err-walk_counted
returns-in-Err-walk_counted c =
    let z = c.args in
    let e = c.in-Err-walk_counted.refused in
    let room = c.in-Some.ensures.cases in
    let record_room = c.in-Some-as_mut_array.ensures.cases in
    let t : Tally = record { frames = c.number32_at.result; hops = c.number32_at-2.result } in
    rw (c.number-in-Err-walk_counted.ensures, room.same, record_room.same)
    (with_c_arrival _ _ _ _ _ _ _ _ _
    (walk_refused z.plan.now z.from z.goal z.caller z.met.now z.«record».now room.long record_room.long 0 c.in_default-caller_fault.ensures refl
    _ (rw record_room.same at c.number32_at.ensures) (rw record_room.same at c.number32_at-2.ensures) (walked_of t (Err e)) _ _ refl c.in-Err-walk_counted.ensures.says
    (refusal_numbered e)))
