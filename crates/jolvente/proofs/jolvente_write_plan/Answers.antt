-- 1 comes before anything is written; else the plan and the record are written, or made zero. Demands 2 and 3 follow. Assumes nothing.
use mathlib.Core.Path.{◌≡◌, sym, ap, ◌∙◌}
use Prim.Native.Nat.{ℕ}
use native.Mathlib.Omega.{arith}
use lib.ListN.{length, replicate}
use Rattle.planner.specs.Answer.{answer_of}
use Rattle.std.specs.Prelude.{Ok, Err, Option}
use Rattle.std.specs.Option.{unwrap_or}
use Rattle.rack.specs.Refused.{refusal_of}
use Rattle.rack.proofs.RefusalNumbers.{place_or_0}
use Rattle.jolvente.proofs.Answers.{record_zero, no_plan_room, no_record_room, plan_said}
use Rattle.jolvente.proofs.PlanPromise.{with_found}
use Rattle.jolvente.proofs.Returned.{returned_fits}
use Rattle.jolvente.proofs.jolvente_write_plan.Goals as goal
use Rattle.jolvente.proofs.jolvente_write_plan.Goals.{After-unwrap_or}

pub returns-in_default : goal.returns-in_default
returns-in_default c =
    let z = c.args in with_found _ _ _ _ _ _ (no_plan_room z.wiring.now z.plan.now z.«record».now c.in_default.ensures.cases)

pub returns-in_default-as_mut_array : goal.returns-in_default-as_mut_array
returns-in_default-as_mut_array c =
    let z = c.args in
    rw c.in-Some.ensures.cases.same
    (with_found _ _ _ _ _ _ (no_record_room z.wiring.now z.plan.now z.«record».now c.in_default-as_mut_array.ensures.cases))

pub returns-in-Ok : goal.returns-in-Ok
returns-in-Ok c =
    with_found _ _ _ _ _ _
    (plan_said _ _ _ _ _ (answer_of (Ok c.in-Ok.length)) c.in-Some.ensures.cases.long c.in-Some-as_mut_array.ensures.cases.long
    (rw c.in-Some.ensures.cases.same at c.in-Ok.ensures.says) c.put_record.ensures)

-- the place that is handed out, 0 for none
place : (c : After-unwrap_or) → c.unwrap_or.result ≡ (refusal_of c.in-Err.refused).at
place c = c.unwrap_or.ensures ∙ ap (λ (o : Option ℕ). unwrap_or o 0) c.place.ensures ∙ place_or_0 c.in-Err.refused

pub overflow_mul-result : goal.overflow_mul-result
overflow_mul-result c =
    omega (arith, place (goal.at.overflow_mul-result c).After-unwrap_or, returned_fits _ _ _ (answer_of (Err c.in-Err.refused)) c.in-Err.ensures.says.answer)

pub overflow_add-result : goal.overflow_add-result
overflow_add-result c =
    omega (arith, c.number.ensures, place (goal.at.overflow_add-result c).After-unwrap_or, returned_fits _ _ _ (answer_of (Err c.in-Err.refused)) c.in-Err.ensures.says.answer)

pub returns-in-Err : goal.returns-in-Err
returns-in-Err c =
    let room = c.in-Some.ensures.cases in
    let record_room = c.in-Some-as_mut_array.ensures.cases in
    let zero = c.fill.ensures.after (λ y e. e) ∙ ap (λ (k : ℕ). replicate k 0) (ap length record_room.same ∙ record_room.long) ∙ sym record_zero in
    rw (c.number.ensures, place (goal.at.returns-in-Err c).After-unwrap_or)
    (with_found _ _ _ _ _ _
    (plan_said _ _ _ _ _ (answer_of (Err c.in-Err.refused)) room.long record_room.long (rw room.same at c.in-Err.ensures.says) zero))
