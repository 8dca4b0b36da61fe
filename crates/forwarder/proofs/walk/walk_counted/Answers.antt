-- Each refusal comes before the lent numbers are written; else they are the cards met, and the answer is the walk's. What holds of a frame on a plan that was read follows. Assumes nothing.
use mathlib.Core.Path.{refl, sym}
use Rattle.std.proofs.lemmas.Result.{err_from_is_err_and}
use Rattle.rack.proofs.RefusalNumbers.{refusal_numbered}
use Rattle.forwarder.proofs.Answers.{says_no_room, says_no_frame, says_full, says_answered}
use Rattle.forwarder.proofs.Arrival.{with_arrival}
use Rattle.forwarder.proofs.walk.walk_counted.Goals as goal

pub returns-in_default : goal.returns-in_default
returns-in_default c =
    let z = c.args in
    let holds = with_arrival z.plan.now z.from z.goal z.tally _ z.met.now z.met.now (says_no_room _ _ _ _ _ c.in_default.ensures.cases) in
    record {
      says = holds.0;
      arrives = holds.1.0;
      full = holds.1.1;
    }

pub returns-in_err-sized : goal.returns-in_err-sized
returns-in_err-sized c =
    let z = c.args in
    let p = err_from_is_err_and c.from_residual.result c.from_residual.ensures.1 in
    let holds = with_arrival z.plan.now z.from z.goal z.tally _ z.met.now z.met.now
    (says_no_frame _ _ _ _ _ _ c.in-Some.ensures.cases.long c.in_err-sized.ensures.says.number) in
    rw (p.1, p.2, c.in-Some.ensures.cases.same) (record {
      says = holds.0;
      arrives = holds.1.0;
      full = holds.1.1;
    })

pub returns-in_err-walked : goal.returns-in_err-walked
returns-in_err-walked c =
    let z = c.args in
    let p = err_from_is_err_and c.from_residual-in_err-walked.result c.from_residual-in_err-walked.ensures.1 in
    let holds = with_arrival z.plan.now z.from z.goal z.tally _ z.met.now z.met.now
    (says_full _ _ _ _ _ _ _ _ c.in-Some.ensures.cases.long (sym c.in_ok-sized.ensures.says.number)
    (rw c.in_ok-sized.ensures.bytes at c.walk_between-route.ensures) c.in_err-walked.ensures (refusal_numbered _)) in
    rw (p.1, p.2, c.in-Some.ensures.cases.same) (record {
      says = holds.0;
      arrives = holds.1.0;
      full = holds.1.1;
    })

pub returns : goal.returns
returns c =
    let z = c.args in
    let holds = with_arrival z.plan.now z.from z.goal z.tally _ z.met.now c.walk_between-route.new.met
    (says_answered _ _ _ _ _ _ _ _ c.in-Some.ensures.cases.long (sym c.in_ok-sized.ensures.says.number)
    (rw c.in_ok-sized.ensures.bytes at c.walk_between-route.ensures) c.in_ok-walked.ensures _ refl refl) in
    record {
      says = holds.0;
      arrives = holds.1.0;
      full = holds.1.1;
    }
