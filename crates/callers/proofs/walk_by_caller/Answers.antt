-- 1 comes first, then 12 and 18; else the walk with the caller's counts, which go back into the record. Assumes nothing.
use Rattle.std.proofs.Common.{sym, ◌∙◌}
use Rattle.std.proofs.lemmas.Result.{err_from_is_err_and}
use Rattle.rack.specs.declared.refused.Refused.TheVariants.{Lent}
use Rattle.rack.proofs.RefusalNumbers.{refusal_numbered}
use Rattle.traffic.proofs.CallerRefusal.{answered_caller}
use Rattle.callers.proofs.Refused.{no_room, no_caller}
use Rattle.callers.proofs.Answers.{refused_is, put_back, walk_answered}
use Rattle.callers.proofs.Delivery.{with_delivery}
use Rattle.callers.proofs.walk_by_caller.Goals as goal

pub returns-in_default : goal.returns-in_default
returns-in_default c =
    let holds = with_delivery _ _ _ _ _ _ _ _
    (refused_is _ _ _ _ _ _ Lent _ (no_room _ _ _ _ _ _ c.in_default.ensures.cases)) in
    record {
      says = holds.0;
      arrives = holds.1.0;
      full = holds.1.1;
    }

pub returns-in_err-caller_fault : goal.returns-in_err-caller_fault
returns-in_err-caller_fault c =
    let p = err_from_is_err_and c.from_residual.result c.from_residual.ensures.1 in
    let fault = c.in_err-caller_fault.ensures in
    let holds = with_delivery _ _ _ _ _ _ _ _
    (refused_is _ _ _ _ _ _ _ _
    (no_caller _ _ _ _ _ _ c.in-Some.ensures.cases.long (λ e. refusal_numbered _ (fault ∙ e)) ∙ sym fault)) in
    rw (p.1, p.2, c.in-Some.ensures.cases.same) (record {
      says = holds.0;
      arrives = holds.1.0;
      full = holds.1.1;
    })

pub tally_of-requires : goal.tally_of-requires
tally_of-requires c = answered_caller _ _ (sym c.in_ok-caller_fault.ensures)

pub returns-in_err-walk : goal.returns-in_err-walk
returns-in_err-walk c =
    let p = err_from_is_err_and c.from_residual-in_err-walk.result c.from_residual-in_err-walk.ensures.1 in
    let z = c.args in
    let holds = with_delivery _ _ _ _ _ _ _ _
    (walk_answered _ _ _ _ _ _ c.tally_of.ensures _ _ (rw c.tally_of.ensures (put_back z.plan.now z.from z.goal z.caller z.traffic)) _ _
    (rw c.in-Some.ensures.cases.same at c.in_err-walk.ensures.says) c.in-Some.ensures.cases.long (sym c.in_ok-caller_fault.ensures)) in
    rw (p.1, p.2) (record {
      says = holds.0;
      arrives = holds.1.0;
      full = holds.1.1;
    })

pub with_tally-requires : goal.with_tally-requires
with_tally-requires c = answered_caller _ _ (sym c.in_ok-caller_fault.ensures)

pub returns : goal.returns
returns c =
    let holds = with_delivery _ _ _ _ _ _ _ _
    (walk_answered _ _ _ _ _ _ c.tally_of.ensures _ _ c.with_tally.ensures _ _
    (rw c.in-Some.ensures.cases.same at c.in_ok-walk.ensures.says) c.in-Some.ensures.cases.long (sym c.in_ok-caller_fault.ensures)) in
    record {
      says = holds.0;
      arrives = holds.1.0;
      full = holds.1.1;
    }
