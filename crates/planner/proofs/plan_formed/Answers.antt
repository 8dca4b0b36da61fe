-- Each stage refuses, or hands on what the next one needs. Assumes nothing.
use Rattle.std.proofs.lemmas.Result.{err_from_is_err_and}
use Rattle.rack.proofs.Acceptance.{reach_clear}
use Rattle.planner.proofs.RackPlanned.{unreached_planned}
use Rattle.planner.proofs.plan_formed.Goals as goal

pub returns-in_err-reach_refusal : goal.returns-in_err-reach_refusal
returns-in_err-reach_refusal c =
    let p = err_from_is_err_and c.from_residual.result c.from_residual.ensures.1 in
    rw (p.1, p.2) (unreached_planned _ _ _ _ c.in_err-reach_refusal.ensures c.told-words c.reach_refusal.array_long)

pub all_hops-requires : goal.all_hops-requires
all_hops-requires c = reach_clear _ c.in_ok-reach_refusal.ensures

pub invariant_of-plan_connected : goal.invariant_of-plan_connected
invariant_of-plan_connected c = record { connected = reach_clear _ c.in_ok-reach_refusal.ensures }
