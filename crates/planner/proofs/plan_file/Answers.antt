-- Sizes refuse first. Assumes nothing.
use Rattle.std.proofs.lemmas.Result.{err_from_is_err_and}
use Rattle.planner.proofs.RackPlanned.{sizes_planned}
use Rattle.planner.proofs.plan_file.Goals as goal

pub returns-in_err-sized_file : goal.returns-in_err-sized_file
returns-in_err-sized_file c =
    let p = err_from_is_err_and c.from_residual.result c.from_residual.ensures.1 in
    rw (p.1, p.2)
    (sizes_planned _ _ _ _ c.in_err-sized_file.ensures.refuses c.told-words c.told-hops)
