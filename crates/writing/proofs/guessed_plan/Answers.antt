-- A plan that is read is the planner's. Assumes nothing.
use Rattle.planner.proofs.RackPlanned.{sizes_clear}
use Rattle.writing.proofs.GuessedPlans.{guess_read, read_clear}
use Rattle.writing.proofs.guessed_plan.Goals as goal

pub put_plan-length-requires : goal.put_plan-length-requires
put_plan-length-requires c = c.in_ok-k.ensures

pub returns : goal.returns
returns c =
    guess_read _ _ _ c.requires _ (sizes_clear _ _ _ c.args.file.sizes)
    c.put_plan-length.ensures.bytes _ c.put_plan-length.ensures.long
    (read_clear _ _ c.in_ok-ok.ensures.variant c.read_plan.ensures.says)
