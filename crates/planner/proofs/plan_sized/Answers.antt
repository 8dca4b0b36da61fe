-- Links refuse; a file that passes them is formed. Assumes nothing.
use mathlib.Core.Path.{subst}
use mathlib.Core.List.{List}
use Prim.Native.Nat.{ℕ}
use Rattle.std.proofs.lemmas.Result.{err_from_is_err_and}
use Rattle.rack.specs.WiringFile.{file_wiring}
use Rattle.planner.specs.Answer.{answer_of}
use Rattle.planner.specs.Stages.{RackPlanned}
use Rattle.planner.proofs.RackPlanned.{links_planned, rack_file_planned, sizes_clear}
use Rattle.planner.proofs.plan_sized.Goals as goal

pub returns-in_err-formed : goal.returns-in_err-formed
returns-in_err-formed c =
    let p = err_from_is_err_and c.from_residual.result c.from_residual.ensures.1 in
    rw (p.1, p.2)
    (links_planned _ _ _ _ (sizes_clear _ _ _ c.args.file.sizes) c.in_err-formed.ensures.refuses c.told-words c.formed_file.array_long)

pub returns : goal.returns
returns c =
    rack_file_planned _ _ _ _ (sizes_clear _ _ _ c.args.file.sizes) c.in_ok-formed.ensures.refuses
    (subst (λ (bs : List ℕ). RackPlanned (file_wiring bs) (answer_of c.plan_formed.result) c.plan_formed.new.words c.plan_formed.new.hops)
    c.in_ok-formed.ensures.same c.plan_formed.ensures)
