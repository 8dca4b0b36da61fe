-- The planner's answer for the wiring file inside, its length and its bytes decide. Assumes nothing.
use mathlib.Core.Path.{refl, sym, ◌∙◌}
use borrow.Author.Tests.{ne_eqb}
use Rattle.rack.proofs.RefusalNumbers.{refusal_numbered}
use Rattle.reader.proofs.Parts.{beginning_tested}
use Rattle.reader.proofs.ReadAnswer.{inner_written, content_room, content_refused, content_other_length, content_as_compared}
use Rattle.reader.proofs.read.content_holds.Goals as goal

pub returns-in-Err : goal.returns-in-Err
returns-in-Err c =
    let w = inner_written _ _ c.args.plan.sized c.inner_file.ensures _ _ c.in-Err.ensures.says in
    sym (content_refused _ _ _ _ w (refusal_numbered c.in-Err.field-0))

pub begins_with-requires : goal.begins_with-requires
begins_with-requires c =
    let w = inner_written _ _ c.args.plan.sized c.inner_file.ensures _ _ c.in-Ok.ensures.says in
    content_room _ _ _ _ w refl c.if-length-plan.true

pub returns-then-length-plan : goal.returns-then-length-plan
returns-then-length-plan c =
    let w = inner_written _ _ c.args.plan.sized c.inner_file.ensures _ _ c.in-Ok.ensures.says in
    let room = content_room _ _ _ _ w refl c.if-length-plan.true in
    sym (content_as_compared _ _ _ _ w refl c.if-length-plan.true _ (beginning_tested _ _ room _ c.begins_with.ensures))

pub returns-else-length-plan : goal.returns-else-length-plan
returns-else-length-plan c =
    let w = inner_written _ _ c.args.plan.sized c.inner_file.ensures _ _ c.in-Ok.ensures.says in
    ne_eqb _ _ c.if-length-plan.false ∙ sym (content_other_length _ _ _ _ w refl c.if-length-plan.false)
