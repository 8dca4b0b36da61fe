-- 1 and the reader's refusals come before the record is written; else it has the plan's sizes. The promise follows. Assumes nothing.
use mathlib.Core.Path.{refl}
use Rattle.std.specs.Prelude.{Ok, Err}
use Rattle.rack.proofs.RefusalNumbers.{refusal_numbered}
use Rattle.reader.specs.Reading.{sizes_of}
use Rattle.jolvente.proofs.Answers.{no_room, read_refused, sizes_said}
use Rattle.jolvente.proofs.PlanPromise.{with_promise}
use Rattle.jolvente.proofs.jolvente_read_plan.Goals as goal

pub returns-in_default : goal.returns-in_default
returns-in_default c = with_promise _ _ _ _ (no_room c.args.plan.now c.args.«record».now c.in_default.ensures.cases)

pub returns-in-Ok : goal.returns-in-Ok
returns-in-Ok c =
    with_promise _ _ _ _ (sizes_said _ _ (sizes_of (Ok c.in-Ok.read.plan)) c.in-Some.ensures.cases.long c.in-Ok.ensures.says refl _ c.put_record.ensures)

pub returns-in-Err : goal.returns-in-Err
returns-in-Err c =
    rw (c.number.ensures, c.in-Some.ensures.cases.same)
    (with_promise _ _ _ _
    (read_refused _ _ (sizes_of (Err c.in-Err.refused)) c.in-Some.ensures.cases.long c.in-Err.ensures.says (refusal_numbered c.in-Err.refused)))
