-- A refusal of the reading comes before 14. Assumes nothing.
use Rattle.std.proofs.lemmas.Result.{IfOk-weaker}
use Rattle.conference.proofs.Answers.{says_behind, promise_behind}
use Rattle.carried.proofs.Opened.conference.Goals as goal

pub returns : goal.returns
returns c =
    let read = c.read.ensures in
    let same = IfOk-weaker c.read.result _ _ (λ r s. s.bytes) read.bytes in
    let answer = c.conference_sized.ensures in
    record {
      says = says_behind _ _ _ _ _ _ c.read.result read.says.says same answer.says answer.before;
      promise = promise_behind _ _ _ _ _ c.read.result same answer.promise answer.before;
    }
