-- The number that reading answers comes before 14, and a plan that was read is measured. Assumes nothing.
use mathlib.Core.Path.{ap}
use mathlib.Core.List.{List}
use Prim.Native.Nat.{ℕ}
use Rattle.std.specs.Borrow.{Bor}
use Rattle.std.proofs.lemmas.Result.{IfOk-weaker}
use Rattle.conference.specs.Conference.{conference_refusal}
use Rattle.conference.proofs.Answers.{says_behind, promise_behind}
use Rattle.conference.proofs.conference_card.Goals as goal

pub returns : goal.returns
unfolding conference_refusal
returns c =
    let read = c.read_plan.ensures in
    let same = IfOk-weaker c.read_plan.result _ _ (λ r e. ap (λ (p : Bor (List ℕ)). p.now) e) read.bytes in
    let answer = c.conference_sized.ensures in
    record {
      says = says_behind _ _ _ _ _ _ c.read_plan.result read.says same answer.says answer.before;
      promise = promise_behind _ _ _ _ _ c.read_plan.result same answer.promise answer.before;
    }
