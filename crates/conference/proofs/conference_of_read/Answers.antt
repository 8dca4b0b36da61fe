-- 14 where a number is no card's, and else the answer is what the search gives. Assumes nothing.
use Rattle.std.proofs.Common.{refl, inl, inr, arith}
use Rattle.conference.proofs.Answers.{says_outside, says_lowest}
use Rattle.conference.proofs.Promises.{with_promise}
use Rattle.conference.proofs.conference_of_read.Goals as goal
use Rattle.conference.proofs.conference_of_read.Goals.{then-plan-a-via-then-plan-a, then-plan-a-via-else-plan-a+then-plan-b, then-plan-a-via-else-plan-a+else-plan-b+then-plan-c}

pub returns-then-plan-a-clause-says : goal.returns-then-plan-a-clause-says
returns-then-plan-a-clause-says c =
    let cards = c.args.read.plan.sized.cards in
    says_outside _ _ _ _
    (elim c.then-plan-a.branch [
      | then-plan-a-via-then-plan-a w ↦ inl (omega arith)
      | then-plan-a-via-else-plan-a+then-plan-b w ↦ inr (inl (omega arith))
      | then-plan-a-via-else-plan-a+else-plan-b+then-plan-c w ↦ inr (inr (omega arith))
    ])

pub returns : goal.returns
returns c =
    let cards = c.args.read.plan.sized.cards in
    let says = says_lowest _ _ _ _ (omega arith) (omega arith) (omega arith) _ c.lowest_median.ensures in
    record { says = says; promise = (with_promise _ _ _ _ 0 (λ _. c.args.read.measured) _ says).1 refl }
