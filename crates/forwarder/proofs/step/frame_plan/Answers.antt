-- The layout's answer is 12 or the sizes, and with them each card number is tested against the cards. Assumes nothing.
use mathlib.Core.Path.{refl}
use mathlib.Core.Logic.{inl, inr}
use Rattle.std.proofs.lemmas.Result.{err_from_is_err_and}
use Rattle.rack.proofs.RefusalNumbers.{refusal_numbered}
use Rattle.forwarder.proofs.Frames.{sizes_no_plan, sizes_no_card, sizes_both_cards}
use Rattle.forwarder.proofs.step.frame_plan.Goals as goal
use Rattle.forwarder.proofs.step.frame_plan.Goals.{then-sized-from-via-then-sized-from, then-sized-from-via-else-sized-from+then-sized-goal}

pub returns-in_err-sized-clause-says : goal.returns-in_err-sized-clause-says
returns-in_err-sized-clause-says c =
    let p = err_from_is_err_and c.from_residual.result c.from_residual.ensures.1 in
    rw (p.1, p.2) (sizes_no_plan _ _ _ _ c.in_err-sized.ensures.says (refusal_numbered _))

pub returns-then-sized-from-clause-says : goal.returns-then-sized-from-clause-says
returns-then-sized-from-clause-says c =
    let says = c.in_ok-sized.ensures.says in
    elim c.then-sized-from.branch [
      | then-sized-from-via-then-sized-from w ↦ sizes_no_card _ _ _ _ says _ refl (inl w.if-sized-from.true) refl
      | then-sized-from-via-else-sized-from+then-sized-goal w ↦ sizes_no_card _ _ _ _ says _ refl (inr w.if-sized-goal.true) refl
    ]

pub returns-clause-says : goal.returns-clause-says
returns-clause-says c = sizes_both_cards _ _ _ _ c.in_ok-sized.ensures.says refl c.if-sized-from.false c.if-sized-goal.false
