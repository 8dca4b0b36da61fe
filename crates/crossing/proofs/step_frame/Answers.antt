-- A step over a link has both its cards in the plan, and the column between them. Assumes nothing.
use native.Mathlib.Omega.{arith}
use mathlib.Core.Path.{refl, ◌∙◌}
use mathlib.Core.Logic.{inl, inr}
use Rattle.reader.proofs.Reading.{says_laid_out}
use Rattle.rack.proofs.RefusalNumbers.{refusal_numbered}
use Rattle.crossing.proofs.Answers.{not_over, step_cards, step_crosses_none, step_crosses_column}
use Rattle.crossing.proofs.step_frame.Goals as goal

pub returns-in_err-sized-in-Over : goal.returns-in_err-sized-in-Over
returns-in_err-sized-in-Over c =
    let cards = step_cards _ _ _ _ (rw c.in-Over.is at c.in_ok-step.ensures) refl in
    absurd (refusal_numbered _ (c.in_err-sized-in-Over.ensures.says.number ∙ cards.0))

pub first_column-crossed-requires : goal.first_column-crossed-requires
first_column-crossed-requires c =
    let cards = step_cards _ _ _ _ (rw c.in-Over.is at c.in_ok-step.ensures) refl in
    let sized = says_laid_out _ _ c.in_ok-sized-in-Over.ensures.says refl in
    (omega (arith, cards.1, sized.cards), omega (arith, cards.2, sized.cards))

pub returns-in_ok-sized-in-Over : goal.returns-in_ok-sized-in-Over
returns-in_ok-sized-in-Over c =
    step_crosses_column _ _ _ _ (rw c.in-Over.is at c.in_ok-step.ensures) refl
    (rw c.in_ok-sized-in-Over.ensures.bytes at c.first_column-crossed.ensures)

pub returns-in-Stuck : goal.returns-in-Stuck
returns-in-Stuck c = step_crosses_none _ _ _ _ c.in_ok-step.ensures (not_over _ (inl c.in-Stuck.is)) refl

pub returns-in-Arrived : goal.returns-in-Arrived
returns-in-Arrived c = step_crosses_none _ _ _ _ c.in_ok-step.ensures (not_over _ (inr c.in-Arrived.is)) refl
