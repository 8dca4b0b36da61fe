-- A walk with hops has its first two cards in the plan, and the column between them. What holds of a frame on a plan that was read is said
-- by `walk_counted`. Assumes nothing.
use native.Mathlib.Omega.{arith}
use mathlib.Core.Path.{refl, ◌∙◌}
use Rattle.reader.proofs.Reading.{says_laid_out}
use Rattle.rack.proofs.RefusalNumbers.{refusal_numbered}
use Rattle.crossing.proofs.Answers.{walk_cards, walk_crosses_none, walk_crosses_column}
use Rattle.crossing.proofs.walk_frame.Goals as goal

pub returns-then-walked-eq0-clause-says : goal.returns-then-walked-eq0-clause-says
returns-then-walked-eq0-clause-says c = walk_crosses_none _ _ _ _ _ _ _ c.in_ok-walked.ensures.says (omega arith) refl

pub returns-in_err-sized : goal.returns-in_err-sized
returns-in_err-sized c =
    let cards = walk_cards _ _ _ _ _ _ _ c.in_ok-walked.ensures.says (λ e. omega arith) in
    absurd (refusal_numbered _ (c.in_err-sized.ensures.says.number ∙ cards.0))

pub first_column-crossed-requires : goal.first_column-crossed-requires
first_column-crossed-requires c =
    let cards = walk_cards _ _ _ _ _ _ _ c.in_ok-walked.ensures.says (λ e. omega arith) in
    let sized = says_laid_out _ _ c.in_ok-sized.ensures.says refl in
    (omega (arith, cards.1, sized.cards), omega (arith, cards.2, sized.cards))

pub returns-clause-says : goal.returns-clause-says
returns-clause-says c =
    walk_crosses_column _ _ _ _ _ _ _ c.in_ok-walked.ensures.says (λ e. omega arith) (rw (c.in_ok-sized.ensures.bytes, c.from.ensures) at c.first_column-crossed.ensures)
