-- A refusal comes before the lent bytes are cleared; else the plan with a card more is left. Assumes nothing.
use Rattle.std.proofs.Common.{inl, inr, ⊎_elim, refl, arith}
use Rattle.rack.specs.declared.refused.Refused.TheVariants.{NoCard, Largest}
use Rattle.plan_changer.proofs.Refused.{card_outside, full_refused, card_fits}
use Rattle.plan_changer.proofs.Answers.{plan_refused, plan_left}
use Rattle.plan_changer.proofs.add_known.Goals as goal

pub returns-then-plan-c : goal.returns-then-plan-c
returns-then-plan-c c = plan_refused _ _ _ NoCard (card_outside 0 _ _ _ refl (omega arith)) (λ e. omega arith)

pub returns-then-plan-eq-MOST_CARDS : goal.returns-then-plan-eq-MOST_CARDS
returns-then-plan-eq-MOST_CARDS c =
    plan_refused _ _ _ Largest
    (full_refused 0 _ _ _ refl (omega arith) (⊎_elim inl (λ e. inr e.1) c.then-plan-eq-MOST_CARDS.either))
    (λ e. omega arith)

pub put_more-requires : goal.put_more-requires
put_more-requires c =
    let z = c.args.plan.sized in
    (omega (arith, z.few), omega (arith, z.few_links), omega (arith, z.few, c.requires.few), omega arith)

pub returns : goal.returns
returns c =
    plan_left _ _ _ _ _ (card_fits 0 _ _ _ refl (omega arith) (λ f. ⊎_elim (λ e. omega arith) (λ e. omega arith) f)) c.put_more.ensures.long
    (omega (arith, c.told-output)) c.put_more.ensures.bytes
