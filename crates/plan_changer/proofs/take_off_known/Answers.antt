-- A refusal comes before the lent bytes are cleared; else the plan with a card less is left. Assumes nothing.
use Rattle.std.proofs.Common.{sym, ◌∙◌, refl, arith}
use Rattle.rack.specs.declared.refused.Refused.TheVariants.{NotLast}
use Rattle.plan_parts.proofs.Searching.{hangs_linked}
use Rattle.plan_changer.proofs.Refused.{not_hanging_refused, hanging_clear}
use Rattle.plan_changer.proofs.Answers.{plan_refused, plan_left}
use Rattle.plan_changer.proofs.take_off_known.Goals as goal

pub returns-then-not-last_hangs : goal.returns-then-not-last_hangs
returns-then-not-last_hangs c =
    plan_refused _ _ _ NotLast
    (not_hanging_refused 0 _ refl (sym c.last_hangs.ensures ∙ c.if-not-last_hangs.true))
    (λ e. omega arith)

pub put_fewer-requires : goal.put_fewer-requires
put_fewer-requires c =
    let linked = hangs_linked _ c.args.plan.sized (sym c.last_hangs.ensures ∙ c.if-not-last_hangs.false) in
    (linked, c.requires.crossed linked)

pub returns : goal.returns
returns c =
    plan_left _ _ _ _ _ (hanging_clear 0 _ refl (sym c.last_hangs.ensures ∙ c.if-not-last_hangs.false))
    c.put_fewer.ensures.long (omega (arith, c.told-output)) c.put_fewer.ensures.bytes
