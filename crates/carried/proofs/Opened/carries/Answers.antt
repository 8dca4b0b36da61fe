-- The layout first, then size by size. Assumes nothing.
use Rattle.std.proofs.Common.{refl, sym, ◌∙◌, eq-eqb, ne_eqb}
use borrow.Author.Tests.{eqb-true}
use Rattle.rack.proofs.RefusalNumbers.{refusal_numbered}
use Rattle.carried.proofs.Carrying.{no_layout_carries, carries_as_compared}
use Rattle.carried.proofs.Opened.carries.Goals as goal
use Rattle.carried.proofs.Opened.carries.Goals.{then-self-plan, else-self-plan}

pub returns-then-self-plan-2 : goal.returns-then-self-plan-2
returns-then-self-plan-2 c =
    let s = c.args.self in
    let compared = carries_as_compared _ s.cards s.links s.columns _ c.in-Ok.ensures.says refl in
    elim c.if-self-plan.branch [
      | then-self-plan w ↦ rw (compared, eq-eqb _ _ w.if-self-plan.true, ← w.value-is, c.if-self-plan-2.true) refl
      | else-self-plan w ↦ absurd (w.if-self-plan.false (eqb-true _ _ (sym w.value-is ∙ c.if-self-plan-2.true)))
    ]

pub returns-else-self-plan-2 : goal.returns-else-self-plan-2
returns-else-self-plan-2 c =
    let s = c.args.self in
    let compared = carries_as_compared _ s.cards s.links s.columns _ c.in-Ok.ensures.says refl in
    elim c.if-self-plan.branch [
      | then-self-plan w ↦ rw (compared, eq-eqb _ _ w.if-self-plan.true, ← w.value-is, c.if-self-plan-2.false) refl
      | else-self-plan w ↦ rw (compared, ne_eqb _ _ w.if-self-plan.false, c.if-self-plan-2.false) refl
    ]

pub returns-in-Err : goal.returns-in-Err
returns-in-Err c = sym (no_layout_carries _ _ _ _ _ c.in-Err.ensures.says (refusal_numbered _))
