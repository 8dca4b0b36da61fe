-- The column that a step crosses depends on nothing but what the step does. Assumes nothing.
use mathlib.Core.Path.{◌≡◌, sym, ap, ◌∙◌}
use mathlib.Core.List.{List}
use Prim.Native.Nat.{ℕ}
use borrow.Author.Tests.{ne_eqb}
use Rattle.rack.proofs.Logic.{by_eq}
use Rattle.rack.specs.PlanFile.{plan_columns, plan_bit}
use Rattle.forwarder.specs.Forwarding.{Step, step}
use Rattle.forwarder.specs.Calls.{Stepped, step_refusal}
use Rattle.forwarder.specs.Promises.{SameAddress, StepLocal, StepCallLocal}
use Rattle.forwarder.proofs.Frames.{answered_cards}
use Rattle.forwarder.proofs.Promises.{step_local, step_call_local}
use Rattle.forwarder.proofs.Stepping.{step_two, step_far_below}
use Rattle.crossing.specs.Differing.{plan_differing}
use Rattle.crossing.specs.Crossing.{FrameStep, FirstColumn, step_column, ColumnOrNone}
use Rattle.crossing.specs.Promises.{StepColumnLocal, FrameStepLocal}
use Rattle.crossing.proofs.Differing.{differing_ext}
use Rattle.crossing.proofs.Crossed.{column_over, column_none}

same_differing : (ps qs : List ℕ) (c d : ℕ) → plan_columns ps ≡ plan_columns qs → SameAddress ps qs c → SameAddress ps qs d
    → plan_differing ps c d ≡ plan_differing qs c d
unfolding plan_differing
same_differing ps qs c d e hc hd = rw (← e) (differing_ext (plan_columns ps) (plan_bit ps c) (plan_bit ps d) (plan_bit qs c) (plan_bit qs d) hc hd)

pub step_column_local : StepColumnLocal
unfolding StepColumnLocal StepLocal
step_column_local ps qs a b en em ek touch other far own goal =
    by_eq (step ps a b).outcome 2
    (λ e. column_over ps a b e ∙ over e ∙ sym (column_over qs a b (ap (λ (s : Step). s.outcome) (sym same) ∙ e)))
    (λ n. column_none ps a b n ∙ ek ∙ sym (column_none qs a b (λ e. n (ap (λ (s : Step). s.outcome) same ∙ e))))
  where
    same : step ps a b ≡ step qs a b
    same = step_local ps qs a b en em ek touch other far own goal

    over : (step ps a b).outcome ≡ 2 → plan_differing ps a (step ps a b).far ≡ plan_differing qs a (step qs a b).far
    over e =
        let o = step_two ps a b e in
        let below = rw o.far at (step_far_below ps a b e) in
        same_differing ps qs a (step ps a b).far ek own (rw o.far (far (step ps a b).link (o.inside, o.nearer.of_a) below))
        ∙ ap (λ (s : Step). plan_differing qs a s.far) same

-- answers are equal by their fields
frame_step : Stepped → (found column : ℕ) → FrameStep
frame_step s f j = record { stepped = s; crossed = record { found = f; column = j } }

module _ (r s : FrameStep) (stepped : r.stepped ≡ s.stepped) (found : r.crossed.found ≡ s.crossed.found)
    (column : r.crossed.column ≡ s.crossed.column) where
  same_fields : frame_step r.stepped r.crossed.found r.crossed.column ≡ frame_step s.stepped s.crossed.found s.crossed.column
  same_fields = cc (stepped, found, column)

  same_frame_step : r ≡ s
  unfolding frame_step
  same_frame_step = same_fields

-- two answers that pass on the same column, or none
same_columns : (refused j k refused' j' k' : ℕ) (r s : FirstColumn) → refused ≡ refused' → k ≡ k' → (refused ≡ 0 → j ≡ j')
    → ColumnOrNone refused j k r → ColumnOrNone refused' j' k' s
    → (r.found ≡ s.found) × (r.column ≡ s.column)
same_columns refused j k refused' j' k' r s e f g hr hs =
    by_eq refused 0
    (λ z. let there : ColumnOrNone refused j k s = rw (e, f, g z) hs in
    (hr.found ∙ sym there.found, hr.column ∙ sym there.column))
    (λ n. let none = ne_eqb refused 0 n in
    let none' = ne_eqb refused' 0 (λ z. n (e ∙ z)) in
    ((rw none at hr.found) ∙ sym (rw none' at hs.found), (rw none at hr.column) ∙ sym (rw none' at hs.column)))

-- THE CALL
pub frame_step_local : FrameStepLocal
unfolding FrameStepLocal StepCallLocal StepColumnLocal
frame_step_local ps qs a b r s en em ek touch other far own goal long hr hs =
    let stepped = step_call_local ps qs a b r.stepped s.stepped en em ek touch other far own goal long hr.stepped hs.stepped in
    let refusals = sym hr.stepped.number ∙ ap (λ (x : Stepped). x.number) stepped ∙ hs.stepped.number in
    let crossed =
    same_columns (step_refusal ps a b) (step_column ps a b) (plan_columns ps) (step_refusal qs a b) (step_column qs a b) (plan_columns qs)
    r.crossed s.crossed refusals ek (λ e. let cards = answered_cards ps a b e in
    step_column_local ps qs a b en em ek touch other far (own cards.0) (goal cards.1)) hr.crossed hs.crossed
    in
    same_frame_step r s stepped crossed.0 crossed.1
