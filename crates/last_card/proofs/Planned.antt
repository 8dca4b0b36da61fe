-- The wiring with a card more and the one without the last card are planned: their plans are read with them inside, and are what the plan writer
-- leaves for their files. And what a call's answer says of a plan that it leaves and of its sum. Assumes nothing.
use mathlib.Core.Path.{◌≡◌, refl, sym, ap, ◌∙◌}
use mathlib.Core.Bool.{true}
use mathlib.Core.Logic.{inl, inr, ◌≢◌}
use mathlib.Core.List.{List, ◌++◌}
use Prim.Native.Nat.{ℕ, ◌-◌, ◌≤◌, ◌<◌}
use native.Mathlib.Omega.{arith}
use lib.ListN.{length, take, replicate}
use lib.Seq.{take_at}
use borrow.Author.Tests.{eq-eqb, ne_eqb}
use Rattle.rack.specs.Limits.{most_cards, most_links, lent_plan}
use Rattle.rack.specs.Wiring.{Wiring, link_count}
use Rattle.rack.specs.Refusals.{wiring_refusal}
use Rattle.rack.specs.WiringFile.{file_wiring, file_refusal, file_bytes}
use Rattle.rack.specs.PlanFile.{plan_cards, plan_links, plan_wiring}
use Rattle.rack.proofs.Accepted.{wiring_accepted}
use Rattle.rack.proofs.WiringFile.{wiring_at_cards, wiring_at_count}
use Rattle.planner.specs.PlanBytes.{plan_bytes}
use Rattle.planner.specs.Planning.{left_in, writing_refusal, WriteSays}
use Rattle.planner.specs.Answer.{Answer}
use Rattle.reader.specs.Plan.{plan_refusal}
use Rattle.reader.specs.Promises.{ReadExactly}
use Rattle.reader.proofs.Plan.{Layout, layout_facts, plan_clear, plan_read}
use Rattle.reader.proofs.Promises.{read_exactly}
use Rattle.pendant.specs.Pendant.{with_card, without_card, last_hangs}
use Rattle.pendant.proofs.Acceptance.{count_links, accepted_added, accepted_removed}
use Rattle.totals.specs.Totals.{total_hops}
use Rattle.plan_changer.specs.Changing.{NewPlan, NewPlanIs}
use Rattle.plan_changer.proofs.Refused.{Full}
use Rattle.last_card.specs.Calls.{SummedPlan, ChangedIs}
use Rattle.last_card.proofs.ChangedPlans.{pendant_more, pendant_less}

-- PLANNED: the wiring's plan is read with it inside, and its file is accepted with it inside
pub record Planned (w : Wiring) : Type 0 where
  pub read : plan_refusal (plan_bytes w) ≡ 0
  pub inside : plan_wiring (plan_bytes w) ≡ w
  pub file : (file_refusal (file_bytes w)).number ≡ 0
  pub file_inside : file_wiring (file_bytes w) ≡ w

accepted_planned : (w : Wiring) → 1 ≤ w.cards → w.cards ≤ most_cards → link_count w ≤ most_links → (wiring_refusal w).number ≡ 0 → Planned w
unfolding ReadExactly
accepted_planned w some cards links h =
    let r = plan_read w (wiring_accepted w some h) cards links h in
    let e = read_exactly.0 (plan_bytes w) r.0 in
    record { read = r.0; inside = r.1; file = rw r.1 at e.0; file_inside = rw r.1 at e.1 }

module _ (ps : List ℕ) (h : plan_refusal ps ≡ 0) where
  layout : Layout ps
  layout = layout_facts ps (plan_clear ps h).0

  pub added_planned : (c : ℕ) → c < plan_cards ps → (Full (plan_cards ps) (plan_links ps) → ⊥) → Planned (with_card (plan_wiring ps) c)
  added_planned c inside fits =
      let few : plan_cards ps ≢ most_cards = λ e. fits (inl e) in
      let few_links : plan_links ps ≢ most_links = λ e. fits (inr e) in
      let pd = pendant_more ps h c inside in
      accepted_planned (with_card (plan_wiring ps) c) (omega (arith, pd.cards))
      (omega (arith, pd.cards, layout.few, wiring_at_cards 6 ps)) (omega (arith, count_links pd, layout.few_links, wiring_at_count 6 ps))
      (accepted_added pd (plan_clear ps h).1)

  pub taken_off_planned : last_hangs (plan_wiring ps) ≡ true → Planned (without_card (plan_wiring ps))
  taken_off_planned hangs =
      let pd = pendant_less ps h hangs in
      accepted_planned (without_card (plan_wiring ps)) (omega (arith, pd.inside))
      (omega (arith, pd.cards, layout.few, wiring_at_cards 6 ps)) (omega (arith, count_links pd, layout.few_links, wiring_at_count 6 ps))
      (accepted_removed pd (plan_clear ps h).1)

-- AN ANSWER
module _ {x : ℕ} {plan : List ℕ} {r : NewPlan} {output output_now : List ℕ} (says : NewPlanIs x plan r output output_now) where
  pub refused_keeps : r.number ≢ 0 → (r.length ≡ 0) × (output_now ≡ output)
  refused_keeps d =
      let t = ne_eqb x 0 (λ e. d (says.number ∙ e)) in
      (says.long ∙ rw t refl, says.output_left ∙ rw t refl)

  module _ (z : r.number ≡ 0) where
    pub not_refused : x ≡ 0
    not_refused = sym says.number ∙ z

    pub length_left : r.length ≡ length plan
    length_left = says.long ∙ rw (eq-eqb x 0 not_refused) refl

    bytes_left : output_now ≡ plan ++ replicate (length output - length plan) 0
    bytes_left = says.output_left ∙ rw (eq-eqb x 0 not_refused) refl

    pub part_left : take r.length output_now ≡ plan
    part_left = ap (take r.length) bytes_left ∙ take_at plan (replicate (length output - length plan) 0) r.length (sym length_left)

-- A CHANGED PLAN, which has the sum of its hops beside it
module _ {x : ℕ} {w : Wiring} {r : SummedPlan} {output output_now : List ℕ} (says : ChangedIs x w r output output_now) where
  pub refused_sum_zero : r.number ≢ 0 → r.total ≡ 0
  refused_sum_zero d = says.total ∙ rw (ne_eqb x 0 (λ e. d (says.plan.number ∙ e))) refl

  module _ (z : r.number ≡ 0) where
    pub sum_left : r.total ≡ total_hops w
    sum_left = says.total ∙ rw (eq-eqb x 0 (not_refused says.plan z)) refl

    -- of a planned wiring: the part that is left is read, and the plan writer leaves the same
    module _ (p : Planned w) where
      pub part_read : let new = take r.length output_now in
          (plan_refusal new ≡ 0) × (plan_wiring new ≡ w) × (r.total ≡ total_hops (plan_wiring new))
      part_read =
          let bytes = part_left says.plan z in
          let inside = ap plan_wiring bytes ∙ p.inside in
          (ap plan_refusal bytes ∙ p.read, inside, sum_left ∙ sym (ap total_hops inside))

      pub as_written : length output ≡ lent_plan → (a : Answer) (other other_now : List ℕ) → length other ≡ lent_plan
          → WriteSays (file_bytes w) a other other_now → (a.number ≡ 0) × (a.value ≡ r.length) × (other_now ≡ output_now)
      unfolding writing_refusal left_in
      as_written room a other other_now lent writes =
          let clear : (writing_refusal (file_bytes w) (length other)).number ≡ 0 = rw (eq-eqb (length other) lent_plan lent) p.file in
          let number : a.number ≡ 0 = writes.answer.number ∙ clear in
          let same : length other ≡ length output = lent ∙ sym room in (
            number,
            writes.answer.value
                ∙ rw (eq-eqb (writing_refusal (file_bytes w) (length other)).number 0 clear, p.file_inside) (sym (length_left says.plan z)),
            writes.output_left ∙ rw (number, p.file_inside, same) (sym (bytes_left says.plan z)),
          )
