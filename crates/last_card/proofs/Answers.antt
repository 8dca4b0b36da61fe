-- What the calls answer, from what reading with the sum said of the plan and what was made of its bytes. Assumes nothing.
use Rattle.std.specs.Prelude.{Ok, Err}
use mathlib.Core.Path.{◌≡◌, refl, sym, ◌∙◌, subst, subst₂}
use mathlib.Core.Bool.{true}
use mathlib.Core.Logic.{◌≢◌}
use mathlib.Core.List.{List}
use Prim.Native.Nat.{ℕ, ◌+◌, ◌-◌, ◌≤◌, ◌<◌}
use native.Mathlib.Omega.{arith}
use lib.ListN.{length}
use borrow.Author.Tests.{eq-eqb, ne_eqb}
use Rattle.rack.specs.Limits.{lent_plan}
use Rattle.rack.specs.Wiring.{Wiring}
use Rattle.rack.specs.PlanFile.{plan_cards, plan_links, plan_wiring, Sized}
use Rattle.planner.specs.PlanBytes.{plan_bytes}
use Rattle.rack.specs.Refused.{refusal_of}
use Rattle.rack.specs.declared.refused.Refused.{Refused}
use Rattle.rack.specs.declared.views.Plan.{Plan}
use Rattle.reader.specs.Reading.{sizes_of}
use Rattle.rack.proofs.RefusalNumbers.{refusal_numbered}
use Rattle.pendant.specs.Pendant.{without_card, last_hangs}
use Rattle.totals.specs.Totals.{hops_to, total_hops}
use Rattle.plan_totals.specs.Summed.{total_refusal, ReadWithTotalSays}
use Rattle.plan_totals.proofs.Refusals.{total_clear}
use Rattle.plan_totals.proofs.Answers.{total_laid_out}
use Rattle.plan_changer.specs.Changed.{more_bytes, fewer_bytes}
use Rattle.plan_changer.specs.Changing.{NewPlan, NewPlanIs, new_plan_of, add_refusal, off_refusal}
use Rattle.plan_changer.proofs.Refused.{refused_before, clear_fits, off_refused_before, clear_hanging}
use Rattle.plan_changer.proofs.Answers.{plan_refused}
use Rattle.last_card.specs.Calls.{add_card_refusal, take_off_refusal, summed_plan_of, ChangedIs, AddSays, TakeOffSays}
use Rattle.last_card.specs.Promises.{ReadWith}
use Rattle.last_card.proofs.ChangedPlans.{more_bytes_planned, fewer_bytes_planned}
use Rattle.last_card.proofs.ChangedSums.{total_few, hops_few, total_more, total_less}
use Rattle.last_card.proofs.Refusals.{add_in_room, take_off_in_room}
use Rattle.last_card.proofs.Planned.{refused_keeps}

-- A REFUSAL leaves the lent bytes
pub changed_refused : (refused : ℕ) (w : Wiring) (output : List ℕ) (e : Refused) → refused ≡ (refusal_of e).number
    → ChangedIs refused w (summed_plan_of (Err e)) output output
changed_refused refused w output e f =
    let n = refusal_numbered e in
    record {
      plan = plan_refused refused (plan_bytes w) output e f n;
      total = rw (ne_eqb refused 0 (λ z. n (sym f ∙ z))) refl;
    }

-- .. and so does one that comes from the changed bytes; with none, these are the planner's and come with their sum
module _ {x : ℕ} {plan output output_now : List ℕ} (refused : ℕ) (same : x ≡ refused) (w : Wiring) where
  changed_not_left : (e : Refused) → NewPlanIs x plan (new_plan_of (Err e)) output output_now → ChangedIs refused w (summed_plan_of (Err e)) output output_now
  changed_not_left e says =
      subst (ChangedIs refused w (summed_plan_of (Err e)) output) (sym (refused_keeps says (refusal_numbered e)).1)
      (changed_refused refused w output e (sym (says.number ∙ same)))

  changed_left : (size total : ℕ) → NewPlanIs x plan (new_plan_of (Ok size)) output output_now → plan ≡ plan_bytes w → total ≡ total_hops w
      → ChangedIs refused w (record { number = 0; length = size; total = total }) output output_now
  changed_left size total says bytes e =
      let left : NewPlan = record { number = 0; length = size } in
      record {
        plan = subst₂ (λ (i : ℕ) (bs : List ℕ). NewPlanIs i bs left output output_now) same bytes says;
        total = rw (eq-eqb refused 0 (sym (says.number ∙ same))) e;
      }

-- WITH A SUM THAT REFUSES the plan
module _ (ps : List ℕ) (t : ℕ) (e : Refused) (reads : ReadWithTotalSays ps t (sizes_of (Err e))) (output : List ℕ) (room : length output ≡ lent_plan) where
  refuses : total_refusal ps t ≢ 0
  refuses z = refusal_numbered e (reads.number ∙ z)

  pub add_not_read : (c : ℕ) → AddSays ps t c (summed_plan_of (Err e)) output output
  add_not_read c =
      changed_refused _ _ output e
      (add_in_room ps t c (length output) room ∙ refused_before (total_refusal ps t) (plan_cards ps) (plan_links ps) c refuses ∙ sym reads.number)

  pub take_off_not_read : TakeOffSays ps t (summed_plan_of (Err e)) output output
  take_off_not_read =
      changed_refused _ _ output e
      (take_off_in_room ps t (length output) room
      ∙ off_refused_before (total_refusal ps t) (last_hangs (plan_wiring ps)) refuses ∙ sym reads.number)

-- WITH THE PLAN'S OWN
module _ (ps : List ℕ) (t : ℕ) (p : Plan) (reads : ReadWithTotalSays ps t (sizes_of (Ok p))) where
  abbrev w : Wiring
  w = plan_wiring ps

  abbrev n : ℕ
  n = plan_cards ps

  clear : ReadWith ps t
  clear = total_clear ps t (sym reads.number)

  laid : Sized ps p.cards p.links p.columns
  laid = total_laid_out ps t (sizes_of (Ok p)) reads refl

  pub total_fits : t ≤ 16777216
  total_fits = total_few ps laid t clear.1

  pub hops_fit : (h a : ℕ) → h ≡ hops_to w n a → h ≤ 65536
  hops_fit = hops_few ps laid

  module _ (output output_now : List ℕ) (room : length output ≡ lent_plan) where
    -- A CARD MORE
    module _ (c : ℕ) where
      add_same : add_refusal 0 p.cards p.links c ≡ add_card_refusal ps t c (length output)
      add_same = rw (add_in_room ps t c (length output) room, ← reads.number, laid.cards, laid.links) refl

      pub adding_refused : (e : Refused) → NewPlanIs (add_refusal 0 p.cards p.links c) (more_bytes ps c) (new_plan_of (Err e)) output output_now
          → AddSays ps t c (summed_plan_of (Err e)) output output_now
      adding_refused e says = changed_not_left _ add_same _ e says

      module _ (size : ℕ) (says : NewPlanIs (add_refusal 0 p.cards p.links c) (more_bytes ps c) (new_plan_of (Ok size)) output output_now) where
        pub add_inside : c < p.cards
        add_inside = (clear_fits 0 p.cards p.links c (sym says.number)).1

        pub add_answered : (h : ℕ) → h ≡ hops_to w n c
            → AddSays ps t c (record { number = 0; length = size; total = t + p.cards + h }) output output_now
        add_answered h e =
            let inside : c < n = omega (arith, laid.cards, add_inside) in
            changed_left _ add_same _ size (t + p.cards + h) says (more_bytes_planned ps clear.0 c inside)
            (omega (arith, e, laid.cards, total_more ps t clear c inside))

    -- THE LAST CARD LESS
    off_same : off_refusal 0 (last_hangs w) ≡ take_off_refusal ps t (length output)
    off_same = rw (take_off_in_room ps t (length output) room, ← reads.number) refl

    pub taking_off_refused : (e : Refused) → NewPlanIs (off_refusal 0 (last_hangs w)) (fewer_bytes ps) (new_plan_of (Err e)) output output_now
        → TakeOffSays ps t (summed_plan_of (Err e)) output output_now
    taking_off_refused e says = changed_not_left _ off_same _ e says

    module _ (size : ℕ) (says : NewPlanIs (off_refusal 0 (last_hangs w)) (fewer_bytes ps) (new_plan_of (Ok size)) output output_now) where
      hangs : last_hangs w ≡ true
      hangs = (clear_hanging 0 (last_hangs w) (sym says.number)).1

      pub take_off_sum : t ≡ total_hops (without_card w) + hops_to w n (p.cards - 1)
      take_off_sum = rw laid.cards (total_less ps t clear hangs)

      pub take_off_answered : (h : ℕ) → h ≡ hops_to w n (p.cards - 1)
          → TakeOffSays ps t (record { number = 0; length = size; total = t - h }) output output_now
      take_off_answered h e =
          changed_left _ off_same _ size (t - h) says (fewer_bytes_planned ps clear.0 hangs) (omega (arith, e, take_off_sum))
