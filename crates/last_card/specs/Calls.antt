-- What adding a card to a plan and taking its last card off answer, on any bytes that come with any sum of hops. Assumes nothing: these are
-- definitions. Quotations: docs/REQUIREMENTS.md.
use Rattle.std.specs.Prelude.{◌≡◌, cond, List, ℕ, eqb, length, Result, Ok, Err}
use Rattle.rack.specs.Limits.{lent_plan}
use Rattle.rack.specs.Wiring.{Wiring}
use Rattle.rack.specs.PlanFile.{plan_cards, plan_links, plan_wiring}
use Rattle.planner.specs.PlanBytes.{plan_bytes}
use Rattle.pendant.specs.Pendant.{with_card, without_card, last_hangs}
use Rattle.totals.specs.Totals.{total_hops}
use Rattle.plan_totals.specs.Summed.{total_refusal}
use Rattle.plan_changer.specs.Changing.{NewPlan, NewPlanIs, add_refusal, off_refusal}
use Rattle.rack.specs.Refused.{refusal_of}
use Rattle.rack.specs.declared.refused.Refused.{Refused}
use Rattle.last_card.specs.declared.SummedPlan.{SummedPlan as LeftPlan}

-- 1, 12, 13, 14, 16
unfoldable pub add_card_refusal : List ℕ → (total card room : ℕ) → ℕ
add_card_refusal ps t c room = cond (eqb room lent_plan) (add_refusal (total_refusal ps t) (plan_cards ps) (plan_links ps) c) 1

-- 1, 12, 13, 17
unfoldable pub take_off_refusal : List ℕ → (total room : ℕ) → ℕ
take_off_refusal ps t room = cond (eqb room lent_plan) (off_refusal (total_refusal ps t) (last_hangs (plan_wiring ps))) 1

-- a refusal's number, 0 for none, and with 0 the length of the new plan and the sum of its hops
pub record SummedPlan : Type 0 where
  pub number : ℕ
  pub length : ℕ
  pub total : ℕ

-- a refusal's number and zeros
abbrev pub not_changed : (refused : ℕ) → SummedPlan
not_changed refused = record { number = refused; length = 0; total = 0 }

-- what a call answers that leaves a plan
abbrev pub summed_plan_of : Result LeftPlan Refused → SummedPlan
summed_plan_of (Ok p) = record { number = 0; length = p.length; total = p.total }
summed_plan_of (Err e) = not_changed (refusal_of e).number

-- the number and the length alone
abbrev pub without_total : SummedPlan → NewPlan
without_total r = record { number = r.number; length = r.length }

-- "the bytes the planner would write for the changed wiring", their length and their sum of hops; with a refusal no length, the sum 0, and the
-- lent bytes as they were
pub record ChangedIs (refused : ℕ) (w : Wiring) (r : SummedPlan) (output output_now : List ℕ) : Type 0 where
  pub plan : NewPlanIs refused (plan_bytes w) (without_total r) output output_now
  pub total : r.total ≡ cond (eqb refused 0) (total_hops w) 0

abbrev pub AddSays : List ℕ → (total card : ℕ) → SummedPlan → (output output_now : List ℕ) → Type 0
AddSays ps t c r output output_now = ChangedIs (add_card_refusal ps t c (length output)) (with_card (plan_wiring ps) c) r output output_now

abbrev pub TakeOffSays : List ℕ → (total : ℕ) → SummedPlan → (output output_now : List ℕ) → Type 0
TakeOffSays ps t r output output_now = ChangedIs (take_off_refusal ps t (length output)) (without_card (plan_wiring ps)) r output output_now
