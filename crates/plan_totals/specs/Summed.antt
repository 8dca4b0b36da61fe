-- A plan read together with the sum of its hops. Assumes nothing: these are definitions.
use Rattle.std.specs.Prelude.{◌≡◌, cond, List, ℕ, eqb, Result, Ok, Err}
use Rattle.rack.specs.PlanFile.{plan_wiring}
use Rattle.reader.specs.Plan.{plan_refusal}
use Rattle.rack.specs.Refused.{refusal_of}
use Rattle.rack.specs.declared.refused.Refused.{Refused}
use Rattle.reader.specs.Reading.{Sizes, SizesSay, ReadSays}
use Rattle.totals.specs.Totals.{total_hops}
use Rattle.plan_totals.specs.declared.Summed.{Summed as SummedView}

-- the sum of the wiring inside a plan
abbrev pub plan_total : List ℕ → ℕ
plan_total ps = total_hops (plan_wiring ps)

-- 12; 13: the content, then another sum than the plan's
unfoldable pub total_refusal : List ℕ → (total : ℕ) → ℕ
total_refusal ps t = cond (eqb (plan_refusal ps) 0) (cond (eqb t (plan_total ps)) 0 13) (plan_refusal ps)

-- reading a plan that comes with a sum: a number, and with 0 the three sizes, else zeros
abbrev pub ReadWithTotalSays : List ℕ → (total : ℕ) → Sizes → Type 0
ReadWithTotalSays ps t r = SizesSay ps (total_refusal ps t) r

-- a refusal's number, 0 for none, and with 0 a plan's three sizes and the sum of its hops
pub record Summed : Type 0 where
  pub number : ℕ
  pub cards : ℕ
  pub links : ℕ
  pub columns : ℕ
  pub total : ℕ

-- what a call answers that gives a plan with its sizes and that sum
abbrev pub summed_of : Result SummedView Refused → Summed
summed_of (Ok s) = let p = s.read.plan in record { number = 0; cards = p.cards; links = p.links; columns = p.columns; total = s.total }
summed_of (Err e) = record { number = (refusal_of e).number; cards = 0; links = 0; columns = 0; total = 0 }

-- a number and three sizes alone
abbrev pub sizes_alone : Summed → Sizes
sizes_alone r = record { number = r.number; cards = r.cards; links = r.links; columns = r.columns }

-- reading a plan and summing its hops: 12, 13, or the three sizes and the sum; else zeros
pub record SummedSays (ps : List ℕ) (r : Summed) : Type 0 where
  pub sizes : ReadSays ps (sizes_alone r)
  pub total : r.total ≡ cond (eqb (plan_refusal ps) 0) (plan_total ps) 0
