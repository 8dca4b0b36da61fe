-- What adding a card to a plan and taking its last card off answer, behind the refusals of reading. Assumes nothing: these are definitions.
use Rattle.std.specs.Prelude.{◌≡◌, Bool, ◌||◌, cond, List, ◌++◌, ℕ, ◌-◌, leb, eqb, length, replicate, Result, Ok, Err}
use Rattle.rack.specs.Limits.{most_cards, most_links}
use Rattle.rack.specs.Refused.{refusal_of}
use Rattle.rack.specs.declared.refused.Refused.{Refused}

-- a refusal that comes before it, then 14: the card number is n or more; then 16: "n is 256 or m is 2,048" (docs/REQUIREMENTS.md)
unfoldable pub add_refusal : (before n m : ℕ) → (card : ℕ) → ℕ
add_refusal x n m c = cond (eqb x 0) (cond (leb n c) 14 (cond (eqb n most_cards || eqb m most_links) 16 0)) x

-- a refusal that comes before it, then 17
unfoldable pub off_refusal : (before : ℕ) → (hangs : Bool) → ℕ
off_refusal x hangs = cond (eqb x 0) (cond hangs 0 17) x

-- a refusal's number, 0 for none, and with 0 the length of the new plan
pub record NewPlan : Type 0 where
  pub number : ℕ
  pub length : ℕ

-- a refusal's number and no length
abbrev pub no_plan : (refused : ℕ) → NewPlan
no_plan refused = record { number = refused; length = 0 }

-- what a call answers that gives the length of a new plan
abbrev pub new_plan_of : Result ℕ Refused → NewPlan
new_plan_of (Ok length) = record { number = 0; length = length }
new_plan_of (Err e) = no_plan (refusal_of e).number

-- a number, and with 0 the length of a plan, which is left in the lent bytes with zeros behind it; with a refusal these stay as they were
pub record NewPlanIs (refused : ℕ) (plan : List ℕ) (r : NewPlan) (output output_now : List ℕ) : Type 0 where
  pub number : r.number ≡ refused
  pub long : r.length ≡ cond (eqb refused 0) (length plan) 0
  pub output_left : output_now ≡ cond (eqb refused 0) (plan ++ replicate (length output - length plan) 0) output
