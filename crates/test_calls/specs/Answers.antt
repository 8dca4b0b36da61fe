-- Answers as the tests read them: the refusal's number, and the other fields in lent numbers. Assumes nothing: these are definitions.
use Rattle.std.specs.Prelude.{◌≡◌, cond, ◌⊎◌, ◌≢◌, List, [], ℕ, suc, eqb, length, get_or, replicate}
use Rattle.planner.specs.Answer.{Answer}
use Rattle.reader.specs.Plan.{plan_refusal}
use Rattle.reader.specs.Reading.{Sizes}
use Rattle.forwarder.specs.Calls.{step_refusal}
use Rattle.forwarder.specs.declared.walk.Tally.{Tally}
use Rattle.crossing.specs.Crossing.{FirstColumn, Places, PlacesAre, FrameStep, FrameWalk}
use Rattle.conference.specs.Conference.{Conference}
use Rattle.plan_totals.specs.Summed.{Summed}
use Rattle.last_card.specs.Calls.{SummedPlan}
use Rattle.traffic.specs.declared.Traffic.{Traffic}
use Rattle.callers.specs.Walking.{CallerWalk}

-- a struct of the number and of lent numbers, in the order of its fields
abbrev pub answer_in : (number : ℕ) → List ℕ → Answer
answer_in x ys = record { number = x; at = get_or ys 0 0; value = get_or ys 1 0 }

abbrev pub sizes_in : (number : ℕ) → List ℕ → Sizes
sizes_in x ys = record { number = x; cards = get_or ys 0 0; links = get_or ys 1 0; columns = get_or ys 2 0 }

abbrev pub column_in : (at : ℕ) → List ℕ → FirstColumn
column_in i ys = record { found = get_or ys i 0; column = get_or ys (suc i) 0 }

abbrev pub places_in : List ℕ → Places
places_in ys = record { count = get_or ys 0 0; first = column_in 1 ys }

abbrev pub frame_step_in : (number : ℕ) → List ℕ → FrameStep
frame_step_in x ys = record { stepped = record { number = x; outcome = get_or ys 0 0; link = get_or ys 1 0; far = get_or ys 2 0 }; crossed = column_in 3 ys }

abbrev pub counts : (frames hops : ℕ) → Tally
counts f h = record { frames = f; hops = h }

abbrev pub frame_walk_in : (number : ℕ) → List ℕ → FrameWalk
frame_walk_in x ys =
    record {
      walked = record { number = x; arrived = get_or ys 0 0; hops = get_or ys 1 0; tally = counts (get_or ys 2 0) (get_or ys 3 0) };
      crossed = column_in 4 ys;
    }

-- the record of three lent arrays: frames, hops and turns
abbrev pub lent_traffic : (frames hops turns : List ℕ) → Traffic
lent_traffic fs hs ts = record { frames = fs; hops = hs; turns = ts }

abbrev pub caller_walk_in : (number : ℕ) → List ℕ → Traffic → CallerWalk
caller_walk_in x ys t = record { number = x; arrived = get_or ys 0 0; hops = get_or ys 1 0; crossed = column_in 2 ys; traffic = t }

abbrev pub conference_in : (number : ℕ) → List ℕ → Conference
conference_in x ys = record { number = x; found = get_or ys 0 0; card = get_or ys 1 0 }

abbrev pub summed_in : (number : ℕ) → List ℕ → Summed
summed_in x ys = record { number = x; cards = get_or ys 0 0; links = get_or ys 1 0; columns = get_or ys 2 0; total = get_or ys 3 0 }

abbrev pub summed_plan_in : (number : ℕ) → List ℕ → SummedPlan
summed_plan_in x ys = record { number = x; length = get_or ys 0 0; total = get_or ys 1 0 }

-- just as many numbers are lent as the answer has fields, and the call says this; or not as many, and it is 1 and all that is lent is
-- as it was
pub record Answered (fields r : ℕ) (old new : List ℕ) (Untouched Says : Type 0) : Type 0 where
  pub either : ((length old ≡ fields) × Says) ⊎ ((length old ≢ fields) × (r ≡ 1) × (new ≡ old) × Untouched)

-- 12, 14, or the differing places of two cards; zeros with a refusal
pub record PlacesSay (ps : List ℕ) (a b r : ℕ) (ys : List ℕ) : Type 0 where
  pub number : r ≡ step_refusal ps a b
  pub places : r ≡ 0 → PlacesAre ps a b (places_in ys)
  pub zeros : r ≢ 0 → ys ≡ replicate 3 0

-- what the calls on a plan see that was opened for them: its bytes, or none of them where reading refuses it
unfoldable pub opened_for : List ℕ → List ℕ
opened_for ps = cond (eqb (plan_refusal ps) 0) ps []
