-- What a step and a walk answer and leave behind: 1, 12, 14, 15. Assumes nothing: these are definitions.
use Rattle.std.specs.Prelude.{◌≡◌, Bool, true, ◌&&◌, ◌||◌, not, cond, List, ◌∷◌, ◌++◌, ℕ, suc, ◌+◌, ◌*◌, ◌-◌, ◌≤◌, ◌<◌, leb, eqb, length, replicate, Result, Ok, Err}
use Rattle.rack.specs.Limits.{most_traffic}
use Rattle.rack.specs.Lists.{one}
use Rattle.rack.specs.Refused.{refusal_of}
use Rattle.rack.specs.declared.refused.Refused.{Refused}
use Rattle.rack.specs.Hops.{hops, is_path}
use Rattle.rack.specs.PlanFile.{plan_cards, plan_wiring}
use Rattle.reader.specs.Plan.{plan_refusal}
use Rattle.reader.specs.Reading.{layout_refusal}
use Rattle.forwarder.specs.Forwarding.{step, step_seen, Walk, walk}
use Rattle.forwarder.specs.declared.step.Step.{Step as Onward}
use Rattle.forwarder.specs.declared.walk.Tally.{Tally}
use Rattle.forwarder.specs.declared.walk.Walked.{Walked as Answered}

-- 12, then 14: a card number is n or more
unfoldable pub step_refusal : List ℕ → (a b : ℕ) → ℕ
step_refusal ps a b =
    cond (eqb (layout_refusal ps) 0) (cond (leb (plan_cards ps) a || leb (plan_cards ps) b) 14 0) (layout_refusal ps)

-- a refusal's number, 0 for none; the outcome: 0 stuck, 1 arrived, 2 over a link to its far card
pub record Stepped : Type 0 where
  pub number : ℕ
  pub outcome : ℕ
  pub link : ℕ
  pub far : ℕ

-- what a call answers that takes a step
abbrev pub stepped_of : Result Onward Refused → Stepped
stepped_of (Ok s) = let t = step_seen s in record { number = 0; outcome = t.outcome; link = t.link; far = t.far }
stepped_of (Err e) = record { number = (refusal_of e).number; outcome = 0; link = 0; far = 0 }

-- zeros with a refusal
pub record StepSays (ps : List ℕ) (a b : ℕ) (r : Stepped) : Type 0 where
  pub number : r.number ≡ step_refusal ps a b
  pub outcome : r.outcome ≡ cond (eqb (step_refusal ps a b) 0) (step ps a b).outcome 0
  pub link : r.link ≡ cond (eqb (step_refusal ps a b) 0) (step ps a b).link 0
  pub far : r.far ≡ cond (eqb (step_refusal ps a b) 0) (step ps a b).far 0

-- a refusal's number, 0 for none; 1 for arrived or 0 for stuck, the hops, and the counts handed back
pub record Walked : Type 0 where
  pub number : ℕ
  pub arrived : ℕ
  pub hops : ℕ
  pub tally : Tally

-- what a call answers that walks: with a refusal the counts are as they went in
abbrev pub walked_of : Tally → Result Answered Refused → Walked
walked_of t (Ok w) = record { number = 0; arrived = one w.arrived; hops = w.hops; tally = w.tally }
walked_of t (Err e) = record { number = (refusal_of e).number; arrived = 0; hops = 0; tally = t }

-- the lent numbers, one for each card
abbrev pub lent_met : ℕ
lent_met = 256

unfoldable pub walk_hops : Walk → ℕ
walk_hops v = length v.met - 1

-- the counts take a walk that ended so: it is stuck, or one frame more and its hops pass no limit
unfoldable pub takes : Tally → (arrived hops : ℕ) → Bool
takes t o h = eqb o 0 || (leb (suc t.frames) most_traffic && leb (t.hops + h) most_traffic)

abbrev pub takes_walk : Tally → Walk → Bool
takes_walk t v = takes t v.arrived (walk_hops v)

-- 1: the lent buffer has not its length; 12; 14; 15
unfoldable pub walk_refusal : List ℕ → (a b : ℕ) → Tally → (room : ℕ) → ℕ
walk_refusal ps a b t room =
    cond (not (eqb room lent_met)) 1
    (cond (not (eqb (step_refusal ps a b) 0)) (step_refusal ps a b) (cond (not (takes_walk t (walk ps a b))) 15 0))

-- with 0 the walk's answer, its counts raised where it arrived, the cards met and zeros behind them; else all is as it was
pub record WalkSays (ps : List ℕ) (a b : ℕ) (t : Tally) (r : Walked) (old new : List ℕ) : Type 0 where
  pub number : r.number ≡ walk_refusal ps a b t (length old)
  pub arrived : r.arrived ≡ cond (eqb r.number 0) (walk ps a b).arrived 0
  pub hops : r.hops ≡ cond (eqb r.number 0) (walk_hops (walk ps a b)) 0
  pub frames : r.tally.frames ≡ t.frames + r.arrived
  pub total : r.tally.hops ≡ t.hops + r.arrived * r.hops
  pub met : new ≡ cond (eqb r.number 0) ((walk ps a b).met ++ replicate (lent_met - length (walk ps a b).met) 0) old

-- a frame: its plan was read, both numbers are cards, and the lent buffer has its length
pub record Frame (ps : List ℕ) (a b : ℕ) (old : List ℕ) : Type 0 where
  pub read : plan_refusal ps ≡ 0
  -- both are cards of the plan
  pub from : a < plan_cards ps
  pub goal : b < plan_cards ps
  pub room : length old ≡ lent_met

-- it arrives by the fewest links (demand 3, docs/REQUIREMENTS.md): the answer, the counts, the cards met with zeros behind them
pub record Arrived (ps : List ℕ) (a b : ℕ) (t : Tally) (r : Walked) (new : List ℕ) : Type 0 where
  pub number : r.number ≡ 0
  pub arrived : r.arrived ≡ 1
  pub fewest : r.hops ≡ hops (plan_wiring ps) a b
  pub frames : r.tally.frames ≡ suc t.frames
  pub total : r.tally.hops ≡ t.hops + hops (plan_wiring ps) a b
  pub behind : List ℕ
  pub met : new ≡ a ∷ behind ++ replicate (lent_met - suc (hops (plan_wiring ps) a b)) 0
  pub path : is_path (plan_wiring ps) a behind b ≡ true
  pub long : length behind ≡ hops (plan_wiring ps) a b

-- a count can't take it: 15, and all is as it was
pub record Full (t : Tally) (r : Walked) (old new : List ℕ) : Type 0 where
  pub number : r.number ≡ 15
  pub arrived : r.arrived ≡ 0
  pub hops : r.hops ≡ 0
  pub frames : r.tally.frames ≡ t.frames
  pub total : r.tally.hops ≡ t.hops
  pub met : new ≡ old

-- the counts can take a frame of so many hops
abbrev pub CanTake : Tally → (h : ℕ) → Type 0
CanTake t h = (suc t.frames ≤ most_traffic) × (t.hops + h ≤ most_traffic)
