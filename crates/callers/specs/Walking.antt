-- What a walk by caller answers and leaves behind, by numbers and of a lent frame. Assumes nothing: these are definitions.
use Rattle.std.specs.Prelude.{◌≡◌, true, not, cond, List, ◌∷◌, ◌++◌, ℕ, suc, ◌-◌, ◌≤◌, ◌<◌, ltb, eqb, length, replicate, Result, Ok, Err}
use Rattle.rack.specs.Limits.{most_callers}
use Rattle.rack.specs.Lists.{one}
use Rattle.rack.specs.Refused.{refusal_of}
use Rattle.rack.specs.declared.refused.Refused.{Refused}
use Rattle.rack.specs.Hops.{hops, is_path}
use Rattle.rack.specs.PlanFile.{plan_columns, plan_wiring}
use Rattle.reader.specs.Reading.{layout_refusal}
use Rattle.forwarder.specs.Forwarding.{walk}
use Rattle.forwarder.specs.Calls.{lent_met, walk_hops, walk_refusal, Frame, CanTake}
use Rattle.crossing.specs.Crossing.{FirstColumn, walk_column, column_of, ColumnOrNone, no_column}
use Rattle.turns.specs.Turns.{least_frame, frame_goal, frame_caller}
use Rattle.traffic.specs.Traffic.{caller_refusal, tally_of, raised}
use Rattle.traffic.specs.declared.Traffic.{Traffic}
use Rattle.callers.specs.declared.CallerWalk.{CallerWalk as Answered}

-- a refusal's number, 0 for none; 1 for arrived or 0 for stuck, the hops, the first column crossed, and the counts handed back
pub record CallerWalk : Type 0 where
  pub number : ℕ
  pub arrived : ℕ
  pub hops : ℕ
  pub crossed : FirstColumn
  pub traffic : Traffic

-- a refusal: zeros, and the counts as they were
abbrev pub not_walked : (number : ℕ) → Traffic → CallerWalk
not_walked x t = record { number = x; arrived = 0; hops = 0; crossed = no_column; traffic = t }

-- what a call answers that walks with these counts
abbrev pub caller_walk_of : Traffic → Result Answered Refused → CallerWalk
caller_walk_of t (Ok w) = record { number = 0; arrived = one w.arrived; hops = w.hops; crossed = column_of w.crossed; traffic = w.traffic }
caller_walk_of t (Err e) = not_walked (refusal_of e).number t

-- 1: the lent numbers have not their length; 12; 18; then, by that caller's counts, 14 and 15
unfoldable pub caller_walk_refusal : List ℕ → (a b caller : ℕ) → Traffic → (room : ℕ) → ℕ
caller_walk_refusal ps a b u t room =
    cond (not (eqb room lent_met)) 1
    (cond (not (eqb (caller_refusal ps u) 0)) (caller_refusal ps u) (walk_refusal ps a b (tally_of t u) room))

-- of a lent frame: 1; 12; 19: it has fewer than three bytes; 18, 14 and 15
unfoldable pub lent_walk_refusal : List ℕ → (a : ℕ) → (frame : List ℕ) → Traffic → (room : ℕ) → ℕ
lent_walk_refusal ps a f t room =
    cond (not (eqb room lent_met)) 1
    (cond (not (eqb (layout_refusal ps) 0)) (layout_refusal ps)
    (cond (ltb (length f) least_frame) 19 (caller_walk_refusal ps a (frame_goal f) (frame_caller f) t room)))

-- with this number: where it is 0 the walk's answer, the first column crossed, the caller's counts raised if it arrived, the cards met and zeros
-- behind them; else zeros, and all is as it was
pub record WalkIs (x : ℕ) (ps : List ℕ) (a b u : ℕ) (t : Traffic) (r : CallerWalk) (old new : List ℕ) : Type 0 where
  pub number : r.number ≡ x
  pub arrived : r.arrived ≡ cond (eqb x 0) (walk ps a b).arrived 0
  pub hops : r.hops ≡ cond (eqb x 0) (walk_hops (walk ps a b)) 0
  pub crossed : ColumnOrNone x (walk_column ps a b) (plan_columns ps) r.crossed
  pub traffic : r.traffic ≡ raised t u r.arrived r.hops
  pub met : new ≡ cond (eqb x 0) ((walk ps a b).met ++ replicate (lent_met - length (walk ps a b).met) 0) old

abbrev pub CallerWalkSays : (ps : List ℕ) (a b u : ℕ) (t : Traffic) (r : CallerWalk) (old new : List ℕ) → Type 0
CallerWalkSays ps a b u t r old new = WalkIs (caller_walk_refusal ps a b u t (length old)) ps a b u t r old new

abbrev pub LentWalkSays : (ps : List ℕ) (a : ℕ) (frame : List ℕ) (t : Traffic) (r : CallerWalk) (old new : List ℕ) → Type 0
LentWalkSays ps a f t r old new = WalkIs (lent_walk_refusal ps a f t (length old)) ps a (frame_goal f) (frame_caller f) t r old new

-- DEMAND 3 BY CALLER (docs/REQUIREMENTS.md)
pub record CallerFrame (ps : List ℕ) (a b u : ℕ) (old : List ℕ) : Type 0 where
  pub frame : Frame ps a b old
  -- the caller is one of the 16
  pub caller : u < most_callers

-- the counts of that caller can take its hops
abbrev pub CallerCanTake : (ps : List ℕ) (a b u : ℕ) → Traffic → Type 0
CallerCanTake ps a b u t = CanTake (tally_of t u) (hops (plan_wiring ps) a b)

-- it arrives by the fewest links, and one frame more and its hops are that caller's
pub record CallerArrived (ps : List ℕ) (a b u : ℕ) (t : Traffic) (r : CallerWalk) (new : List ℕ) : Type 0 where
  pub number : r.number ≡ 0
  pub arrived : r.arrived ≡ 1
  pub fewest : r.hops ≡ hops (plan_wiring ps) a b
  pub traffic : r.traffic ≡ raised t u 1 (hops (plan_wiring ps) a b)
  pub behind : List ℕ
  pub met : new ≡ a ∷ behind ++ replicate (lent_met - suc (hops (plan_wiring ps) a b)) 0
  pub path : is_path (plan_wiring ps) a behind b ≡ true
  pub long : length behind ≡ hops (plan_wiring ps) a b

-- a count of that caller can't take it: 15, and all is as it was
pub record CallerFull (t : Traffic) (r : CallerWalk) (old new : List ℕ) : Type 0 where
  pub number : r.number ≡ 15
  pub arrived : r.arrived ≡ 0
  pub hops : r.hops ≡ 0
  pub traffic : r.traffic ≡ t
  pub met : new ≡ old

-- OF A LENT FRAME, which has its three bytes
pub record LentFrame (ps : List ℕ) (a : ℕ) (f old : List ℕ) : Type 0 where
  pub whole : least_frame ≤ length f
  pub frame : CallerFrame ps a (frame_goal f) (frame_caller f) old

abbrev pub LentCanTake : (ps : List ℕ) (a : ℕ) (frame : List ℕ) → Traffic → Type 0
LentCanTake ps a f t = CallerCanTake ps a (frame_goal f) (frame_caller f) t

abbrev pub LentArrived : (ps : List ℕ) (a : ℕ) (frame : List ℕ) (t : Traffic) (r : CallerWalk) (new : List ℕ) → Type 0
LentArrived ps a f t r new = CallerArrived ps a (frame_goal f) (frame_caller f) t r new
