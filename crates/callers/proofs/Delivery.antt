-- Demand 3 by caller, from what a walk says: a frame arrives by the fewest links and is counted to its caller, or a count is full and all is as it
-- was; and a stuck walk counts nothing. Assumes nothing.
use mathlib.Core.Path.{◌≡◌, refl, ap₂, ◌∙◌}
use mathlib.Core.Bool.{true}
use mathlib.Core.List.{List}
use Prim.Native.Nat.{ℕ, ◌<◌}
use lib.ListN.{length}
use Rattle.rack.specs.PlanFile.{plan_cards}
use Rattle.reader.specs.Plan.{layout_holds}
use Rattle.reader.specs.Reading.{layout_refusal}
use Rattle.reader.proofs.Promises.{read_measured}
use Rattle.forwarder.specs.Forwarding.{walk}
use Rattle.forwarder.specs.Calls.{lent_met, walk_hops, walk_refusal, Frame}
use Rattle.forwarder.specs.Promises.{StuckUncounted}
use Rattle.forwarder.proofs.Arrival.{walk_arrived, walk_full, stuck_uncounted}
use Rattle.turns.specs.Turns.{frame_goal, frame_caller}
use Rattle.traffic.specs.Traffic.{tally_of, raised}
use Rattle.traffic.specs.Promises.{NoneCounted}
use Rattle.traffic.specs.declared.Traffic.{Traffic}
use Rattle.traffic.proofs.Promises.{none_counted}
use Rattle.callers.specs.Walking.{CallerWalk, caller_walk_refusal, lent_walk_refusal, WalkIs, CallerWalkSays, LentWalkSays}
use Rattle.callers.specs.Walking.{CallerFrame, CallerCanTake, CallerArrived, CallerFull, LentFrame, LentCanTake, LentArrived}
use Rattle.callers.proofs.Refused.{caller_walk_number, lent_whole}
use Rattle.callers.proofs.Answers.{as_walked, walk_says}

-- A WALK whose number is that of the walk with its caller's counts
module _ (x : ℕ) (ps : List ℕ) (a b u : ℕ) (t : Traffic) (r : CallerWalk) (old new : List ℕ) (s : WalkIs x ps a b u t r old new)
    (own : x ≡ walk_refusal ps a b (tally_of t u) (length old)) (f : Frame ps a b old) where
  walked_arrived : CallerCanTake ps a b u t → CallerArrived ps a b u t r new
  walked_arrived take =
      let g = walk_arrived ps a b (tally_of t u) (as_walked ps a b u t x r old new s) old new (walk_says ps a b u t x r old new s own) f take in
      record {
        number = g.number;
        arrived = g.arrived;
        fewest = g.fewest;
        traffic = s.traffic ∙ ap₂ (raised t u) g.arrived g.fewest;
        behind = g.behind;
        met = g.met;
        path = g.path;
        long = g.long;
      }

  walked_full : (CallerCanTake ps a b u t → ⊥) → CallerFull t r old new
  unfolding NoneCounted
  walked_full never =
      let g = walk_full ps a b (tally_of t u) (as_walked ps a b u t x r old new s) old new (walk_says ps a b u t x r old new s own) f never in
      record {
        number = g.number;
        arrived = g.arrived;
        hops = g.hops;
        traffic = s.traffic ∙ ap₂ (raised t u) g.arrived g.hops ∙ none_counted t u 0;
        met = g.met;
      }

-- and stuck, on any plan with a layout
pub walked_stuck : (x : ℕ) (ps : List ℕ) (a b u : ℕ) (t : Traffic) (r : CallerWalk) (old new : List ℕ) → WalkIs x ps a b u t r old new
    → x ≡ walk_refusal ps a b (tally_of t u) (length old) → layout_holds ps ≡ true → a < plan_cards ps → b < plan_cards ps
    → length old ≡ lent_met → (walk ps a b).arrived ≡ 0
    → (r.number ≡ 0) × (r.arrived ≡ 0) × (r.hops ≡ walk_hops (walk ps a b)) × (r.traffic ≡ t)
unfolding StuckUncounted NoneCounted
walked_stuck x ps a b u t r old new s own l from goal room stuck =
    let w = as_walked ps a b u t x r old new s in
    let k = stuck_uncounted ps a b (tally_of t u) w old new (walk_says ps a b u t x r old new s own) l from goal room stuck in
    (k.0, k.1, k.2, s.traffic ∙ rw k.1 (none_counted t u r.hops))

frame_walk_number : (ps : List ℕ) (a b u : ℕ) (t : Traffic) (old : List ℕ) → CallerFrame ps a b u old
    → caller_walk_refusal ps a b u t (length old) ≡ walk_refusal ps a b (tally_of t u) (length old)
frame_walk_number ps a b u t old f = caller_walk_number ps a b u t (length old) (read_measured ps f.frame.read).layout f.caller f.frame.room

-- BY NUMBERS
module _ (ps : List ℕ) (a b u : ℕ) (t : Traffic) (r : CallerWalk) (old new : List ℕ) (s : CallerWalkSays ps a b u t r old new) where
  pub arrives : CallerFrame ps a b u old → CallerCanTake ps a b u t → CallerArrived ps a b u t r new
  arrives f = walked_arrived (caller_walk_refusal ps a b u t (length old)) ps a b u t r old new s (frame_walk_number ps a b u t old f) f.frame

  pub full : CallerFrame ps a b u old → (CallerCanTake ps a b u t → ⊥) → CallerFull t r old new
  full f = walked_full (caller_walk_refusal ps a b u t (length old)) ps a b u t r old new s (frame_walk_number ps a b u t old f) f.frame

  pub with_delivery : CallerWalkSays ps a b u t r old new
      × ((CallerFrame ps a b u old → CallerCanTake ps a b u t → CallerArrived ps a b u t r new)
      × (CallerFrame ps a b u old → (CallerCanTake ps a b u t → ⊥) → CallerFull t r old new))
  with_delivery = (s, (arrives, full))

-- OF A LENT FRAME
module _ (ps : List ℕ) (a : ℕ) (f : List ℕ) (t : Traffic) (r : CallerWalk) (old new : List ℕ) (s : LentWalkSays ps a f t r old new) where
  lent_walk_number : LentFrame ps a f old
      → lent_walk_refusal ps a f t (length old) ≡ walk_refusal ps a (frame_goal f) (tally_of t (frame_caller f)) (length old)
  unfolding layout_refusal
  lent_walk_number z =
      lent_whole ps a f t (length old) z.frame.frame.room (rw (read_measured ps z.frame.frame.read).layout refl) z.whole
      ∙ frame_walk_number ps a (frame_goal f) (frame_caller f) t old z.frame

  pub lent_arrives : LentFrame ps a f old → LentCanTake ps a f t → LentArrived ps a f t r new
  lent_arrives z =
      walked_arrived (lent_walk_refusal ps a f t (length old)) ps a (frame_goal f) (frame_caller f) t r old new s (lent_walk_number z) z.frame.frame

  pub lent_full : LentFrame ps a f old → (LentCanTake ps a f t → ⊥) → CallerFull t r old new
  lent_full z =
      walked_full (lent_walk_refusal ps a f t (length old)) ps a (frame_goal f) (frame_caller f) t r old new s (lent_walk_number z) z.frame.frame

  pub with_lent_delivery : LentWalkSays ps a f t r old new
      × ((LentFrame ps a f old → LentCanTake ps a f t → LentArrived ps a f t r new)
      × (LentFrame ps a f old → (LentCanTake ps a f t → ⊥) → CallerFull t r old new))
  with_lent_delivery = (s, (lent_arrives, lent_full))
