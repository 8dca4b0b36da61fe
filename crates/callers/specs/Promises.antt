-- What is promised of walks by caller. Each statement is proved in proofs/Promises.antt under its name. Demand 3 and quotations:
-- docs/REQUIREMENTS.md.
use Rattle.std.specs.Prelude.{◌≡◌, true, ◌↔◌, ◌≢◌, List, ℕ, suc, ◌+◌, ◌≤◌, ◌<◌, length, get_or}
use Rattle.rack.specs.Limits.{most_callers, most_traffic}
use Rattle.rack.specs.Hops.{hops}
use Rattle.rack.specs.PlanFile.{plan_cards, plan_wiring}
use Rattle.reader.specs.Plan.{layout_holds, plan_refusal}
use Rattle.forwarder.specs.Forwarding.{walk}
use Rattle.forwarder.specs.Calls.{lent_met, walk_hops}
use Rattle.turns.specs.Turns.{frame_goal, frame_caller}
use Rattle.traffic.specs.declared.Traffic.{Traffic}
use Rattle.callers.specs.Walking.{CallerWalk, caller_walk_refusal, lent_walk_refusal, WalkIs, CallerWalkSays, LentWalkSays}
use Rattle.callers.specs.Walking.{CallerArrived, CallerFull, LentArrived}

-- demand 3 of the call, with every condition written out: "A walk names its caller, and demand 3's counts are then that caller's"
unfoldable pub CallerWalkArrives : Type 0
CallerWalkArrives =
    (ps : List ℕ) (a b u : ℕ) (t : Traffic) (r : CallerWalk) (old new : List ℕ) → CallerWalkSays ps a b u t r old new →
    plan_refusal ps ≡ 0 → a < plan_cards ps → b < plan_cards ps → u ≤ 15 → length old ≡ lent_met →
    suc (get_or t.frames u 0) ≤ most_traffic → get_or t.hops u 0 + hops (plan_wiring ps) a b ≤ most_traffic →
    CallerArrived ps a b u t r new

-- where a count of that caller can't take it: 15, and all is as it was
unfoldable pub CallerWalkFull : Type 0
CallerWalkFull =
    (ps : List ℕ) (a b u : ℕ) (t : Traffic) (r : CallerWalk) (old new : List ℕ) → CallerWalkSays ps a b u t r old new →
    plan_refusal ps ≡ 0 → a < plan_cards ps → b < plan_cards ps → u ≤ 15 → length old ≡ lent_met →
    (suc (get_or t.frames u 0) ≤ most_traffic → most_traffic < get_or t.hops u 0 + hops (plan_wiring ps) a b) →
    CallerFull t r old new

-- demand 3 of a lent frame: its destination and its caller are those in its bytes
unfoldable pub LentWalkArrives : Type 0
LentWalkArrives =
    (ps : List ℕ) (a : ℕ) (f : List ℕ) (t : Traffic) (r : CallerWalk) (old new : List ℕ) → LentWalkSays ps a f t r old new →
    plan_refusal ps ≡ 0 → a < plan_cards ps → 3 ≤ length f → frame_goal f < plan_cards ps → frame_caller f ≤ 15 → length old ≡ lent_met →
    suc (get_or t.frames (frame_caller f) 0) ≤ most_traffic →
    get_or t.hops (frame_caller f) 0 + hops (plan_wiring ps) a (frame_goal f) ≤ most_traffic →
    LentArrived ps a f t r new

unfoldable pub LentWalkFull : Type 0
LentWalkFull =
    (ps : List ℕ) (a : ℕ) (f : List ℕ) (t : Traffic) (r : CallerWalk) (old new : List ℕ) → LentWalkSays ps a f t r old new →
    plan_refusal ps ≡ 0 → a < plan_cards ps → 3 ≤ length f → frame_goal f < plan_cards ps → frame_caller f ≤ 15 → length old ≡ lent_met →
    (suc (get_or t.frames (frame_caller f) 0) ≤ most_traffic →
    most_traffic < get_or t.hops (frame_caller f) 0 + hops (plan_wiring ps) a (frame_goal f)) →
    CallerFull t r old new

-- what a frame that arrived raises: its caller's frames by one and their hops by its own. Each list of a record has a number for each caller
unfoldable pub ArrivalCounted : Type 0
ArrivalCounted =
    (ps : List ℕ) (a b u : ℕ) (t : Traffic) (r : CallerWalk) (new : List ℕ) → CallerArrived ps a b u t r new →
    length t.frames ≡ most_callers → length t.hops ≡ most_callers → u ≤ 15 →
    (get_or r.traffic.frames u 0 ≡ suc (get_or t.frames u 0))
    × (get_or r.traffic.hops u 0 ≡ get_or t.hops u 0 + hops (plan_wiring ps) a b)

-- 18 after 1, 12 and 19, and 19 after 1 and 12: exactly where a caller is over 15, or a frame has fewer than three bytes
unfoldable pub CallerWalkRefused : Type 0
CallerWalkRefused =
    ((ps : List ℕ) (a b u : ℕ) (t : Traffic) (room : ℕ) →
    (caller_walk_refusal ps a b u t room ≡ 18) ↔ ((room ≡ lent_met) × (layout_holds ps ≡ true) × (15 < u)))
    × ((ps : List ℕ) (a : ℕ) (f : List ℕ) (t : Traffic) (room : ℕ) →
    ((lent_walk_refusal ps a f t room ≡ 19) ↔ ((room ≡ lent_met) × (layout_holds ps ≡ true) × (length f < 3)))
    × ((lent_walk_refusal ps a f t room ≡ 18) ↔ ((room ≡ lent_met) × (layout_holds ps ≡ true) × (3 ≤ length f) × (15 < frame_caller f))))

-- "15 now looks at the counts to be raised": counts of another caller, and all turns, refuse no walk
unfoldable pub OthersUnseen : Type 0
OthersUnseen =
    ((ps : List ℕ) (a b u : ℕ) (s t : Traffic) (room : ℕ) →
    get_or s.frames u 0 ≡ get_or t.frames u 0 → get_or s.hops u 0 ≡ get_or t.hops u 0 →
    caller_walk_refusal ps a b u s room ≡ caller_walk_refusal ps a b u t room)
    × ((ps : List ℕ) (a : ℕ) (f : List ℕ) (s t : Traffic) (room : ℕ) → let u = frame_caller f in
    get_or s.frames u 0 ≡ get_or t.frames u 0 → get_or s.hops u 0 ≡ get_or t.hops u 0 →
    lent_walk_refusal ps a f s room ≡ lent_walk_refusal ps a f t room)

-- "No caller's walks change another's counts", nor any turns; whatever the walk's number is
unfoldable pub OthersUncounted : Type 0
OthersUncounted =
    (x : ℕ) (ps : List ℕ) (a b u : ℕ) (t : Traffic) (r : CallerWalk) (old new : List ℕ) → WalkIs x ps a b u t r old new →
    ((v : ℕ) → v ≢ u → (get_or r.traffic.frames v 0 ≡ get_or t.frames v 0) × (get_or r.traffic.hops v 0 ≡ get_or t.hops v 0))
    × (r.traffic.turns ≡ t.turns)

-- a refused walk changes none of the counts and none of the lent numbers
unfoldable pub RefusedUncounted : Type 0
RefusedUncounted =
    (x : ℕ) (ps : List ℕ) (a b u : ℕ) (t : Traffic) (r : CallerWalk) (old new : List ℕ) → WalkIs x ps a b u t r old new → x ≢ 0 →
    (r.arrived ≡ 0) × (r.hops ≡ 0) × (r.crossed.found ≡ 0) × (r.traffic ≡ t) × (new ≡ old)

-- "A stuck walk changes neither count": it is an answer, with its hops, and never 15, however full the counts are
unfoldable pub CallerStuckUncounted : Type 0
CallerStuckUncounted =
    (ps : List ℕ) (a b u : ℕ) (t : Traffic) (r : CallerWalk) (old new : List ℕ) → CallerWalkSays ps a b u t r old new →
    layout_holds ps ≡ true → a < plan_cards ps → b < plan_cards ps → u ≤ 15 → length old ≡ lent_met → (walk ps a b).arrived ≡ 0 →
    (r.number ≡ 0) × (r.arrived ≡ 0) × (r.hops ≡ walk_hops (walk ps a b)) × (r.traffic ≡ t)

unfoldable pub LentStuckUncounted : Type 0
LentStuckUncounted =
    (ps : List ℕ) (a : ℕ) (f : List ℕ) (t : Traffic) (r : CallerWalk) (old new : List ℕ) → LentWalkSays ps a f t r old new →
    layout_holds ps ≡ true → a < plan_cards ps → 3 ≤ length f → frame_goal f < plan_cards ps → frame_caller f ≤ 15 → length old ≡ lent_met →
    (walk ps a (frame_goal f)).arrived ≡ 0 →
    (r.number ≡ 0) × (r.arrived ≡ 0) × (r.hops ≡ walk_hops (walk ps a (frame_goal f))) × (r.traffic ≡ t)
