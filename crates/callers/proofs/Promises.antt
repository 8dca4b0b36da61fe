-- The promises of specs/Promises.antt, proved. Assumes nothing.
use mathlib.Core.Path.{◌≡◌, refl, ◌∙◌}
use Prim.Native.Nat.{suc}
use native.Mathlib.Omega.{arith}
use lib.ListN.{length}
use borrow.Author.Tests.{ne_eqb}
use Rattle.rack.specs.Hops.{hops}
use Rattle.rack.specs.PlanFile.{plan_wiring}
use Rattle.reader.specs.Reading.{layout_refusal}
use Rattle.reader.proofs.Reading.{layout_clear}
use Rattle.turns.specs.Turns.{frame_goal, frame_caller}
use Rattle.traffic.specs.Traffic.{tally_of}
use Rattle.traffic.specs.Promises.{CallerRefused, OthersKept, CallerCounted, NoneCounted}
use Rattle.traffic.proofs.Promises.{caller_refused, others_kept, caller_counted, none_counted}
use Rattle.callers.specs.Walking.{caller_walk_refusal, lent_walk_refusal}
use Rattle.callers.specs.Promises.{CallerWalkArrives, CallerWalkFull, LentWalkArrives, LentWalkFull, CallerWalkRefused}
use Rattle.callers.specs.Promises.{ArrivalCounted, OthersUnseen, OthersUncounted, RefusedUncounted, CallerStuckUncounted, LentStuckUncounted}
use Rattle.callers.proofs.Refused.{caller_walk_number, eighteen_only, eighteen_said, lent_short, lent_whole, nineteen_only, lent_eighteen_only}
use Rattle.callers.proofs.Delivery.{arrives, full, lent_arrives, lent_full, walked_stuck}

-- DEMAND 3, with every condition written out
pub caller_walk_arrives : CallerWalkArrives
unfolding CallerWalkArrives tally_of
caller_walk_arrives ps a b u t r old new s read from goal caller room frames total =
    arrives ps a b u t r old new s
    (record { frame = record { read = read; from = from; goal = goal; room = room }; caller = omega arith }) (frames, total)

pub caller_walk_full : CallerWalkFull
unfolding CallerWalkFull tally_of
caller_walk_full ps a b u t r old new s read from goal caller room never =
    full ps a b u t r old new s
    (record { frame = record { read = read; from = from; goal = goal; room = room }; caller = omega arith })
    (λ take. let passed = never take.0 in omega (arith, take.1))

pub lent_walk_arrives : LentWalkArrives
unfolding LentWalkArrives tally_of
lent_walk_arrives ps a f t r old new s read from whole goal caller room frames total =
    lent_arrives ps a f t r old new s
    (record { whole = whole; frame = record { frame = record { read = read; from = from; goal = goal; room = room }; caller = omega arith } })
    (frames, total)

pub lent_walk_full : LentWalkFull
unfolding LentWalkFull tally_of
lent_walk_full ps a f t r old new s read from whole goal caller room never =
    lent_full ps a f t r old new s
    (record { whole = whole; frame = record { frame = record { read = read; from = from; goal = goal; room = room }; caller = omega arith } })
    (λ take. let passed = never take.0 in omega (arith, take.1))

pub arrival_counted : ArrivalCounted
unfolding ArrivalCounted CallerCounted
arrival_counted ps a b u t r new arrived frames total low =
    rw arrived.traffic (caller_counted t u (hops (plan_wiring ps) a b) (omega arith) (omega arith))

-- 18 AND 19, exactly
pub caller_walk_refused : CallerWalkRefused
unfolding CallerWalkRefused CallerRefused layout_refusal
caller_walk_refused = (
  (λ ps a b u t room. (
    (λ e. let k = eighteen_only ps a b u t room e in let z = (caller_refused ps u).0 k.1 in (k.0, z.0, z.1)),
    (λ (r, l, h). eighteen_said ps a b u t room r ((caller_refused ps u).1 (l, h))),
  )),
  (λ ps a f t room. (
    (
      (λ e. let k = nineteen_only ps a f t room e in (k.0, layout_clear ps k.1, k.2)),
      (λ (r, l, h). lent_short ps a f t room r (rw l refl) h),
    ),
    (
      (λ e. let k = lent_eighteen_only ps a f t room e in let z = (caller_refused ps (frame_caller f)).0 k.2 in (k.0, z.0, k.1, z.1)),
      (λ (r, l, w, h).
          lent_whole ps a f t room r (rw l refl) w
          ∙ eighteen_said ps a (frame_goal f) (frame_caller f) t room r ((caller_refused ps (frame_caller f)).1 (l, h))),
    ),
  )),
)

-- OTHER CALLERS
pub others_unseen : OthersUnseen
unfolding OthersUnseen caller_walk_refusal lent_walk_refusal tally_of
others_unseen = ((λ ps a b u s t room frames total. rw (frames, total) refl), (λ ps a f s t room frames total. rw (frames, total) refl))

pub others_uncounted : OthersUncounted
unfolding OthersUncounted OthersKept
others_uncounted x ps a b u t r old new s =
    ((λ v n. let k = others_kept t u r.arrived r.hops v n in rw s.traffic (k.0, k.1)), rw s.traffic (others_kept t u r.arrived r.hops (suc u) (λ e. omega arith)).2)

-- WALKS that change none
pub refused_uncounted : RefusedUncounted
unfolding RefusedUncounted NoneCounted
refused_uncounted x ps a b u t r old new s n =
    let e = ne_eqb x 0 n in
    let none : r.arrived ≡ 0 = s.arrived ∙ rw e refl in
    (none, s.hops ∙ rw e refl, s.crossed.found ∙ rw e refl, s.traffic ∙ rw none (none_counted t u r.hops), s.met ∙ rw e refl)

pub caller_stuck_uncounted : CallerStuckUncounted
unfolding CallerStuckUncounted
caller_stuck_uncounted ps a b u t r old new s l from goal caller room stuck =
    walked_stuck (caller_walk_refusal ps a b u t (length old)) ps a b u t r old new s (caller_walk_number ps a b u t (length old) l (omega arith) room) l from
    goal room stuck

pub lent_stuck_uncounted : LentStuckUncounted
unfolding LentStuckUncounted layout_refusal
lent_stuck_uncounted ps a f t r old new s l from whole goal caller room stuck =
    let b = frame_goal f in
    let u = frame_caller f in
    walked_stuck (lent_walk_refusal ps a f t (length old)) ps a b u t r old new s
    (lent_whole ps a f t (length old) room (rw l refl) whole ∙ caller_walk_number ps a b u t (length old) l (omega arith) room) l from goal room stuck
