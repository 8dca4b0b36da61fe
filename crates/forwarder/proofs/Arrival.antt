-- A frame's walk on a plan with a layout is answered, stuck or not, or 15; on a plan that was read it arrives by the fewest links, or is 15.
-- Assumes nothing.
use mathlib.Core.Path.{◌≡◌, refl, ap, ap₂, ◌∙◌}
use mathlib.Core.Bool.{Bool, true, false, not, cond}
use mathlib.Core.List.{List, ◌++◌}
use Prim.Native.Nat.{ℕ, suc, ◌+◌, ◌*◌, ◌-◌, ◌<◌}
use native.Mathlib.Omega.{arith}
use lib.ListN.{length, replicate}
use borrow.Author.Tests.{eq-eqb, ne_eqb}
use Rattle.rack.specs.Hops.{hops}
use Rattle.rack.proofs.Logic.{not_true_false}
use Rattle.rack.specs.PlanFile.{plan_cards, plan_wiring}
use Rattle.reader.specs.Plan.{layout_holds}
use Rattle.reader.specs.Promises.{Measured}
use Rattle.reader.specs.Reading.{layout_refusal}
use Rattle.reader.proofs.Promises.{read_measured}
use Rattle.forwarder.specs.Forwarding.{walk}
use Rattle.forwarder.specs.Calls.{lent_met, walk_hops, takes_walk, step_refusal, walk_refusal, Walked, WalkSays, Frame, Arrived, Full, CanTake}
use Rattle.forwarder.specs.Promises.{StuckUncounted, WalkArrives, WalkFull}
use Rattle.forwarder.specs.declared.walk.Tally.{Tally}
use Rattle.forwarder.proofs.Frames.{both_cards}
use Rattle.forwarder.proofs.Answers.{takes_stuck, takes_fits, takes_both}
use Rattle.forwarder.proofs.Delivery.{Arrives, frame_arrives}

-- none of 1, 12 and 14 applies
walked_number : (ps : List ℕ) (a b : ℕ) (t : Tally) (r : Walked) (old new : List ℕ) → WalkSays ps a b t r old new
    → layout_holds ps ≡ true → a < plan_cards ps → b < plan_cards ps → length old ≡ lent_met → r.number ≡ cond (not (takes_walk t (walk ps a b))) 15 0
unfolding walk_refusal layout_refusal
walked_number ps a b t r old new s h from goal room =
    let l : layout_refusal ps ≡ 0 = rw h refl in
    s.number ∙ rw (eq-eqb (length old) lent_met room, eq-eqb (step_refusal ps a b) 0 (both_cards ps a b l from goal)) refl

pub stuck_uncounted : StuckUncounted
unfolding StuckUncounted
stuck_uncounted ps a b t r old new s h from goal room stuck =
    let z : r.number ≡ 0 =
    walked_number ps a b t r old new s h from goal room
    ∙ ap (λ (x : Bool). cond (not x) 15 0) (takes_stuck t (walk_hops (walk ps a b)) (walk ps a b).arrived stuck)
    in
    let e = eq-eqb r.number 0 z in
    let none : r.arrived ≡ 0 = rw e at s.arrived ∙ stuck in
    (z, none, rw e at s.hops, omega (arith, s.frames), s.total ∙ rw none (omega arith))

module _ (ps : List ℕ) (a b : ℕ) (t : Tally) (r : Walked) (old new : List ℕ) (s : WalkSays ps a b t r old new) (f : Frame ps a b old) where
  measured : Measured ps
  measured = read_measured ps f.read

  abbrev fewest : ℕ
  fewest = hops (plan_wiring ps) a b

  delivered : Arrives ps measured a b (walk ps a b)
  delivered = frame_arrives ps measured a b f.from f.goal

  met_long : length (walk ps a b).met ≡ suc fewest
  met_long = let d = delivered.1 in ap length d.1 ∙ ap suc d.3

  walked_hops : walk_hops (walk ps a b) ≡ fewest
  unfolding walk_hops
  walked_hops = omega (arith, met_long)

  number_is : r.number ≡ cond (not (takes_walk t (walk ps a b))) 15 0
  number_is = walked_number ps a b t r old new s measured.layout f.from f.goal f.room

  pub walk_arrived : CanTake t fewest → Arrived ps a b t r new
  walk_arrived (frame, total) =
      let k : takes_walk t (walk ps a b) ≡ true = takes_fits t (walk_hops (walk ps a b)) (walk ps a b).arrived (frame, rw walked_hops total) in
      arrived (rw k at number_is)
    where
      arrived : r.number ≡ 0 → Arrived ps a b t r new
      arrived z =
          let d = delivered.1 in
          let e = eq-eqb r.number 0 z in
          let one : r.arrived ≡ 1 = rw e at s.arrived ∙ delivered.0 in
          let few : r.hops ≡ fewest = rw e at s.hops ∙ walked_hops in
          let m : new ≡ (walk ps a b).met ++ replicate (lent_met - length (walk ps a b).met) 0 = rw e at s.met in
          let left : lent_met - length (walk ps a b).met ≡ lent_met - suc fewest = omega (arith, met_long) in
          record {
            number = z;
            arrived = one;
            fewest = few;
            frames = omega (arith, s.frames);
            total = s.total ∙ ap₂ (λ (x y : ℕ). t.hops + x * y) one few ∙ omega arith;
            behind = d.0;
            met = m ∙ ap₂ (λ (x : List ℕ) (y : ℕ). x ++ replicate y 0) d.1 left;
            path = d.2;
            long = d.3;
          }

  counts_take : takes_walk t (walk ps a b) ≡ true → CanTake t fewest
  counts_take e =
      let can = takes_both t (walk_hops (walk ps a b)) (walk ps a b).arrived (λ z. omega (arith, delivered.0)) e in
      (can.0, rw walked_hops at can.1)

  pub walk_full : (CanTake t fewest → ⊥) → Full t r old new
  walk_full never =
      let k : takes_walk t (walk ps a b) ≡ false = not_true_false (takes_walk t (walk ps a b)) (λ e. never (counts_take e)) in
      full (rw k at number_is)
    where
      full : r.number ≡ 15 → Full t r old new
      full z =
          let e = ne_eqb r.number 0 (λ g. omega arith) in
          let none : r.arrived ≡ 0 = rw e at s.arrived in
          record {
            number = z;
            arrived = none;
            hops = rw e at s.hops;
            frames = omega (arith, s.frames);
            total = s.total ∙ rw none (omega arith);
            met = rw e at s.met;
          }

-- what a walk answers, with what follows of it for a frame
pub with_arrival : (ps : List ℕ) (a b : ℕ) (t : Tally) (r : Walked) (old new : List ℕ) → WalkSays ps a b t r old new
    → WalkSays ps a b t r old new
    × ((Frame ps a b old → CanTake t (hops (plan_wiring ps) a b) → Arrived ps a b t r new)
    × (Frame ps a b old → (CanTake t (hops (plan_wiring ps) a b) → ⊥) → Full t r old new))
with_arrival ps a b t r old new s = (s, (walk_arrived ps a b t r old new s, walk_full ps a b t r old new s))

-- with every condition written out
pub walk_arrives : WalkArrives
unfolding WalkArrives
walk_arrives ps a b t r old new s read from goal room frames total =
    walk_arrived ps a b t r old new s (record { read = read; from = from; goal = goal; room = room }) (frames, total)

pub full_refused : WalkFull
unfolding WalkFull
full_refused ps a b t r old new s read from goal room never =
    walk_full ps a b t r old new s (record { read = read; from = from; goal = goal; room = room })
    (λ take. let passed = never take.0 in omega (arith, take.1))
