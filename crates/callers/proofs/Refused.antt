-- What refuses a walk by caller and that of a lent frame, number by number, and exactly when 18 and 19 are said. Assumes nothing.
use mathlib.Core.Path.{◌≡◌, refl, sym, ◌∙◌}
use mathlib.Core.Bool.{true}
use mathlib.Core.Logic.{◌≢◌}
use mathlib.Core.List.{List}
use Prim.Native.Nat.{ℕ, ◌≤◌, ◌<◌}
use native.Mathlib.Omega.{arith}
use lib.ListN.{length}
use borrow.Author.Tests.{eq-eqb, ne_eqb, lt-ltb, le-ltb}
use Rattle.rack.specs.Limits.{most_callers}
use Rattle.rack.proofs.Logic.{by_eq, by_lt}
use Rattle.reader.specs.Plan.{layout_holds}
use Rattle.reader.specs.Reading.{layout_refusal}
use Rattle.reader.proofs.Reading.{layout_refusal_within}
use Rattle.forwarder.specs.Calls.{lent_met, walk_refusal}
use Rattle.forwarder.proofs.Answers.{walk_refusal_within}
use Rattle.turns.specs.Turns.{least_frame, frame_goal, frame_caller}
use Rattle.traffic.specs.Traffic.{caller_refusal, tally_of}
use Rattle.traffic.specs.declared.Traffic.{Traffic}
use Rattle.traffic.proofs.CallerRefusal.{caller_passes, caller_refusal_within}
use Rattle.callers.specs.Walking.{caller_walk_refusal, lent_walk_refusal}

-- BY NUMBERS: 1, then 12 and 18, then the walk's own
module _ (ps : List ℕ) (a b u : ℕ) (t : Traffic) (room : ℕ) where
  pub no_room : room ≢ lent_met → caller_walk_refusal ps a b u t room ≡ 1
  unfolding caller_walk_refusal
  no_room n = rw (ne_eqb room lent_met n) refl

  pub no_caller : room ≡ lent_met → caller_refusal ps u ≢ 0 → caller_walk_refusal ps a b u t room ≡ caller_refusal ps u
  unfolding caller_walk_refusal
  no_caller e n = rw (eq-eqb room lent_met e, ne_eqb (caller_refusal ps u) 0 n) refl

  pub walk_number : room ≡ lent_met → caller_refusal ps u ≡ 0 → caller_walk_refusal ps a b u t room ≡ walk_refusal ps a b (tally_of t u) room
  unfolding caller_walk_refusal
  walk_number e z = rw (eq-eqb room lent_met e, eq-eqb (caller_refusal ps u) 0 z) refl

  pub caller_walk_number : layout_holds ps ≡ true → u < most_callers → room ≡ lent_met
      → caller_walk_refusal ps a b u t room ≡ walk_refusal ps a b (tally_of t u) room
  unfolding layout_refusal
  caller_walk_number l h e = walk_number e (caller_passes ps u (rw l refl) h)

  by_number : {A : Type 0} → (caller_walk_refusal ps a b u t room ≡ 1 → A)
      → (room ≡ lent_met → caller_walk_refusal ps a b u t room ≡ caller_refusal ps u → A)
      → (caller_walk_refusal ps a b u t room ≤ 15 → A) → A
  by_number small of_caller of_walk =
      by_eq room lent_met
      (λ e. by_eq (caller_refusal ps u) 0
      (λ z. of_walk (omega (arith, walk_number e z, walk_refusal_within ps a b (tally_of t u) room)))
      (λ n. of_caller e (no_caller e n)))
      (λ n. small (no_room n))

  pub number_within : caller_walk_refusal ps a b u t room ≤ 18
  number_within = by_number (λ e. omega arith) (λ _ e. omega (arith, caller_refusal_within ps u)) (λ h. omega arith)

  pub eighteen_only : caller_walk_refusal ps a b u t room ≡ 18 → (room ≡ lent_met) × (caller_refusal ps u ≡ 18)
  eighteen_only e = by_number (λ d. absurd (omega arith)) (λ r d. (r, sym d ∙ e)) (λ h. absurd (omega arith))

  pub eighteen_said : room ≡ lent_met → caller_refusal ps u ≡ 18 → caller_walk_refusal ps a b u t room ≡ 18
  eighteen_said r e = no_caller r (λ z. omega arith) ∙ e

-- OF A LENT FRAME: 1, 12, 19, then those by its numbers
module _ (ps : List ℕ) (a : ℕ) (f : List ℕ) (t : Traffic) (room : ℕ) where
  pub lent_no_room : room ≢ lent_met → lent_walk_refusal ps a f t room ≡ 1
  unfolding lent_walk_refusal
  lent_no_room n = rw (ne_eqb room lent_met n) refl

  pub lent_no_plan : room ≡ lent_met → layout_refusal ps ≢ 0 → lent_walk_refusal ps a f t room ≡ layout_refusal ps
  unfolding lent_walk_refusal
  lent_no_plan e n = rw (eq-eqb room lent_met e, ne_eqb (layout_refusal ps) 0 n) refl

  pub lent_short : room ≡ lent_met → layout_refusal ps ≡ 0 → length f < least_frame → lent_walk_refusal ps a f t room ≡ 19
  unfolding lent_walk_refusal
  lent_short e z h = rw (eq-eqb room lent_met e, eq-eqb (layout_refusal ps) 0 z, lt-ltb (length f) least_frame h) refl

  pub lent_whole : room ≡ lent_met → layout_refusal ps ≡ 0 → least_frame ≤ length f
      → lent_walk_refusal ps a f t room ≡ caller_walk_refusal ps a (frame_goal f) (frame_caller f) t room
  unfolding lent_walk_refusal
  lent_whole e z h = rw (eq-eqb room lent_met e, eq-eqb (layout_refusal ps) 0 z, le-ltb (length f) least_frame h) refl

  by_lent_number : {A : Type 0} → (lent_walk_refusal ps a f t room ≤ 12 → A)
      → (room ≡ lent_met → layout_refusal ps ≡ 0 → length f < least_frame → lent_walk_refusal ps a f t room ≡ 19 → A)
      → (room ≡ lent_met → least_frame ≤ length f
      → lent_walk_refusal ps a f t room ≡ caller_walk_refusal ps a (frame_goal f) (frame_caller f) t room → A) → A
  by_lent_number small short whole =
      by_eq room lent_met
      (λ e. by_eq (layout_refusal ps) 0
      (λ z. by_lt (length f) least_frame (λ h. short e z h (lent_short e z h)) (λ h. whole e h (lent_whole e z h)))
      (λ n. small (omega (arith, lent_no_plan e n, layout_refusal_within ps))))
      (λ n. small (omega (arith, lent_no_room n)))

  pub nineteen_only : lent_walk_refusal ps a f t room ≡ 19 → (room ≡ lent_met) × (layout_refusal ps ≡ 0) × (length f < least_frame)
  nineteen_only e =
      by_lent_number (λ h. absurd (omega arith)) (λ r l h _. (r, l, h))
      (λ _ _ d. absurd (omega (arith, number_within ps a (frame_goal f) (frame_caller f) t room)))

  pub lent_eighteen_only : lent_walk_refusal ps a f t room ≡ 18
      → (room ≡ lent_met) × (least_frame ≤ length f) × (caller_refusal ps (frame_caller f) ≡ 18)
  lent_eighteen_only e =
      by_lent_number (λ h. absurd (omega arith)) (λ _ _ _ d. absurd (omega arith))
      (λ r h d. (r, h, (eighteen_only ps a (frame_goal f) (frame_caller f) t room (sym d ∙ e)).1))
