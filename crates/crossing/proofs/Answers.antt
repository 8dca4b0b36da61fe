-- What the calls answer, from what their parts do: a column or none. Assumes nothing.
use mathlib.Core.Path.{◌≡◌, refl, sym, ap, ◌∙◌, subst}
use mathlib.Core.Bool.{true, false, ◌&&◌, not}
use mathlib.Core.Logic.{◌⊎◌, inl, inr, ◌≢◌}
use mathlib.Core.List.{List}
use Prim.Native.Nat.{ℕ, ◌≤◌, ◌<◌}
use native.Mathlib.Omega.{arith}
use lib.Dec.{ltb, eqb}
use lib.ListN.{length, get_or}
use borrow.Author.Tests.{eq-eqb, ne_eqb, le-ltb, ltb-true}
use Rattle.std.specs.Prelude.{Option, Some, Ok}
use Rattle.std.proofs.lemmas.Option.{none-some, same_Some}
use Rattle.rack.proofs.Logic.{by_bool, by_eq}
use Rattle.rack.proofs.Refusals.{cond_zero}
use Rattle.rack.specs.PlanFile.{plan_cards, plan_columns, plan_bit}
use Rattle.reader.specs.Reading.{layout_refusal}
use Rattle.forwarder.specs.Forwarding.{step_seen, step, walk}
use Rattle.forwarder.specs.Calls.{Stepped, Walked, stepped_of, lent_met, walk_hops, step_refusal, walk_refusal, StepSays, WalkSays}
use Rattle.forwarder.specs.declared.step.Step.{Step as Onward}
use Rattle.forwarder.specs.declared.step.Step.TheVariants.{Stuck, Arrived}
use Rattle.forwarder.specs.declared.walk.Tally.{Tally}
use Rattle.forwarder.proofs.Frames.{answered_layout, answered_cards}
use Rattle.forwarder.proofs.Stepping.{step_far_below}
use Rattle.crossing.specs.Differing.{plan_differing}
use Rattle.crossing.specs.Crossing.{FrameStep, FrameWalk, FirstColumn, step_column, walk_column, ColumnOrNone, no_column, column_of, some_below, DifferingColumn, FrameStepSays, FrameWalkSays}
use Rattle.crossing.proofs.Differing.{differing_within}
use Rattle.crossing.proofs.Crossed.{GoesOn, column_over, column_none, walk_first, hops_go_on, no_hops}

-- A COLUMN or none
module _ (refused j k : ℕ) (r : FirstColumn) where
  none_crossed : (refused ≡ 0 → k ≤ j) → (eqb refused 0 && ltb j k) ≡ false
  none_crossed h = by_eq refused 0 (λ e. rw (eq-eqb refused 0 e, le-ltb j k (h e)) refl) (λ n. rw (ne_eqb refused 0 n) refl)

  column_absent : (refused ≡ 0 → k ≤ j) → r ≡ no_column → ColumnOrNone refused j k r
  column_absent h e = let t = none_crossed h in subst (ColumnOrNone refused j k) (sym e) (record { found = rw t refl; column = rw t refl })

-- a step that is not over a link
pub not_over : (s : Onward) → (s ≡ Stuck) ⊎ (s ≡ Arrived) → (step_seen s).outcome ≢ 2
not_over s (inl e) = λ h. let z = rw e at h in omega arith
not_over s (inr e) = λ h. let z = rw e at h in omega arith

-- a place that is one of the k
module _ (k j : ℕ) where
  below_column : ColumnOrNone 0 j k (column_of (some_below k j))
  below_column =
      by_bool (ltb j k)
      (λ (t : ltb j k ≡ true). rw t (record { found = rw t refl; column = rw t refl }))
      (λ (t : ltb j k ≡ false). rw t (record { found = rw t refl; column = rw t refl }))

  pub below_some : (i : ℕ) → Some i ≡ some_below k j → i < k
  below_some i e =
      by_bool (ltb j k)
      (λ (t : ltb j k ≡ true). rw (same_Some i j (rw t at e)) (ltb-true j k t))
      (λ (t : ltb j k ≡ false). absurd (none-some i (sym (rw t at e))))

module _ (ps : List ℕ) (a b : ℕ) where
  pub few_differing : plan_differing ps a b ≤ plan_columns ps
  unfolding plan_differing
  few_differing = differing_within (plan_columns ps) (plan_bit ps a) (plan_bit ps b)

  -- of two addresses
  pub differing_column : (k : ℕ) (r : Option ℕ) → k ≡ plan_columns ps → r ≡ some_below k (plan_differing ps a b) → DifferingColumn ps a b (column_of r)
  differing_column k r columns e = rw (e, ← columns) (below_column k (plan_differing ps a b))

  -- a step that is answered
  pub step_answered : (s : Onward) → step_refusal ps a b ≡ 0 → step_seen s ≡ step ps a b → StepSays ps a b (stepped_of (Ok s))
  step_answered s e f =
      let t = eq-eqb (step_refusal ps a b) 0 e in
      record { number = sym e; outcome = rw (t, f) refl; link = rw (t, f) refl; far = rw (t, f) refl }

  -- A STEP that is not over a link crosses none, and else what lies between its card and the far card
  module _ (r : Stepped) (s : StepSays ps a b r) where
    pub step_clear : r.outcome ≡ 2 → step_refusal ps a b ≡ 0
    step_clear e = by_eq (step_refusal ps a b) 0 (λ z. z) (λ n. absurd (let o = rw (ne_eqb (step_refusal ps a b) 0 n) at s.outcome in omega arith))

    pub step_outcome : step_refusal ps a b ≡ 0 → (step ps a b).outcome ≡ r.outcome
    step_outcome e = sym (rw (eq-eqb (step_refusal ps a b) 0 e) at s.outcome)

    step_far : step_refusal ps a b ≡ 0 → r.far ≡ (step ps a b).far
    step_far e = rw (eq-eqb (step_refusal ps a b) 0 e) at s.far

    -- the plan has a layout, the step's card and the far card
    pub step_cards : r.outcome ≡ 2 → (layout_refusal ps ≡ 0) × (a < plan_cards ps) × (r.far < plan_cards ps)
    step_cards o =
        let e = step_clear o in
        (answered_layout ps a b e, (answered_cards ps a b e).0, rw (step_far e) (step_far_below ps a b (step_outcome e ∙ o)))

    pub step_link : step_refusal ps a b ≡ 0 → r.link ≡ (step ps a b).link
    step_link e = rw (eq-eqb (step_refusal ps a b) 0 e) at s.link

  pub step_crosses_none : (r : FrameStep) → StepSays ps a b r.stepped → r.stepped.outcome ≢ 2 → r.crossed ≡ no_column
      → FrameStepSays ps a b r
  step_crosses_none r s n none =
      record {
        stepped = s;
        crossed =
            column_absent (step_refusal ps a b) (step_column ps a b) (plan_columns ps) r.crossed
            (λ e. omega (arith, column_none ps a b (λ o. n (sym (step_outcome r.stepped s e) ∙ o)))) none;
      }

  pub step_crosses_column : (r : FrameStep) → StepSays ps a b r.stepped → r.stepped.outcome ≡ 2 → DifferingColumn ps a r.stepped.far r.crossed
      → FrameStepSays ps a b r
  step_crosses_column r s e d =
      let clear = step_clear r.stepped s e in
      let column = column_over ps a b (step_outcome r.stepped s clear ∙ e) ∙ ap (plan_differing ps a) (sym (step_far r.stepped s clear)) in
      record { stepped = s; crossed = rw (clear, column) d }

  -- A WALK without hops crosses none, and else what lies between the first two of the cards met
  module _ (t : Tally) (old new : List ℕ) where
    module _ (r : Walked) (s : WalkSays ps a b t r old new) where
      pub walk_clear : r.hops ≢ 0 → walk_refusal ps a b t (length old) ≡ 0
      walk_clear n = by_eq r.number 0 (λ e. sym s.number ∙ e) (λ m. absurd (n (rw (ne_eqb r.number 0 m) at s.hops)))

      walk_answered : walk_refusal ps a b t (length old) ≡ 0 → eqb r.number 0 ≡ true
      walk_answered e = eq-eqb r.number 0 (s.number ∙ e)

      pub walk_hops_said : walk_refusal ps a b t (length old) ≡ 0 → r.hops ≡ walk_hops (walk ps a b)
      walk_hops_said e = rw (walk_answered e) at s.hops

      walk_steps : walk_refusal ps a b t (length old) ≡ 0 → step_refusal ps a b ≡ 0
      unfolding walk_refusal
      walk_steps e =
          let room = cond_zero (not (eqb (length old) lent_met)) 1 _ (λ z. omega arith) e in
          by_eq (step_refusal ps a b) 0 (λ z. z) (λ n. rw (ne_eqb (step_refusal ps a b) 0 n) at room.1)

      pub answered_goes_on : r.hops ≢ 0 → GoesOn ps a b (walk ps a b)
      answered_goes_on n = hops_go_on ps a b (omega (arith, walk_hops_said (walk_clear n)))

      -- the second card met
      pub second_met : r.hops ≢ 0 → (2 ≤ length new) × (get_or new 1 0 ≡ (step ps a b).far)
      second_met n =
          let g = answered_goes_on n in
          let met = rw (walk_answered (walk_clear n), g.met) at s.met in
          (rw met (omega arith), rw met refl)

      -- the plan has a layout, and the first two cards met
      pub walk_cards : r.hops ≢ 0 → (layout_refusal ps ≡ 0) × (a < plan_cards ps) × (get_or new 1 0 < plan_cards ps)
      walk_cards n =
          let e = walk_steps (walk_clear n) in
          (answered_layout ps a b e, (answered_cards ps a b e).0, rw (second_met n).1 (step_far_below ps a b (answered_goes_on n).over))

    pub walk_crosses_none : (r : FrameWalk) → WalkSays ps a b t r.walked old new → r.walked.hops ≡ 0 → r.crossed ≡ no_column
        → FrameWalkSays ps a b t r old new
    walk_crosses_none r s h none =
        record {
          walked = s;
          crossed =
              column_absent (walk_refusal ps a b t (length old)) (walk_column ps a b) (plan_columns ps) r.crossed
              (λ e. no_hops ps a b (sym (walk_hops_said r.walked s e) ∙ h)) none;
        }

    pub walk_crosses_column : (r : FrameWalk) → WalkSays ps a b t r.walked old new → r.walked.hops ≢ 0
        → DifferingColumn ps a (get_or new 1 0) r.crossed → FrameWalkSays ps a b t r old new
    walk_crosses_column r s n d =
        let first = walk_first ps a b ∙ column_over ps a b (answered_goes_on r.walked s n).over in
        let column = first ∙ ap (plan_differing ps a) (sym (second_met r.walked s n).1) in
        record { walked = s; crossed = rw (walk_clear r.walked s n, column) d }
