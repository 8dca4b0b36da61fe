-- The calls' answers have a column exactly if a link is crossed, and on a plan that was read it is that link's. Assumes nothing.
use mathlib.Core.Path.{◌≡◌, refl, sym, ap, ap₂, ◌∙◌}
use mathlib.Core.Bool.{Bool, true, false, ◌&&◌}
use mathlib.Core.Logic.{inl, inr, ◌≢◌}
use mathlib.Core.List.{List}
use Prim.Native.Nat.{ℕ, ◌≤◌, ◌<◌}
use native.Mathlib.Omega.{arith}
use lib.Dec.{ltb, eqb}
use lib.ListN.{length}
use borrow.Author.Tests.{eqb-true, ltb-true, eq-eqb, lt-ltb}
use Rattle.rack.specs.Lists.{one}
use Rattle.rack.specs.Wiring.{Link, link, link_at, other_end}
use Rattle.rack.proofs.Logic.{by_lt, and_left, and_right}
use Rattle.rack.proofs.Lists.{in_get_or}
use Rattle.rack.proofs.Paths.{Ends, joins_ends, touches_ends, link_linked}
use Rattle.rack.proofs.Crossing.{hops_one}
use Rattle.rack.proofs.WiringFile.{wiring_at_cards}
use Rattle.rack.specs.PlanFile.{plan_columns, plan_wiring, plan_bit, plan_hamming}
use Rattle.reader.specs.Plan.{plan_refusal}
use Rattle.reader.proofs.Promises.{read_accepted, read_measured}
use Rattle.forwarder.specs.Forwarding.{step}
use Rattle.forwarder.specs.Calls.{step_refusal, walk_refusal}
use Rattle.forwarder.specs.declared.walk.Tally.{Tally}
use Rattle.forwarder.proofs.Stepping.{step_two}
use Rattle.crossing.specs.Differing.{plan_differing, column_number}
use Rattle.crossing.specs.Crossing.{FrameStep, FrameWalk, FirstColumn, step_column, walk_column, ColumnOrNone, FrameStepSays, FrameWalkSays}
use Rattle.crossing.specs.Promises.{LowestDiffering, CrossesLinkColumn, PlanLinkCrosses, PlacesFound, PlacesNameColumn}
use Rattle.crossing.specs.Promises.{AnswersCross, StepNamesColumn, WalkNamesColumn}
use Rattle.crossing.proofs.Differing.{differing_lowest}
use Rattle.crossing.proofs.Crossed.{column_over, over_crosses, crosses_over, walk_first, over_hops}
use Rattle.crossing.proofs.Answers.{few_differing, step_clear, step_outcome, step_link, walk_clear, walk_hops_said, answered_goes_on}
use Rattle.crossing.proofs.LinkColumns.{plan_link_crosses}

-- A COLUMN behind a refusal: it is found exactly if nothing is refused and there is one
module _ (refused j k : ℕ) (r : FirstColumn) (h : ColumnOrNone refused j k r) where
  found_some : r.found ≡ 1 → (refused ≡ 0) × (j < k)
  found_some e =
      let t = one_true (eqb refused 0 && ltb j k) (sym h.found ∙ e) in
      (eqb-true refused 0 (and_left (eqb refused 0) (ltb j k) t), ltb-true j k (and_right (eqb refused 0) (ltb j k) t))
    where
      one_true : (b : Bool) → one b ≡ 1 → b ≡ true
      one_true true e = refl
      one_true false e = absurd (omega arith)

  some_found : refused ≡ 0 → j < k → (r.found ≡ 1) × (r.column ≡ j)
  some_found e l =
      let t = eq-eqb refused 0 e in
      let u = lt-ltb j k l in
      (rw (t, u) at h.found, rw (t, u) at h.column)

-- THE PLACES
pub places_found : PlacesFound
unfolding PlacesFound LowestDiffering plan_hamming plan_differing
places_found ps a b r s =
    let none = (differing_lowest (plan_columns ps) (plan_bit ps a) (plan_bit ps b)).0 in
    let within = few_differing ps a b in (
      (λ e. let f = found_some 0 (plan_differing ps a b) (plan_columns ps) r.first s.first e in
          by_lt 0 r.count (λ h. h) (λ h. absurd (omega (arith, f.1, none.1 (omega (arith, s.count)))))),
      (λ h. (some_found 0 (plan_differing ps a b) (plan_columns ps) r.first s.first refl
          (by_lt (plan_differing ps a b) (plan_columns ps) (λ l. l) (λ l. absurd (omega (arith, s.count, none.0 (omega arith)))))).0),
    )

-- A STEP
module _ (ps : List ℕ) (a b : ℕ) (r : FrameStep) (s : FrameStepSays ps a b r) where
  found_over : r.crossed.found ≡ 1 → r.stepped.outcome ≡ 2
  found_over e =
      let f = found_some (step_refusal ps a b) (step_column ps a b) (plan_columns ps) r.crossed s.crossed e in
      sym (step_outcome ps a b r.stepped s.stepped f.0) ∙ crosses_over ps a b f.1

  over_found : r.stepped.outcome ≡ 2 → ((step ps a b).outcome ≡ 2) × (r.crossed.found ≡ 1) × (r.crossed.column ≡ step_column ps a b)
  over_found e =
      let clear = step_clear ps a b r.stepped s.stepped e in
      let over = step_outcome ps a b r.stepped s.stepped clear ∙ e in
      let f = some_found (step_refusal ps a b) (step_column ps a b) (plan_columns ps) r.crossed s.crossed clear (over_crosses ps a b over) in
      (over, f.0, f.1)

-- A WALK
module _ (ps : List ℕ) (a b : ℕ) (t : Tally) (r : FrameWalk) (old new : List ℕ) (s : FrameWalkSays ps a b t r old new) where
  abbrev refused : ℕ
  refused = walk_refusal ps a b t (length old)

  found_hops : r.crossed.found ≡ 1 → 1 ≤ r.walked.hops
  found_hops e =
      let f = found_some refused (walk_column ps a b) (plan_columns ps) r.crossed s.crossed e in
      let over = crosses_over ps a b (omega (arith, f.1, walk_first ps a b)) in
      omega (arith, walk_hops_said ps a b t old new r.walked s.walked f.0, over_hops ps a b over)

  hops_found : 1 ≤ r.walked.hops → (r.crossed.found ≡ 1) × (r.crossed.column ≡ walk_column ps a b)
  hops_found h =
      let n : r.walked.hops ≢ 0 = λ e. omega arith in
      let over = (answered_goes_on ps a b t old new r.walked s.walked n).over in
      some_found refused (walk_column ps a b) (plan_columns ps) r.crossed s.crossed (walk_clear ps a b t old new r.walked s.walked n)
      (omega (arith, walk_first ps a b, over_crosses ps a b over))

pub answers_cross : AnswersCross
unfolding AnswersCross
answers_cross = (
  λ ps a b r s. (found_over ps a b r s, λ e. (over_found ps a b r s e).1),
  λ ps a b t r old new s. (found_hops ps a b t r old new s, λ h. (hops_found ps a b t r old new s h).0),
)

-- ON A PLAN THAT WAS READ a linked pair differs in its link's column alone, and a step crosses it
ends_differ_there : (ps : List ℕ) (a b : ℕ) (l : Link) → CrossesLinkColumn (plan_wiring ps) (plan_columns ps) (plan_differing ps) l → Ends a b l
    → plan_differing ps a b ≡ column_number (plan_wiring ps) l
ends_differ_there ps a b l crosses (inl e) = ap₂ (plan_differing ps) (sym e.0) (sym e.1) ∙ crosses.there
ends_differ_there ps a b l crosses (inr e) = ap₂ (plan_differing ps) (sym e.1) (sym e.0) ∙ crosses.back

pub places_name_column : PlacesNameColumn
unfolding PlacesNameColumn PlanLinkCrosses
places_name_column ps a b i r h l t s =
    let w = plan_wiring ps in
    let ends = joins_ends a b (link_at w i) t in
    let joined = link_linked w a b (link_at w i) (in_get_or w.links i (link 0 0) l) ends in
    let rack = (read_accepted ps h).rack in
    let inside = rack.inside a b joined in
    let hops = (read_measured ps h).measured a b (rw (wiring_at_cards 6 ps) at inside.0) (rw (wiring_at_cards 6 ps) at inside.1) in
    let crosses = plan_link_crosses ps i h l in
    let at = ends_differ_there ps a b (link_at w i) crosses ends in
    let f = some_found 0 (plan_differing ps a b) (plan_columns ps) r.first s.first refl (omega (arith, at, crosses.inside)) in
    (s.count ∙ hops ∙ hops_one w rack a b joined, f.0, f.1 ∙ at)

step_column_named : (ps : List ℕ) (a b : ℕ) → plan_refusal ps ≡ 0 → (step ps a b).outcome ≡ 2
    → step_column ps a b ≡ column_number (plan_wiring ps) (link_at (plan_wiring ps) (step ps a b).link)
unfolding PlanLinkCrosses
step_column_named ps a b h e =
    let o = step_two ps a b e in
    let l = link_at (plan_wiring ps) (step ps a b).link in
    column_over ps a b e ∙ ap (plan_differing ps a) o.far
    ∙ ends_differ_there ps a (other_end a l) l (plan_link_crosses ps (step ps a b).link h o.inside) (touches_ends a l o.nearer.of_a)

pub step_names_column : StepNamesColumn
unfolding StepNamesColumn
step_names_column ps a b r h s e =
    let f = over_found ps a b r s e in
    let link = step_link ps a b r.stepped s.stepped (step_clear ps a b r.stepped s.stepped e) in
    (f.1, f.2 ∙ step_column_named ps a b h f.0 ∙ ap (λ (i : ℕ). column_number (plan_wiring ps) (link_at (plan_wiring ps) i)) (sym link))

pub walk_names_column : WalkNamesColumn
unfolding WalkNamesColumn
walk_names_column ps a b t r old new h s many =
    let f = hops_found ps a b t r old new s many in
    let g = answered_goes_on ps a b t old new r.walked s.walked (λ e. omega arith) in
    ((step ps a b).link, g.later, g.taken, f.0, f.1 ∙ walk_first ps a b ∙ step_column_named ps a b h g.over)
