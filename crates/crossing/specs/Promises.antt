-- What is promised of the columns that steps and walks cross. Each statement is proved in proofs/Promises.antt under its name.
-- Quotations: docs/REQUIREMENTS.md.
use Rattle.std.specs.Prelude.{◌≡◌, Bool, true, ◌↔◌, List, [], ◌∷◌, ℕ, ◌≤◌, ◌<◌, length, get_or}
use Rattle.rack.specs.Lists.{differ}
use Rattle.rack.specs.Wiring.{Link, Wiring, link_count, link_at, joins}
use Rattle.rack.specs.Columns.{column, columns, column_count, address, hamming}
use Rattle.rack.specs.PlanFile.{plan_columns, plan_wiring}
use Rattle.rack.specs.Refusals.{wiring_refusal}
use Rattle.reader.specs.Plan.{plan_refusal}
use Rattle.forwarder.specs.Forwarding.{step, walk}
use Rattle.forwarder.specs.Calls.{walk_hops}
use Rattle.forwarder.specs.Promises.{IfAlike, SameAddress, SameIfCard}
use Rattle.forwarder.specs.declared.walk.Tally.{Tally}
use Rattle.crossing.specs.Differing.{lowest_differing, plan_differing, column_number}
use Rattle.crossing.specs.Crossing.{FrameStep, FrameWalk, Places, step_column, walk_column, PlacesAre, FrameStepSays, FrameWalkSays}

-- "the lowest column that differs, or none where they are equal": k exactly if the two are equal, and j below k exactly if they differ at j
-- and agree below it
unfoldable pub LowestDiffering : Type 0
LowestDiffering =
    (k : ℕ) (x y : ℕ → Bool) →
    ((lowest_differing k x y ≡ k) ↔ (hamming k x y ≡ 0))
    × ((j : ℕ) → j < k → ((lowest_differing k x y ≡ j) ↔ ((differ (x j) (y j) ≡ true) × ((i : ℕ) → i < j → x i ≡ y i))))

-- on every plan, also one that reading refuses with 13, a step crosses a column exactly if it is over a link
unfoldable pub StepCrosses : Type 0
StepCrosses = (ps : List ℕ) (a b : ℕ) → (step_column ps a b < plan_columns ps) ↔ ((step ps a b).outcome ≡ 2)

-- and a walk exactly if it has hops; its column is that of its first step
unfoldable pub WalkCrosses : Type 0
WalkCrosses =
    (ps : List ℕ) (a b : ℕ) →
    ((walk_column ps a b < plan_columns ps) ↔ (1 ≤ walk_hops (walk ps a b))) × (walk_column ps a b ≡ step_column ps a b)

-- "For a linked pair in an accepted rack it is that link's column", from either end: the lowest column that differs has its number
pub record CrossesLinkColumn (w : Wiring) (k : ℕ) (differing : (a b : ℕ) → ℕ) (l : Link) : Type 0 where
  pub inside : column_number w l < k
  pub numbered : get_or (columns w) (column_number w l) [] ≡ column w l
  pub there : differing l.first l.second ≡ column_number w l
  pub back : differing l.second l.first ≡ column_number w l

unfoldable pub LinkCrosses : Type 0
LinkCrosses =
    (w : Wiring) (i : ℕ) → 1 ≤ w.cards → (wiring_refusal w).number ≡ 0 → i < link_count w →
    let k = column_count w in
    CrossesLinkColumn w k (λ a b. lowest_differing k (address w a) (address w b)) (link_at w i)

-- the same on a plan that was read
unfoldable pub PlanLinkCrosses : Type 0
PlanLinkCrosses =
    (ps : List ℕ) (i : ℕ) → plan_refusal ps ≡ 0 → i < link_count (plan_wiring ps) →
    CrossesLinkColumn (plan_wiring ps) (plan_columns ps) (plan_differing ps) (link_at (plan_wiring ps) i)

-- THE ANSWERS: a column is found with the places exactly if some differ
unfoldable pub PlacesFound : Type 0
PlacesFound = (ps : List ℕ) (a b : ℕ) (r : Places) → PlacesAre ps a b r → (r.first.found ≡ 1) ↔ (1 ≤ r.count)

-- "For a linked pair in an accepted rack it is that link's column": of the places counted on a plan that was read
unfoldable pub PlacesNameColumn : Type 0
PlacesNameColumn =
    (ps : List ℕ) (a b i : ℕ) (r : Places) → plan_refusal ps ≡ 0 → i < link_count (plan_wiring ps) →
    joins a b (link_at (plan_wiring ps) i) ≡ true → PlacesAre ps a b r →
    (r.count ≡ 1) × (r.first.found ≡ 1) × (r.first.column ≡ column_number (plan_wiring ps) (link_at (plan_wiring ps) i))

-- a step's answer has a column exactly if it is over a link, a walk's exactly if it has hops; so none with any refusal
unfoldable pub AnswersCross : Type 0
AnswersCross =
    ((ps : List ℕ) (a b : ℕ) (r : FrameStep) → FrameStepSays ps a b r → (r.crossed.found ≡ 1) ↔ (r.stepped.outcome ≡ 2))
    × ((ps : List ℕ) (a b : ℕ) (t : Tally) (r : FrameWalk) (old new : List ℕ) → FrameWalkSays ps a b t r old new →
    (r.crossed.found ≡ 1) ↔ (1 ≤ r.walked.hops))

-- on a plan that was read, the column of a step's answer is that of its link
unfoldable pub StepNamesColumn : Type 0
StepNamesColumn =
    (ps : List ℕ) (a b : ℕ) (r : FrameStep) → plan_refusal ps ≡ 0 → FrameStepSays ps a b r → r.stepped.outcome ≡ 2 →
    (r.crossed.found ≡ 1) × (r.crossed.column ≡ column_number (plan_wiring ps) (link_at (plan_wiring ps) r.stepped.link))

-- and that of a walk's answer is that of the first link taken
unfoldable pub WalkNamesColumn : Type 0
WalkNamesColumn =
    (ps : List ℕ) (a b : ℕ) (t : Tally) (r : FrameWalk) (old new : List ℕ) → plan_refusal ps ≡ 0 → FrameWalkSays ps a b t r old new →
    1 ≤ r.walked.hops →
    (i : ℕ) × (is : List ℕ) × ((walk ps a b).taken ≡ i ∷ is) × (r.crossed.found ≡ 1)
    × (r.crossed.column ≡ column_number (plan_wiring ps) (link_at (plan_wiring ps) i))

-- "The step depends on a and b, a's links, the far addresses, a's own address and b's, and on nothing else beyond the three sizes": its
-- column too
unfoldable pub StepColumnLocal : Type 0
StepColumnLocal =
    (ps qs : List ℕ) (a b : ℕ) → IfAlike ps qs a (SameAddress ps qs a → SameAddress ps qs b → step_column ps a b ≡ step_column qs a b)

-- so does all that the call answers, with the plan's length
unfoldable pub FrameStepLocal : Type 0
FrameStepLocal =
    (ps qs : List ℕ) (a b : ℕ) (r s : FrameStep) →
    IfAlike ps qs a
    (SameIfCard ps qs a → SameIfCard ps qs b → length ps ≡ length qs → FrameStepSays ps a b r → FrameStepSays qs a b s → r ≡ s)
