-- The column that a step crosses and the first that a walk crosses, and what the calls answer. Assumes nothing: these are definitions.
-- Quotations: docs/REQUIREMENTS.md.
use Rattle.std.specs.Prelude.{◌≡◌, ◌&&◌, cond, List, ℕ, ltb, eqb, length, get_or, Option, Some, None, Result, Ok, Err}
use Rattle.rack.specs.Lists.{one}
use Rattle.rack.specs.PlanFile.{plan_columns, plan_hamming}
use Rattle.forwarder.specs.Forwarding.{step, walk}
use Rattle.rack.specs.declared.refused.Refused.{Refused}
use Rattle.forwarder.specs.Calls.{step_refusal, walk_hops, walk_refusal, Stepped, stepped_of, StepSays, Walked, walked_of, WalkSays}
use Rattle.forwarder.specs.declared.walk.Tally.{Tally}
use Rattle.crossing.specs.Differing.{plan_differing}
use Rattle.crossing.specs.declared.FrameStep.{FrameStep as AnsweredStep}
use Rattle.crossing.specs.declared.FrameWalk.{FrameWalk as AnsweredWalk}
use Rattle.crossing.specs.declared.places.Places.{Places as AnsweredPlaces}

-- COLUMNS CROSSED, k for none
-- "the lowest in which the far card's address differs from their own card's, or none if arrived or stuck"
unfoldable pub step_column : List ℕ → (a b : ℕ) → ℕ
step_column ps a b = cond (eqb (step ps a b).outcome 2) (plan_differing ps a (step ps a b).far) (plan_columns ps)

-- "the first column crossed, or none for a walk without hops": between card a and the second card met
unfoldable pub walk_column : List ℕ → (a b : ℕ) → ℕ
walk_column ps a b = cond (eqb (walk_hops (walk ps a b)) 0) (plan_columns ps) (plan_differing ps a (get_or (walk ps a b).met 1 0))

-- ANSWERS
-- 1 for a column or 0 for none, and the column
pub record FirstColumn : Type 0 where
  pub found : ℕ
  pub column : ℕ

-- 1 and column j, where nothing is refused and it is one of the k; else none, 0 and 0
pub record ColumnOrNone (refused j k : ℕ) (r : FirstColumn) : Type 0 where
  pub found : r.found ≡ one (eqb refused 0 && ltb j k)
  pub column : r.column ≡ cond (eqb refused 0 && ltb j k) j 0

abbrev pub no_column : FirstColumn
no_column = record { found = 0; column = 0 }

abbrev pub column_of : Option ℕ → FirstColumn
column_of (Some j) = record { found = 1; column = j }
column_of None = no_column

-- a place, where it is below k
abbrev pub some_below : (k j : ℕ) → Option ℕ
some_below k j = cond (ltb j k) (Some j) None

-- of two addresses: "the lowest column that differs, or none where they are equal"
abbrev pub DifferingColumn : List ℕ → (a b : ℕ) → FirstColumn → Type 0
DifferingColumn ps a b r = ColumnOrNone 0 (plan_differing ps a b) (plan_columns ps) r

-- how many columns differ, and the lowest of them
pub record Places : Type 0 where
  pub count : ℕ
  pub first : FirstColumn

abbrev pub places_of : AnsweredPlaces → Places
places_of p = record { count = p.count; first = column_of p.first }

-- the differing places counted, and that column
pub record PlacesAre (ps : List ℕ) (a b : ℕ) (r : Places) : Type 0 where
  pub count : r.count ≡ plan_hamming ps a b
  pub first : DifferingColumn ps a b r.first

-- a step's answer, and the column that it crosses
pub record FrameStep : Type 0 where
  pub stepped : Stepped
  pub crossed : FirstColumn

abbrev pub frame_step_of : Result AnsweredStep Refused → FrameStep
frame_step_of (Ok s) = record { stepped = stepped_of (Ok s.step); crossed = column_of s.crossed }
frame_step_of (Err e) = record { stepped = stepped_of (Err e); crossed = no_column }

-- a step's answer, with the column that it crosses; none with a refusal
pub record FrameStepSays (ps : List ℕ) (a b : ℕ) (r : FrameStep) : Type 0 where
  pub stepped : StepSays ps a b r.stepped
  pub crossed : ColumnOrNone (step_refusal ps a b) (step_column ps a b) (plan_columns ps) r.crossed

-- a walk's answer, and the first column that it crosses
pub record FrameWalk : Type 0 where
  pub walked : Walked
  pub crossed : FirstColumn

-- with a refusal the counts are as they went in
abbrev pub frame_walk_of : Tally → Result AnsweredWalk Refused → FrameWalk
frame_walk_of t (Ok w) = record { walked = walked_of t (Ok w.walked); crossed = column_of w.crossed }
frame_walk_of t (Err e) = record { walked = walked_of t (Err e); crossed = no_column }

-- a walk's answer and what it leaves, with the first column that it crosses; none with a refusal
pub record FrameWalkSays (ps : List ℕ) (a b : ℕ) (t : Tally) (r : FrameWalk) (old new : List ℕ) : Type 0 where
  pub walked : WalkSays ps a b t r.walked old new
  pub crossed : ColumnOrNone (walk_refusal ps a b t (length old)) (walk_column ps a b) (plan_columns ps) r.crossed
