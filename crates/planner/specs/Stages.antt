-- What the planner's stages hand on. Assumes nothing: these are definitions.
use Rattle.std.specs.Prelude.{◌≡◌, List, ℕ, length}
use Rattle.rack.specs.Limits.{lent_hops, lent_words}
use Rattle.rack.specs.Wiring.{Wiring}
use Rattle.rack.specs.Columns.{columns, column_count, address, Embedding}
use Rattle.rack.specs.Refusals.{Refusal, rack_refusal}
use Rattle.rack.specs.WiringFile.{file_wiring, file_refusal}
use Rattle.survey.specs.Tables.{HopsIn}
use Rattle.planner.specs.OpenColumns.{WordsOf}
use Rattle.planner.specs.Answer.{Answer}

-- the addresses of all cards, of k columns, are in the words
pub record Addressed (w : Wiring) (ws : List ℕ) (k : ℕ) : Type 0 where
  pub embedding : Embedding w (column_count w) (address w)
  pub count : k ≡ column_count w
  pub words : WordsOf (columns w) w.cards ws

-- the answer is a refusal, or the plan is in the buffers
pub record PlannedAs (f : Refusal) (w : Wiring) (r : Answer) (ws h : List ℕ) : Type 0 where
  pub number : r.number ≡ f.number
  pub at : r.at ≡ f.at
  pub value : r.number ≡ 0 → r.value ≡ column_count w
  pub no_value : (r.number ≡ 0 → ⊥) → r.value ≡ 0
  pub words : r.number ≡ 0 → WordsOf (columns w) w.cards ws
  pub hops : r.number ≡ 0 → HopsIn w h
  pub long_words : length ws ≡ lent_words
  pub long_hops : length h ≡ lent_hops

abbrev pub RackPlanned : Wiring → Answer → (ws h : List ℕ) → Type 0
RackPlanned w r ws h = PlannedAs (rack_refusal w) w r ws h

abbrev pub FilePlanned : (bs : List ℕ) → Answer → (ws h : List ℕ) → Type 0
FilePlanned bs r ws h = PlannedAs (file_refusal bs) (file_wiring bs) r ws h
