-- The planning before a listing. Assumes nothing: this is a definition.
use Rattle.std.specs.Prelude.{List, ℕ}
use Rattle.planner.specs.Stages.{FilePlanned}
use Rattle.planner.specs.Answer.{Answer}

-- planning answered this, and left these words
abbrev pub Planned : (bs : List ℕ) → Answer → (words : List ℕ) → Type 0
Planned bs r words = (hop_bytes : List ℕ) × FilePlanned bs r words hop_bytes
