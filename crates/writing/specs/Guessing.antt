-- What a guessed plan leaves in the lent bytes. Assumes nothing: these are definitions.
use Rattle.std.specs.Prelude.{◌≡◌, List, ℕ, ◌<◌, length, get_or}
use Rattle.rack.specs.Buffers.{Written}
use Rattle.rack.specs.WiringFile.{file_wiring, file_refusal}
use Rattle.planner.specs.PlanBytes.{plan_bytes}

-- the length of the planner's own plan, which is written, of an accepted file
pub record GuessIs (bs out : List ℕ) (long : ℕ) : Type 0 where
  pub accepted : (file_refusal bs).number ≡ 0
  pub is : long ≡ length (plan_bytes (file_wiring bs))
  pub written : Written out (plan_bytes (file_wiring bs))

-- each item is a byte; a view does not say it of what it borrows
abbrev pub Bytes : List ℕ → Type 0
Bytes bs = (i : ℕ) → get_or bs i 0 < 256
