-- The column in which two rows differ alone, and the columns that links cross, a byte a link. Assumes nothing: these are definitions.
use Rattle.std.specs.Prelude.{◌≡◌, Bool, cond, List, ℕ, ◌<◌, eqb, length, get_or}
use Rattle.rack.specs.Limits.{most_links}
use Rattle.rack.specs.Wiring.{Wiring, link_at}
use Rattle.rack.specs.Columns.{hamming}
use Rattle.plan_tests.specs.Tests.{lowest_apart, crossed}

-- the only one of k places in which two rows differ, k if there is none or more than one
unfoldable pub only_apart : (k : ℕ) → (x y : ℕ → Bool) → ℕ
only_apart k x y = cond (eqb (hamming k x y) 1) (lowest_apart k x y) k

-- a byte for each of the first `upto` links of a wiring: the column that it crosses
pub record CrossedColumns (k : ℕ) (rows : ℕ → ℕ → Bool) (w : Wiring) (bytes : List ℕ) (upto : ℕ) : Type 0 where
  pub long : length bytes ≡ most_links
  pub is : (i : ℕ) → i < upto → get_or bytes i 0 ≡ crossed k rows (link_at w i)
