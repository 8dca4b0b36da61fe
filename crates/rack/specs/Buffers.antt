-- Numbers of 16 and 32 bits in bytes, lent buffers that are written from their start on, and parts of them. Assumes nothing: these are
-- definitions.
use Rattle.std.specs.Prelude.{◌≡◌, List, [], ◌∷◌, ◌++◌, ℕ, suc, ◌+◌, ◌*◌, ◌-◌, ◌/◌, ◌%◌, ◌≤◌, length, get_or, replicate}
use Rattle.std.specs.Borrow.{Bor}

-- the number of 16 bits at a place, low byte first
unfoldable pub number_at : List ℕ → (i : ℕ) → ℕ
number_at bs i = get_or bs i 0 + 256 * get_or bs (suc i) 0

-- the number of 32 bits at a place
unfoldable pub number32_at : List ℕ → (i : ℕ) → ℕ
number32_at bs i = number_at bs i + 65536 * number_at bs (i + 2)

-- a number as two bytes, low byte first
unfoldable pub two_bytes : ℕ → List ℕ
two_bytes v = (v % 256) ∷ (v / 256 % 256) ∷ []

-- as four
unfoldable pub four_bytes : ℕ → List ℕ
four_bytes v = two_bytes v ++ two_bytes (v / 65536)

-- the buffer begins with these bytes and is zero behind them
pub record Written (out xs : List ℕ) : Type 0 where
  pub within : length xs ≤ length out
  pub is : out ≡ xs ++ replicate (length out - length xs) 0

-- what a function appends to a buffer that is written up to `at`
abbrev pub Appends : (at : ℕ) → (old new xs : List ℕ) → Type 0
Appends at old new ys = (xs : List ℕ) → length xs ≡ at → Written old xs → Written new (xs ++ ys)

-- the slice that begins at this place, a block of memory and an offset in it, and has these bytes
pub record SliceIs (at : ℕ × ℕ) (bs : List ℕ) (r : Bor (List ℕ)) : Type 0 where
  pub place : r.ref_ptr ≡ at
  pub bytes : r.now ≡ bs
