-- What the listing program reads and prints. Assumes nothing: these are definitions.
use Rattle.std.specs.Prelude.{◌≡◌, ◌⊎◌, IsTrue, Bool, List, ℕ, ◌≤◌, length, take, Option}
use Rattle.std.specs.Io.KnownBytes.{Appends, Consumes, IsAtEnd}
use Rattle.listing_text.specs.Listing.{listing}
use Rattle.listing_io.specs.declared.Listed.{Listed}

-- of the input, one byte more than the longest wiring file has, so that a longer one is told from it
abbrev pub most_input : ℕ
most_input = 8197

-- the length is that of the listing of at most so many bytes
abbrev pub ListsInput : (printed : ℕ) → Type 0
ListsInput v = (bs : List ℕ) × (length bs ≤ most_input) × (v ≡ length (listing bs))

-- of the bytes that a reader has left the first are taken, at most so many: all of them, or so many, unless a read fails
abbrev pub TakesInput : (left rest : Option (List ℕ)) → (is_read : Bool) → List ℕ → Type 0
TakesInput left rest is_read bs = (length bs ≤ most_input) × Consumes left rest bs × (IsTrue is_read → (length bs ≡ most_input) ⊎ IsAtEnd rest)

-- and their listing's length is said, and its first bytes are added to those that a writer holds, and how many is said
abbrev pub ListsBytes : (left rest held holds : Option (List ℕ)) → Listed → Type 0
ListsBytes left rest held holds r =
    (bs : List ℕ) × TakesInput left rest r.is_read bs × (r.length ≡ length (listing bs)) × (r.written ≤ r.length) × Appends held holds (take r.written (listing bs))

-- so it is of a listing of this length
abbrev pub PrintsBytes : (left rest held holds : Option (List ℕ)) → (printed : ℕ) → Type 0
PrintsBytes left rest held holds v = (r : Listed) × ListsBytes left rest held holds r × (v ≡ r.length)
