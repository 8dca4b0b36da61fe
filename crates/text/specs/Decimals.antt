-- Decimal numbers as text, in the codes of their digits. Assumes nothing: these are definitions.
use Rattle.std.specs.Prelude.{cond, List, [], ◌∷◌, ◌++◌, ℕ, zero, suc, ◌+◌, ◌*◌, ◌-◌, ◌/◌, ◌%◌, ltb}

-- the code of a digit, 0 to 9
abbrev pub digit_code : ℕ → ℕ
digit_code d = 48 + d

-- at most `left` digits of v, the highest first
unfoldable pub digits : (left v : ℕ) → List ℕ
digits zero v = []
digits (suc left) v = cond (ltb v 10) (digit_code v ∷ []) (digits left (v / 10) ++ (digit_code (v % 10) ∷ []))

-- a number of 32 bits has at most ten digits
unfoldable pub decimal : (v : ℕ) → List ℕ
decimal v = digits 10 v

-- the number that digits behind a number give
unfoldable pub value_behind : (before : ℕ) → List ℕ → ℕ
value_behind v [] = v
value_behind v (x ∷ xs) = value_behind (10 * v + (x - digit_code 0)) xs

-- the number that digits say, the highest first
unfoldable pub value : List ℕ → ℕ
value xs = value_behind 0 xs
