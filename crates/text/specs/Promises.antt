-- What is promised of decimal numbers. Each statement is proved in proofs/Promises.antt under its name.
use Rattle.std.specs.Prelude.{◌≡◌, ◌≢◌, ℕ, ◌^◌, ◌≤◌, ◌<◌, length, get_or}
use Rattle.text.specs.Decimals.{digit_code, decimal, value}

-- a number of at most ten digits, read back from its digits, is the number
unfoldable pub DecimalValue : Type 0
DecimalValue = (v : ℕ) → v < 10 ^ 10 → value (decimal v) ≡ v

-- it begins with a digit, which is not 0 unless the number is 0
unfoldable pub DecimalFirst : Type 0
DecimalFirst = (v : ℕ) → 0 < v → v < 10 ^ 10 → get_or (decimal v) 0 (digit_code 0) ≢ digit_code 0

-- it is made of digits
unfoldable pub DecimalDigits : Type 0
DecimalDigits = (v i : ℕ) → i < length (decimal v) → (digit_code 0 ≤ get_or (decimal v) i 0) × (get_or (decimal v) i 0 ≤ digit_code 9)
