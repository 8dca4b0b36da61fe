-- Numbers by their bits. Assumes nothing: these are definitions.
use Rattle.std.specs.Prelude.{Bool, ℕ, zero, suc, ◌+◌, ◌*◌, ◌/◌, ◌%◌, ◌^◌, eqb}
use Rattle.rack.specs.Lists.{one}

-- bit i of x, bit 0 counting 1
unfoldable pub number_bit : (x i : ℕ) → Bool
number_bit x i = eqb (x / 2 ^ i % 2) 1

-- bit j of a row of bytes: bit j mod 8 of byte j / 8
abbrev pub bits_of : (bytes : ℕ → ℕ) → (j : ℕ) → Bool
bits_of bytes j = number_bit (bytes (j / 8)) (j % 8)

-- the number with bits f 0 to f (n - 1)
unfoldable pub bits_value : (n : ℕ) → (f : ℕ → Bool) → ℕ
bits_value zero f = 0
bits_value (suc n) f = one (f 0) + 2 * bits_value n (λ i. f (suc i))
