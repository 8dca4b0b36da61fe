-- Numbers and their bits: the bits of a value and of its parts; one bit more, and its weight; the bytes of a word. Assumes nothing.
use mathlib.Core.Path.{◌≡◌, refl, sym, ap, ap₂, ◌∙◌}
use mathlib.Core.Bool.{Bool, true, false}
use mathlib.Core.Logic.{◌≢◌}
use Prim.Native.Nat.{ℕ, zero, suc, ◌+◌, ◌*◌, ◌-◌, ◌/◌, ◌%◌, ◌^◌, ◌≤◌, ◌<◌}
use Rattle.std.specs.Int.{w64, to_le_bytes}
use native.Mathlib.Nat.{div-div-eq-div-mul, mul-one, mul_left_comm, pow-succ'}
use native.Mathlib.Omega.{arith}
use lib.Dec.{eqb}
use lib.ListN.{get_or}
use lib.Pow.{field, mod-mod-pow, mod-pow-add, pow-add, pow_pos, shl_exact, shr-shr}
use Rattle.rack.specs.Lists.{one}
use Rattle.rack.specs.Bits.{number_bit, bits_value}

-- A NUMBER by its bits
bits_value_bit : (n : ℕ) (f : ℕ → Bool) (i : ℕ) → i < n → bits_value n f / 2 ^ i % 2 ≡ one (f i)
unfolding bits_value
bits_value_bit zero f i h = absurd (omega arith)
bits_value_bit (suc n) f zero h = low (f 0)
  where
    low : (b : Bool) → (one b + 2 * bits_value n (λ i. f (suc i))) / 2 ^ 0 % 2 ≡ one b
    low true = omega arith
    low false = omega arith
bits_value_bit (suc n) f (suc i) h =
    let e : 2 ^ suc i ≡ 2 * 2 ^ i = omega arith in
    rw (e, ← (div-div-eq-div-mul (one (f 0) + 2 * bits_value n (λ i. f (suc i))) 2 (2 ^ i)), half (f 0)) (bits_value_bit n (λ i. f (suc i)) i (omega arith))
  where
    half : (b : Bool) → (one b + 2 * bits_value n (λ i. f (suc i))) / 2 ≡ bits_value n (λ i. f (suc i))
    half true = omega arith
    half false = omega arith

one_bit : (b : Bool) → eqb (one b) 1 ≡ b
one_bit true = refl
one_bit false = refl

pub bits_value_number : (n : ℕ) (f : ℕ → Bool) (i : ℕ) → i < n → number_bit (bits_value n f) i ≡ f i
unfolding number_bit
bits_value_number n f i h = ap (λ (x : ℕ). eqb x 1) (bits_value_bit n f i h) ∙ one_bit (f i)

-- THE BITS of a number's parts
pub number_bit_high : (z k i : ℕ) → number_bit (z / 2 ^ k) i ≡ number_bit z (k + i)
unfolding number_bit
number_bit_high z k i = ap (λ (x : ℕ). eqb (x % 2) 1) (shr-shr z k i)

pub number_bit_low : (z k i : ℕ) → i < k → number_bit (z % 2 ^ k) i ≡ number_bit z i
unfolding number_bit
number_bit_low z k i h =
    let e : k ≡ ((k - suc i) + 1) + i = omega arith in
    ap (λ (x : ℕ). eqb (x % 2) 1) (ap (λ (m : ℕ). z % 2 ^ m / 2 ^ i) e ∙ field z ((k - suc i) + 1) i)
    ∙ ap (λ (x : ℕ). eqb x 1) (mod-mod-pow (z / 2 ^ i) (k - suc i) 1)

-- A BIT'S WEIGHT as a byte's shift gives it, and a word's
pub bit_weight : (k : ℕ) → k < 8 → 1 * 2 ^ k % 256 ≡ 2 ^ k
bit_weight k h = shl_exact {a = 1} 1 k 8 (omega arith) (omega arith) ∙ omega arith

pub word_weight : (k : ℕ) → k < 64 → 1 * 2 ^ k % 2 ^ 64 ≡ 2 ^ k
word_weight k h = shl_exact {a = 1} 1 k 64 (omega arith) (omega arith) ∙ omega arith

-- NUMBERS whose bits agree, but for one, and numbers of few bits
pub bits_value_ext : (n : ℕ) (f g : ℕ → Bool) → ((i : ℕ) → i < n → f i ≡ g i) → bits_value n f ≡ bits_value n g
unfolding bits_value
bits_value_ext zero f g h = refl
bits_value_ext (suc n) f g h =
    ap₂ (λ (b : Bool) (x : ℕ). one b + 2 * x) (h 0 (omega arith)) (bits_value_ext n (λ i. f (suc i)) (λ i. g (suc i)) (λ i l. h (suc i) (omega arith)))

-- twice a bit at place i is that bit at the next place
doubled : (b i : ℕ) → 2 * (b * 2 ^ i) ≡ b * 2 ^ suc i
doubled b i = mul_left_comm 2 b (2 ^ i) ∙ ap (λ (x : ℕ). b * x) (sym (pow-succ' 2 i))

pub bits_value_more : (n : ℕ) (f g : ℕ → Bool) (i : ℕ) → i < n → f i ≡ false → ((j : ℕ) → j < n → i ≢ j → f j ≡ g j)
    → bits_value n g ≡ bits_value n f + one (g i) * 2 ^ i
unfolding bits_value
bits_value_more zero f g i l h e = absurd (omega arith)
bits_value_more (suc n) f g zero l h e =
    rw h (omega (arith, mul-one (one (g 0)), bits_value_ext n (λ i. f (suc i)) (λ i. g (suc i)) (λ j m. e (suc j) (omega arith) (λ z. omega arith))))
bits_value_more (suc n) f g (suc i) l h e =
    rw (e 0 (omega arith) (λ z. omega arith))
    (omega (
      arith,
      doubled (one (g (suc i))) i,
      bits_value_more n (λ i. f (suc i)) (λ i. g (suc i)) i (omega arith) h
          (λ j m u. e (suc j) (omega arith) (λ z. u (omega arith))),
    ))

one_le : (b : Bool) → one b ≤ 1
one_le true = omega arith
one_le false = omega arith

pub bits_value_few : (n : ℕ) (f : ℕ → Bool) (i : ℕ) → ((j : ℕ) → i ≤ j → f j ≡ false) → bits_value n f < 2 ^ i
unfolding bits_value
bits_value_few zero f i h = pow_pos i
bits_value_few (suc n) f zero h = rw (h 0 (omega arith)) (omega (arith, bits_value_few n (λ i. f (suc i)) 0 (λ j l. h (suc j) (omega arith))))
bits_value_few (suc n) f (suc i) h = omega (arith, one_le (f 0), pow-succ' 2 i, bits_value_few n (λ i. f (suc i)) i (λ j l. h (suc j) (omega arith)))

-- a number is the value of its bits: its lowest, and those of its half
low_digit : (x : ℕ) → x < 2 → one (eqb x 1) ≡ x
low_digit zero h = refl
low_digit (suc zero) h = refl
low_digit (suc (suc x)) h = absurd (omega arith)

pub lowest_bit : (x : ℕ) → one (number_bit x 0) ≡ x % 2
unfolding number_bit
lowest_bit x = let e : x / 2 ^ 0 % 2 ≡ x % 2 = omega arith in low_digit (x / 2 ^ 0 % 2) (omega arith) ∙ e

pub half_bit : (x i : ℕ) → number_bit x (suc i) ≡ number_bit (x / 2) i
half_bit x i = let e : suc i ≡ 1 + i = omega arith in ap (number_bit x) e ∙ sym (number_bit_high x 1 i)

pub number_value : (n x : ℕ) → x < 2 ^ n → bits_value n (number_bit x) ≡ x
unfolding bits_value
number_value zero x h = omega arith
number_value (suc n) x h =
    let e : 2 ^ suc n ≡ 2 * 2 ^ n = omega arith in
    omega (
      arith,
      lowest_bit x,
      bits_value_ext n (λ i. number_bit x (suc i)) (number_bit (x / 2)) (λ i l. half_bit x i),
      number_value n (x / 2) (omega arith),
    )

pub bits_value_fits : (n : ℕ) (f : ℕ → Bool) → bits_value n f < 2 ^ n
unfolding bits_value
bits_value_fits zero f = omega arith
bits_value_fits (suc n) f = omega (arith, one_le (f 0), pow-succ' 2 n, bits_value_fits n (λ i. f (suc i)))

-- a part of a value is the value of that part of its bits
value_half : (b : Bool) (x : ℕ) → ((one b + 2 * x) / 2 ≡ x) × ((one b + 2 * x) % 2 ≡ one b)
value_half true x = (omega arith, omega arith)
value_half false x = (omega arith, omega arith)

bits_value_high : (a n : ℕ) (f : ℕ → Bool) → bits_value (a + n) f / 2 ^ a ≡ bits_value n (λ i. f (a + i))
unfolding bits_value
bits_value_high zero n f =
    let e : 0 + n ≡ n = omega arith in
    rw e (omega (arith, bits_value_ext n f (λ i. f (0 + i)) (λ i h. ap f (omega arith))))
bits_value_high (suc a) n f =
    let e : suc a + n ≡ suc (a + n) = omega arith in
    let p : 2 ^ suc a ≡ 2 * 2 ^ a = omega arith in
    rw (e, p, ← (div-div-eq-div-mul (one (f 0) + 2 * bits_value (a + n) (λ i. f (suc i))) 2 (2 ^ a)), (value_half (f 0) (bits_value (a + n) (λ i. f (suc i)))).0)
    (bits_value_high a n (λ i. f (suc i)) ∙ bits_value_ext n (λ i. f (suc (a + i))) (λ i. f (suc a + i)) (λ i h. ap f (omega arith)))

bits_value_low : (b r : ℕ) (f : ℕ → Bool) → bits_value (b + r) f % 2 ^ b ≡ bits_value b f
unfolding bits_value
bits_value_low zero r f = omega arith
bits_value_low (suc b) r f =
    let e : suc b + r ≡ suc (b + r) = omega arith in
    let p : suc b ≡ b + 1 = omega arith in
    let x = bits_value (b + r) (λ i. f (suc i)) in
    rw e (ap (λ (k : ℕ). (one (f 0) + 2 * x) % 2 ^ k) p ∙ mod-pow-add (one (f 0) + 2 * x) b 1
    ∙ rw ((value_half (f 0) x).0, (value_half (f 0) x).1) (omega (arith, bits_value_low b r (λ i. f (suc i)))))

pub bits_value_part : (a b r : ℕ) (f : ℕ → Bool) → bits_value (a + (b + r)) f / 2 ^ a % 2 ^ b ≡ bits_value b (λ i. f (a + i))
bits_value_part a b r f = ap (λ (x : ℕ). x % 2 ^ b) (bits_value_high a (b + r) f) ∙ bits_value_low b r (λ i. f (a + i))

-- THE BYTES of a word, lowest first
pub le_byte : (z i : ℕ) → i < 8 → get_or (to_le_bytes w64 z) i 0 ≡ z / 256 ^ i % 256
le_byte z zero h = omega arith
le_byte z (suc zero) h = refl
le_byte z (suc (suc zero)) h = refl
le_byte z (suc (suc (suc zero))) h = refl
le_byte z (suc (suc (suc (suc zero)))) h = refl
le_byte z (suc (suc (suc (suc (suc zero))))) h = refl
le_byte z (suc (suc (suc (suc (suc (suc zero)))))) h = refl
le_byte z (suc (suc (suc (suc (suc (suc (suc zero))))))) h = refl
le_byte z (suc (suc (suc (suc (suc (suc (suc (suc i)))))))) h = absurd (omega arith)

-- and its weight, by its bits
pub byte_weight : (i : ℕ) → 256 ^ i ≡ 2 ^ (8 * i)
byte_weight zero = refl
byte_weight (suc i) =
    let e : 8 * suc i ≡ 8 + 8 * i = omega arith in
    rw (e, pow-add 2 8 (8 * i), ← (byte_weight i)) (pow-succ' 256 i)
