-- Words by their bytes: two of them added, the bytes of a word, and the bits of a byte spread over a word. Assumes nothing.
use mathlib.Core.Path.{◌≡◌, refl, sym, ap, ap₂, ◌∙◌}
use mathlib.Core.Bool.{Bool, true, false}
use mathlib.Core.List.{List}
use Prim.Native.Nat.{ℕ, zero, suc, ◌+◌, ◌*◌, ◌-◌, ◌/◌, ◌%◌, ◌^◌, ◌≤◌, ◌<◌}
use native.Mathlib.Nat.{div-div-eq-div-mul, pow-succ'}
use native.Mathlib.Numerals.{add-one}
use native.Mathlib.Omega.{arith}
use lib.ListN.{get_or}
use lib.Pow.{pow_mono}
use Rattle.rack.specs.Lists.{one}
use Rattle.rack.specs.Bits.{number_bit, bits_value}
use Rattle.rack.proofs.Bits.{bits_value_ext, bits_value_fits, lowest_bit, half_bit}
use Rattle.card_sets.specs.WordBytes.{bytes_value, spread}

-- BYTES OF A WORD
bytes_ext : (n : ℕ) (f g : ℕ → ℕ) → ((j : ℕ) → j < n → f j ≡ g j) → bytes_value n f ≡ bytes_value n g
unfolding bytes_value
bytes_ext zero f g h = refl
bytes_ext (suc n) f g h =
    ap₂ (λ (x y : ℕ). x + 256 * y) (h 0 (omega arith)) (bytes_ext n (λ j. f (suc j)) (λ j. g (suc j)) (λ j l. h (suc j) (omega arith)))

bytes_twice : (n : ℕ) (f g : ℕ → ℕ) → 2 * bytes_value n f + bytes_value n g ≡ bytes_value n (λ j. g j + 2 * f j)
unfolding bytes_value
bytes_twice zero f g = refl
bytes_twice (suc n) f g = omega (arith, bytes_twice n (λ j. f (suc j)) (λ j. g (suc j)))

bytes_fit : (n : ℕ) (f : ℕ → ℕ) → ((j : ℕ) → j < n → f j < 256) → bytes_value n f < 256 ^ n
unfolding bytes_value
bytes_fit zero f h = omega arith
bytes_fit (suc n) f h = omega (arith, pow-succ' 256 n, h 0 (omega arith), bytes_fit n (λ j. f (suc j)) (λ j l. h (suc j) (omega arith)))

pub byte_at : (n : ℕ) (f : ℕ → ℕ) → ((j : ℕ) → j < n → f j < 256) → (j : ℕ) → j < n → bytes_value n f / 256 ^ j % 256 ≡ f j
unfolding bytes_value
byte_at zero f h j l = absurd (omega arith)
byte_at (suc n) f h zero l = omega (arith, h 0 (omega arith))
byte_at (suc n) f h (suc j) l =
    let e : 256 ^ suc j ≡ 256 * 256 ^ j = omega (arith, pow-succ' 256 j) in
    let x = bytes_value n (λ j. f (suc j)) in
    let q : (f 0 + 256 * x) / 256 ≡ x = omega (arith, h 0 (omega arith)) in
    rw (e, ← (div-div-eq-div-mul (f 0 + 256 * x) 256 (256 ^ j)), q) (byte_at n (λ j. f (suc j)) (λ j l. h (suc j) (omega arith)) j (omega arith))

-- a last byte that is zero
bytes_top : (n : ℕ) (f : ℕ → ℕ) → f n ≡ 0 → bytes_value (suc n) f ≡ bytes_value n f
unfolding bytes_value
bytes_top zero f h = omega (arith, h)
bytes_top (suc n) f h = ap (λ (x : ℕ). f 0 + 256 * x) (bytes_top n (λ j. f (suc j)) h)

-- THE BITS OF A BYTE, spread: those of its half, one byte higher, and its lowest
bytes_lowest : (n : ℕ) (f : ℕ → ℕ) → bytes_value (suc n) f ≡ f 0 + 256 * bytes_value n (λ j. f (suc j))
unfolding bytes_value
bytes_lowest n f = refl

half_top : (x : ℕ) → x < 256 → one (number_bit (x / 2) 7) ≡ 0
unfolding number_bit
half_top x small = let e : x / 2 / 2 ^ 7 ≡ 0 = omega arith in rw e refl

pub spread_none : 0 ≡ spread 0
unfolding spread bytes_value number_bit
spread_none = refl

pub spread_half : (x : ℕ) → x < 256 → 256 * spread (x / 2) + x % 2 ≡ spread x
unfolding spread
spread_half x small =
    omega (
      arith,
      bytes_top 7 (λ j. one (number_bit (x / 2) j)) (half_top x small),
      bytes_ext 7 (λ j. one (number_bit (x / 2) j)) (λ j. one (number_bit x (suc j))) (λ j l. ap one (sym (half_bit x j))),
      bytes_lowest 7 (λ j. one (number_bit x j)),
      lowest_bit x,
    )

one_small : (b : Bool) → one b < 256
one_small true = omega arith
one_small false = omega arith

pub spread_fits : (x : ℕ) → spread x < 2 ^ 64
unfolding spread
spread_fits x = bytes_fit 8 (λ j. one (number_bit x j)) (λ j l. one_small (number_bit x j))

-- EIGHT CARDS and one more below them
module _ (ps : List ℕ) (at size : ℕ) where
  -- the bits in column j of the cards from one on
  abbrev column : (j from i : ℕ) → Bool
  column j from i = number_bit (get_or ps (at + (from + i) * size) 0) j

  abbrev pub cards_value : (from count : ℕ) → ℕ
  cards_value from count = bytes_value 8 (λ j. bits_value count (column j from))

  pub cards_fit : (from count : ℕ) → count < 9 → cards_value from count < 2 ^ 64
  cards_fit from count h =
      bytes_fit 8 _ (λ j l. omega (arith, bits_value_fits count (column j from), pow_mono {i = count} {j = 8} (omega arith)))

  bit_below : (j from count : ℕ) → one (number_bit (get_or ps (at + from * size) 0) j) + 2 * bits_value count (column j (from + 1)) ≡ bits_value (count + 1) (column j from)
  unfolding bits_value
  bit_below j from count =
      rw (add-one count)
      (ap₂ (λ (b : Bool) (x : ℕ). one b + 2 * x) (ap (λ (y : ℕ). number_bit (get_or ps (at + y * size) 0) j) (omega arith))
      (bits_value_ext count (column j (from + 1)) (λ i. column j from (suc i)) (λ i h. ap (λ (y : ℕ). number_bit (get_or ps (at + y * size) 0) j) (omega arith))))

  card_below : (from count : ℕ) → 2 * cards_value (from + 1) count + spread (get_or ps (at + from * size) 0) ≡ cards_value from (count + 1)
  unfolding spread
  card_below from count =
      bytes_twice 8 (λ j. bits_value count (column j (from + 1))) (λ j. one (number_bit (get_or ps (at + from * size) 0) j))
      ∙ bytes_ext 8 _ (λ j. bits_value (count + 1) (column j from)) (λ j l. bit_below j from count)

  -- as the code counts, from card i down to the one before it
  pub card_next : (count i word v : ℕ) → 0 < i → i ≤ count → word ≡ cards_value i (count - i) → v ≡ spread (get_or ps (at + (i - 1) * size) 0)
      → 2 * word + v ≡ cards_value (i - 1) (count - (i - 1))
  card_next count i word v some le e f =
      let up : i ≡ (i - 1) + 1 = omega arith in
      let more : count - (i - 1) ≡ (count - i) + 1 = omega arith in
      ap₂ (λ (x y : ℕ). 2 * x + y) (e ∙ ap (λ (x : ℕ). cards_value x (count - i)) up) f ∙ card_below (i - 1) (count - i)
      ∙ ap (cards_value (i - 1)) (sym more)

  pub cards_none : (count : ℕ) → 0 ≡ cards_value count (count - count)
  unfolding bits_value bytes_value
  cards_none count = let e : count - count ≡ 0 = omega arith in rw e refl

  pub cards_all : (count : ℕ) → cards_value 0 (count - 0) ≡ bytes_value 8 (λ j. bits_value count (λ i. number_bit (get_or ps (at + i * size) 0) j))
  cards_all count =
      let e : count - 0 ≡ count = omega arith in
      ap (cards_value 0) e
      ∙ bytes_ext 8 _ _ (λ j l. bits_value_ext count (column j 0) (λ i. number_bit (get_or ps (at + i * size) 0) j)
      (λ i h. ap (λ (y : ℕ). number_bit (get_or ps (at + y * size) 0) j) (omega arith)))
