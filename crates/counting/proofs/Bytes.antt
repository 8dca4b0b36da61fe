-- Differing places of rows of bytes: byte by byte, of the lowest bits of the last byte, and by the table. Assumes nothing.
use mathlib.Core.Path.{◌≡◌, refl, sym, ap, ap₂, ◌∙◌}
use mathlib.Core.Bool.{false}
use mathlib.Core.List.{List}
use Prim.Native.Nat.{ℕ, zero, suc, ◌+◌, ◌*◌, ◌/◌, ◌%◌, ◌^◌, ◌≤◌, ◌<◌}
use native.Mathlib.Nat.{zero-div, div-eq_of_lt, mod-le, mod-lt}
use native.Mathlib.Omega.{arith}
use lib.Bits.{bit_xor, xor_mod}
use lib.ListN.{get_or, length, take}
use lib.Pow.{pow_pos}
use lib.Seq.{get_or-take, length-take-le}
use Rattle.rack.specs.Lists.{sum, tabulate}
use Rattle.rack.specs.Bits.{bits_of, number_bit}
use Rattle.rack.specs.Columns.{hamming}
use Rattle.rack.specs.PlanFile.{bit_from}
use Rattle.rack.proofs.Bits.{number_bit_high, number_bit_low, bit_weight}
use Rattle.rack.proofs.Hamming.{hamming_none, hamming_add, hamming_ext, hamming_front}
use Rattle.rack.proofs.Sums.{sum_none, sum_suc}
use Rattle.counting.specs.Ones.{Counts}
use Rattle.counting.proofs.TableRule.{entry_places}

-- NUMBERS CUT to their lowest k bits have no bit past them, and differ where the numbers differ in these
cut_bit : (z k i : ℕ) → number_bit (z % 2 ^ k) (k + i) ≡ false
unfolding number_bit
cut_bit z k i =
    let e : z % 2 ^ k / 2 ^ k ≡ 0 = div-eq_of_lt (mod-lt z (pow_pos k)) in
    let f : 0 / 2 ^ i ≡ 0 = zero-div (2 ^ i) in
    sym (number_bit_high (z % 2 ^ k) k i) ∙ rw (e, f) refl

hamming_cut : (x y k l : ℕ) → k ≤ l → hamming l (number_bit (x % 2 ^ k)) (number_bit (y % 2 ^ k)) ≡ hamming k (number_bit x) (number_bit y)
hamming_cut x y k l h =
    let u = number_bit (x % 2 ^ k) in
    let v = number_bit (y % 2 ^ k) in
    hamming_front k l u v h (λ j. cut_bit x k j ∙ sym (cut_bit y k j))
    ∙ hamming_ext k u v (number_bit x) (number_bit y) (number_bit_low x k) (number_bit_low y k)

pub hamming_low_bits : (x y k : ℕ) → k < 8
    → hamming 8 (number_bit (x % (1 * 2 ^ k % 256))) (number_bit (y % (1 * 2 ^ k % 256))) ≡ hamming k (number_bit x) (number_bit y)
hamming_low_bits x y k h = rw (bit_weight k h) (hamming_cut x y k 8 (omega arith))

-- ROWS OF BYTES: bit i of byte t, and the differing places of t bytes and k bits more
bit_of_byte : (x : ℕ → ℕ) (t i : ℕ) → i < 8 → bits_of x (8 * t + i) ≡ number_bit (x t) i
bit_of_byte x t i h =
    let e : (8 * t + i) / 8 ≡ t = omega arith in
    let f : (8 * t + i) % 8 ≡ i = omega arith in
    rw (e, f) refl

hamming_bytes : (x y : ℕ → ℕ) (t k : ℕ) → k ≤ 8
    → hamming (8 * t + k) (bits_of x) (bits_of y) ≡ hamming (8 * t) (bits_of x) (bits_of y) + hamming k (number_bit (x t)) (number_bit (y t))
hamming_bytes x y t k h =
    hamming_add (8 * t) k (bits_of x) (bits_of y)
    ∙ ap (λ (z : ℕ). hamming (8 * t) (bits_of x) (bits_of y) + z)
    (hamming_ext k (λ i. bits_of x (8 * t + i)) (λ i. bits_of y (8 * t + i)) (number_bit (x t)) (number_bit (y t))
    (λ i l. bit_of_byte x t i (omega arith)) (λ i l. bit_of_byte y t i (omega arith)))

-- the same of bytes from two places on, and of the whole bytes and the bits that are left of k
module _ (xs ys : List ℕ) (p q : ℕ) where
  pub hamming_from : (t k : ℕ) → k ≤ 8 → hamming (8 * t + k) (bit_from xs p) (bit_from ys q)
      ≡ hamming (8 * t) (bit_from xs p) (bit_from ys q) + hamming k (number_bit (get_or xs (p + t) 0)) (number_bit (get_or ys (q + t) 0))
  unfolding bit_from
  hamming_from t k h = hamming_bytes (λ t. get_or xs (p + t) 0) (λ t. get_or ys (q + t) 0) t k h

  pub hamming_parts : (k : ℕ) → hamming k (bit_from xs p) (bit_from ys q) ≡ hamming (8 * (k / 8)) (bit_from xs p) (bit_from ys q)
      + hamming (k % 8) (number_bit (get_or xs (p + k / 8) 0)) (number_bit (get_or ys (q + k / 8) 0))
  hamming_parts k =
      let e : k ≡ 8 * (k / 8) + k % 8 = omega arith in
      ap (λ (j : ℕ). hamming j (bit_from xs p) (bit_from ys q)) e ∙ hamming_from (k / 8) (k % 8) (omega arith)

-- one byte more in a row, as the code adds it
pub byte_more : (xs ys : List ℕ) (t sum x y more : ℕ) → sum ≡ hamming (8 * t) (bit_from xs 0) (bit_from ys 0) → x ≡ get_or xs t 0 → y ≡ get_or ys t 0
    → more ≡ hamming 8 (number_bit x) (number_bit y) → sum + more ≡ hamming (8 * (t + 1)) (bit_from xs 0) (bit_from ys 0)
byte_more xs ys t sum x y more e f g h =
    let n : 8 * (t + 1) ≡ 8 * t + 8 = omega arith in
    let here : 0 + t ≡ t = omega arith in
    rw n (rw (e, h, f, g) (sym (rw here at (hamming_from xs ys 0 0 t 8 (omega arith)))))

-- the first t bytes of two rows, cut there
cut_row : (xs : List ℕ) (t j : ℕ) → j < 8 * t → bit_from (take t xs) 0 j ≡ bit_from xs 0 j
unfolding bit_from
cut_row xs t j h = ap (λ (x : ℕ). number_bit x (j % 8)) (get_or-take t xs (0 + j / 8) 0 (omega arith))

pub whole_bytes : (xs ys : List ℕ) (t : ℕ) → t ≤ length xs
    → hamming (8 * length (take t xs)) (bit_from (take t xs) 0) (bit_from (take t ys) 0) ≡ hamming (8 * t) (bit_from xs 0) (bit_from ys 0)
whole_bytes xs ys t h =
    ap (λ (n : ℕ). hamming (8 * n) (bit_from (take t xs) 0) (bit_from (take t ys) 0)) (length-take-le t xs h)
    ∙ hamming_ext (8 * t) _ _ _ _ (cut_row xs t) (cut_row ys t)

-- BY THE TABLE
module _ (table : List ℕ) (c : Counts table) where
  pub hamming_table : (n : ℕ) (x y : ℕ → ℕ) → ((t : ℕ) → t < n → (x t < 256) × (y t < 256))
      → hamming (8 * n) (bits_of x) (bits_of y) ≡ sum (tabulate n (λ t. get_or table (bit_xor (x t) (y t)) 0))
  hamming_table zero x y h = hamming_none (bits_of x) (bits_of y) ∙ sym (sum_none (λ t. get_or table (bit_xor (x t) (y t)) 0))
  hamming_table (suc n) x y h =
      let e : 8 * suc n ≡ 8 * n + 8 = omega arith in
      ap (λ (k : ℕ). hamming k (bits_of x) (bits_of y)) e ∙ hamming_bytes x y n 8 (omega arith)
      ∙ ap₂ ◌+◌ (hamming_table n x y (λ t l. h t (omega arith))) (sym (entry_places table c (x n) (y n) (h n (omega arith)).0 (h n (omega arith)).1))
      ∙ sym (sum_suc n (λ t. get_or table (bit_xor (x t) (y t)) 0))

  -- the entry at the lowest bits of the exclusive or
  pub low_entry : (x y k : ℕ) → x < 256 → y < 256 → k ≤ 8 → get_or table (bit_xor x y % 2 ^ k) 0 ≡ hamming k (number_bit x) (number_bit y)
  low_entry x y k hx hy h =
      ap (λ (z : ℕ). get_or table z 0) (xor_mod x y k)
      ∙ entry_places table c (x % 2 ^ k) (y % 2 ^ k) (omega (arith, mod-le x (2 ^ k))) (omega (arith, mod-le y (2 ^ k)))
      ∙ hamming_cut x y k 8 h
