-- Ones of a number, piece by piece, and of an exclusive or; the table's rule by one test of all entries. Assumes nothing.
use mathlib.Core.Path.{◌≡◌, refl, sym, ap, ◌∙◌}
use mathlib.Core.Bool.{Bool, true}
use mathlib.Core.List.{List}
use Prim.Native.Nat.{ℕ, zero, suc, ◌+◌, ◌*◌, ◌/◌, ◌%◌, ◌^◌, ◌≤◌, ◌<◌}
use Rattle.std.specs.Int.{w64, to_le_bytes}
use native.Mathlib.Omega.{arith}
use lib.Bits.{bit_xor, xor_lt, xor_mod, xor_shr}
use lib.Dec.{eqb}
use lib.ListN.{get_or}
use borrow.Author.Tests.{eqb-true, eq-eqb}
use Rattle.rack.specs.Lists.{differ, count, range}
use Rattle.rack.specs.Bits.{number_bit}
use Rattle.rack.specs.Columns.{hamming}
use Rattle.rack.proofs.Lists.{all_in, in_all, count_ext, count_le_length}
use Rattle.rack.proofs.Tables.{length_tabulate, in_range, range_in, count_range_add}
use Rattle.rack.proofs.Bits.{byte_weight, le_byte, number_bit_high, number_bit_low}
use Rattle.counting.specs.Ones.{ones_in, Counts, table_holds}

-- THE BITS of an exclusive or
xor_bit : (x y : ℕ) → x < 2 → y < 2 → eqb (bit_xor x y) 1 ≡ differ (eqb x 1) (eqb y 1)
xor_bit zero zero hx hy = refl
xor_bit zero (suc zero) hx hy = refl
xor_bit zero (suc (suc y)) hx hy = absurd (omega arith)
xor_bit (suc zero) zero hx hy = refl
xor_bit (suc zero) (suc zero) hx hy = refl
xor_bit (suc zero) (suc (suc y)) hx hy = absurd (omega arith)
xor_bit (suc (suc x)) y hx hy = absurd (omega arith)

number_bit_xor : (x y i : ℕ) → number_bit (bit_xor x y) i ≡ differ (number_bit x i) (number_bit y i)
unfolding number_bit
number_bit_xor x y i =
    ap (λ (z : ℕ). eqb (z % 2) 1) (xor_shr x y i) ∙ ap (λ (z : ℕ). eqb z 1) (xor_mod (x / 2 ^ i) (y / 2 ^ i) 1)
    ∙ xor_bit (x / 2 ^ i % 2) (y / 2 ^ i % 2) (omega arith) (omega arith)

-- DIFFERING PLACES are the ones of the xor
pub ones_xor : (n x y : ℕ) → ones_in n (bit_xor x y) ≡ hamming n (number_bit x) (number_bit y)
unfolding ones_in hamming
ones_xor n x y = count_ext (number_bit (bit_xor x y)) (λ i. differ (number_bit x i) (number_bit y i)) (range n) (λ i m. number_bit_xor x y i)

-- ONES of eight bits more: those of the lowest byte of what is left
pub ones_byte : (z n : ℕ) → ones_in (n + 8) z ≡ ones_in n z + ones_in 8 (z / 2 ^ n % 256)
unfolding ones_in
ones_byte z n =
    count_range_add (number_bit z) n 8
    ∙ ap (λ (x : ℕ). count (number_bit z) (range n) + x)
    (count_ext (λ i. number_bit z (n + i)) (number_bit (z / 2 ^ n % 256)) (range 8)
    (λ i m. sym (number_bit_low (z / 2 ^ n) 8 i (range_in 8 i m) ∙ number_bit_high z n i)))

-- and that byte, among the eight of a word
pub ones_le_byte : (z i : ℕ) → i < 8 → ones_in (8 * (i + 1)) z ≡ ones_in (8 * i) z + ones_in 8 (get_or (to_le_bytes w64 z) i 0)
ones_le_byte z i h =
    let e : 8 * (i + 1) ≡ 8 * i + 8 = omega arith in
    rw (e, le_byte z i h, byte_weight i) (ones_byte z (8 * i))

pub ones_none : (z : ℕ) → ones_in 0 z ≡ 0
unfolding ones_in
ones_none z = refl

pub ones_le : (n z : ℕ) → ones_in n z ≤ n
unfolding ones_in
ones_le n z = omega (arith, count_le_length (number_bit z) (range n), length_tabulate n (λ i. i))

-- THE TABLE'S RULE: what the one test of all entries says of each, and back
module _ (table : List ℕ) where
  abbrev entry_holds : ℕ → Bool
  entry_holds z = eqb (get_or table z 0) (ones_in 8 z)

  pub holds_counts : table_holds table ≡ true → Counts table
  unfolding table_holds
  holds_counts h = record { ones = λ z l. eqb-true (get_or table z 0) (ones_in 8 z) (all_in entry_holds (range 256) h z (in_range 256 z l)) }

  pub counts_holds : Counts table → table_holds table ≡ true
  unfolding table_holds
  counts_holds c = in_all entry_holds (range 256) (λ z i. eq-eqb (get_or table z 0) (ones_in 8 z) (c.ones z (range_in 256 z i)))

  -- the entry of two bytes' exclusive or is the places in which they differ
  pub entry_places : Counts table → (x y : ℕ) → x < 256 → y < 256 → get_or table (bit_xor x y) 0 ≡ hamming 8 (number_bit x) (number_bit y)
  entry_places c x y hx hy = c.ones (bit_xor x y) (xor_lt 8 x y hx hy) ∙ ones_xor 8 x y
