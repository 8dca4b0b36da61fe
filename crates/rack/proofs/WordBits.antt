-- Bits of words: of a sum by or, of a weight; a bit more in the words of a card. Assumes nothing.
use mathlib.Core.Path.{◌≡◌, refl, sym, ap, ◌∙◌}
use mathlib.Core.Bool.{Bool, true, false, ◌||◌}
use mathlib.Core.Logic.{◌≢◌}
use mathlib.Core.List.{List}
use Prim.Native.Nat.{ℕ, zero, suc, ◌+◌, ◌*◌, ◌/◌, ◌%◌, ◌^◌, ◌<◌}
use native.Mathlib.Nat.{one-mul, zero-div}
use native.Mathlib.Omega.{arith}
use lib.Bits.{bit_or}
use lib.Dec.{eqb}
use lib.ListN.{length, get_or, set, length-set}
use lib.Seq.{get_or-set_same, get_or-set_other}
use borrow.Author.Tests.{eq-eqb, ne_eqb}
use Rattle.std.proofs.lemmas.Nat.{or_mod, or_shr}
use Rattle.rack.specs.Limits.{lent_words, most_cards}
use Rattle.rack.specs.Bits.{number_bit, bits_value}
use Rattle.rack.specs.Words.{BitSet, word_bit}
use Rattle.rack.proofs.Logic.{by_eq}
use Rattle.rack.proofs.Bits.{bits_value_number, bits_value_more, number_value}

-- A BIT of 0, of two numbers joined by or, and of a weight
pub no_bit : (s : ℕ) → number_bit 0 s ≡ false
unfolding number_bit
no_bit s = rw (zero-div (2 ^ s)) refl

or_low : (x y : ℕ) → x < 2 → y < 2 → eqb (bit_or x y) 1 ≡ (eqb x 1 || eqb y 1)
or_low zero zero h g = refl
or_low zero (suc zero) h g = refl
or_low (suc zero) zero h g = refl
or_low (suc zero) (suc zero) h g = refl
or_low (suc (suc x)) y h g = absurd (omega arith)
or_low zero (suc (suc y)) h g = absurd (omega arith)
or_low (suc zero) (suc (suc y)) h g = absurd (omega arith)

pub or_bit : (x y j : ℕ) → number_bit (bit_or x y) j ≡ (number_bit x j || number_bit y j)
unfolding number_bit
or_bit x y j =
    let e : bit_or x y / 2 ^ j % 2 ≡ bit_or (x / 2 ^ j % 2) (y / 2 ^ j % 2) = ap (λ (z : ℕ). z % 2 ^ 1) (or_shr x y j) ∙ or_mod (x / 2 ^ j) (y / 2 ^ j) 1 in
    ap (λ (z : ℕ). eqb z 1) e ∙ or_low (x / 2 ^ j % 2) (y / 2 ^ j % 2) (omega arith) (omega arith)

weight_value : (s : ℕ) → s < 64 → 2 ^ s ≡ bits_value 64 (eqb s)
weight_value s h =
    sym (bits_value_more 64 (number_bit 0) (eqb s) s h (no_bit s) (λ j l n. no_bit j ∙ sym (ne_eqb s j n))
    ∙ rw (eq-eqb s s refl, one-mul (2 ^ s), number_value 64 0 (omega arith)) (omega arith))

pub weight_bit : (s j : ℕ) → s < 64 → j < 64 → number_bit (2 ^ s) j ≡ eqb s j
weight_bit s j h l = ap (λ (x : ℕ). number_bit x j) (weight_value s h) ∙ bits_value_number 64 (eqb s) j l

-- A BIT MORE in the words of a card
module _ (ws : List ℕ) (c j : ℕ) (long : length ws ≡ lent_words) (hc : c < most_cards) (hj : j < most_cards) where
  abbrev place : ℕ
  place = 4 * c + j / 64

  abbrev word : ℕ
  word = bit_or (get_or ws place 0) (2 ^ (j % 64))

  abbrev more : List ℕ
  more = set ws place word

  word_has : (i : ℕ) → i < 64 → number_bit word i ≡ (number_bit (get_or ws place 0) i || eqb (j % 64) i)
  word_has i h = or_bit (get_or ws place 0) (2 ^ (j % 64)) i ∙ ap (λ (b : Bool). number_bit (get_or ws place 0) i || b) (weight_bit (j % 64) i (omega arith) h)

  or_true : (b : Bool) → (b || true) ≡ true
  or_true true = refl
  or_true false = refl

  or_false : (b : Bool) → (b || false) ≡ b
  or_false true = refl
  or_false false = refl

  here : word_bit more c j ≡ true
  unfolding word_bit
  here =
      ap (λ (x : ℕ). number_bit x (j % 64)) (get_or-set_same ws place word 0 (omega (arith, long))) ∙ word_has (j % 64) (omega arith)
      ∙ rw (eq-eqb (j % 64) (j % 64) refl) (or_true (number_bit (get_or ws place 0) (j % 64)))

  elsewhere : (x y : ℕ) → y < most_cards → (x ≡ c → y ≢ j) → word_bit more x y ≡ word_bit ws x y
  unfolding word_bit
  elsewhere x y hy n = by_eq place (4 * x + y / 64) same_word other_word
    where
      same_word : place ≡ 4 * x + y / 64 → number_bit (get_or more (4 * x + y / 64) 0) (y % 64) ≡ number_bit (get_or ws (4 * x + y / 64) 0) (y % 64)
      same_word e =
          rw (← e)
          (ap (λ (z : ℕ). number_bit z (y % 64)) (get_or-set_same ws place word 0 (omega (arith, long))) ∙ word_has (y % 64) (omega arith)
          ∙ rw (ne_eqb (j % 64) (y % 64) (λ f. n (omega arith) (omega arith))) (or_false (number_bit (get_or ws place 0) (y % 64))))

      other_word : place ≢ 4 * x + y / 64 → number_bit (get_or more (4 * x + y / 64) 0) (y % 64) ≡ number_bit (get_or ws (4 * x + y / 64) 0) (y % 64)
      other_word d = ap (λ (z : ℕ). number_bit z (y % 64)) (get_or-set_other ws place (4 * x + y / 64) word 0 (λ e. d (sym e)))

  pub bit_more : BitSet c j ws more
  bit_more = record { long = length-set ws place word; is = here; others = elsewhere }
