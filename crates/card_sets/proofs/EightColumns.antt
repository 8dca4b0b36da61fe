-- What the loops leave in the words of the columns: eight cards of eight columns at a time, and eight columns after the other. Assumes nothing.
use mathlib.Core.Path.{◌≡◌, refl, sym, ap, ap₂, ◌∙◌}
use mathlib.Core.Bool.{Bool}
use mathlib.Core.Logic.{◌≢◌}
use mathlib.Core.List.{List}
use Prim.Native.Nat.{ℕ, ◌+◌, ◌*◌, ◌-◌, ◌/◌, ◌%◌, ◌^◌, ◌≤◌, ◌<◌, min}
use native.Mathlib.Nat.{add-mul, mul-le-mul}
use native.Mathlib.Omega.{arith}
use lib.ListN.{length, get_or, replicate}
use lib.Pow.{pow_mono}
use Rattle.rack.specs.Limits.{lent_plan, lent_words}
use Rattle.rack.specs.Bits.{number_bit, bits_value}
use Rattle.rack.specs.PlanFile.{Sized, plan_bit, address_size, addresses_start, address_start}
use Rattle.rack.proofs.Logic.{by_eq}
use Rattle.rack.proofs.Bits.{bits_value_fits}
use Rattle.rack.proofs.PlanFile.{address_counted, address_size_is}
use Rattle.rack.proofs.Zeros.{zeros_long, zeros_at}
use Rattle.plan_tests.proofs.Places.{byte_bit}
use Rattle.card_sets.specs.Sets.{set_word, ColumnWords}
use Rattle.card_sets.specs.WordBytes.{bytes_value, BytesPut, EightWritten}
use Rattle.card_sets.proofs.WordBytes.{byte_at}
use Rattle.card_sets.proofs.ColumnWords.{eight_bits, counted_bits, high_word, high_none, high_all, high_small, high_next}

-- EIGHT CARDS in the bytes of a plan
module _ (ps : List ℕ) (n m k : ℕ) (z : Sized ps n m k) where
  pub plan_fits : length ps ≤ lent_plan
  plan_fits =
      let short : address_size k ≤ 32 = omega (arith, address_size_is k, z.few_columns) in
      let small : n * address_size k ≤ 256 * 32 = mul-le-mul z.few short in
      omega (arith, z.long, z.few_links)

  module _ (first count start size b : ℕ) (eights : count ≡ min 8 (n - first)) (long : size ≡ address_size k)
      (begins : start ≡ addresses_start m + first * size) where
    later_start : (i : ℕ) → start + i * size ≡ addresses_start m + (first + i) * size
    later_start i = omega (arith, add-mul first i size)

    pub card_inside : b < address_size k → (i : ℕ) → i < count → start + b + i * size < length ps
    card_inside l i h =
        let at = address_counted ps n m k z (first + i) (start + i * size) (omega arith) (later_start i ∙ ap (λ (x : ℕ). addresses_start m + (first + i) * x) long) in
        omega (arith, at.1, long)

    abbrev bit : (j i : ℕ) → Bool
    bit j i = number_bit (get_or ps (start + b + i * size) 0) j

    place : (i : ℕ) → start + i * size ≡ address_start ps (first + i)
    place i = later_start i ∙ rw (long, z.links, z.columns) refl

    column_bit : (j i : ℕ) → j < 8 → bit j i ≡ plan_bit ps (first + i) (8 * b + j)
    column_bit j i l =
        let e : start + b + i * size ≡ start + i * size + b = omega arith in
        ap (λ (x : ℕ). number_bit (get_or ps x 0) j) e ∙ sym (byte_bit ps (first + i) (start + i * size) b j (place i) l)

    pub column_byte : (word : ℕ) → word ≡ bytes_value 8 (λ j. bits_value count (bit j)) → (j : ℕ) → j < 8
        → word / 256 ^ j % 256 ≡ eight_bits n (λ c. plan_bit ps c (8 * b + j)) first
    column_byte word e j l =
        ap (λ (x : ℕ). x / 256 ^ j % 256) e
        ∙ byte_at 8 (λ j. bits_value count (bit j))
        (λ i h. omega (arith, bits_value_fits count (bit i), pow_mono {i = count} {j = 8} (omega arith))) j l
        ∙ counted_bits n (λ c. plan_bit ps c (8 * b + j)) first count (bit j) eights (λ i. column_bit j i l)

-- WORD t of eight columns, from the eight cards with number u on
pub record EightFrom (n : ℕ) (rows : ℕ → ℕ → Bool) (b t : ℕ) (old new : List ℕ) (u : ℕ) : Type 0 where
  pub long : length new ≡ length old
  pub is : (j : ℕ) → j < 8 → get_or new (32 * b + t + 4 * j) 0 ≡ high_word n (λ c. rows c (8 * b + j)) t u
  pub others : (x : ℕ) → ((j : ℕ) → j < 8 → x ≢ 32 * b + t + 4 * j) → get_or new x 0 ≡ get_or old x 0

module _ (n : ℕ) (r : ℕ → ℕ → Bool) (b t : ℕ) (old : List ℕ) where
  pub eight_none : ((j : ℕ) → j < 8 → get_or old (32 * b + t + 4 * j) 0 ≡ 0) → EightFrom n r b t old old 8
  eight_none zero = record { long = refl; is = λ j l. zero j l ∙ high_none n (λ c. r c (8 * b + j)) t; others = λ x h. refl }

  module _ (mid : List ℕ) (u : ℕ) (some : 0 < u) (done : EightFrom n r b t old mid u) where
    pub eight_room : (j : ℕ) → j < 8 → get_or mid (32 * b + t + 4 * j) 0 < 2 ^ 56
    eight_room j l = omega (arith, done.is j l, high_small n (λ c. r c (8 * b + j)) t u some)

    pub eight_next : (word : ℕ) (new : List ℕ) → u ≤ 8
        → ((j : ℕ) → j < 8 → word / 256 ^ j % 256 ≡ eight_bits n (λ c. r c (8 * b + j)) (64 * t + 8 * (u - 1)))
        → BytesPut word (32 * b + t) mid new 8 → EightFrom n r b t old new (u - 1)
    eight_next word new le bytes put =
        record {
          long = put.long ∙ done.long;
          is = λ j l. put.is j l ∙ ap₂ (λ (x y : ℕ). x + 256 * y) (bytes j l) (done.is j l) ∙ high_next n (λ c. r c (8 * b + j)) t u some le;
          others = λ x h. put.others x h ∙ done.others x h;
        }

  pub eight_all : (new : List ℕ) → EightFrom n r b t old new 0 → EightWritten n r b t old new
  eight_all new done = record { long = done.long; is = λ j l. done.is j l ∙ high_all n (λ c. r c (8 * b + j)) t; others = done.others }

-- EIGHT COLUMNS AFTER THE OTHER: the first `upto` words are written, four for each eight columns, and the rest are zero
pub record ColumnsWritten (n : ℕ) (rows : ℕ → ℕ → Bool) (ws : List ℕ) (upto : ℕ) : Type 0 where
  pub long : length ws ≡ lent_words
  pub is : (j t : ℕ) → t < 4 → 4 * (j / 8) + t < upto → get_or ws (4 * j + t) 0 ≡ set_word n (λ c. rows c j) t
  pub rest : (j t : ℕ) → t < 4 → upto ≤ 4 * (j / 8) + t → get_or ws (4 * j + t) 0 ≡ 0

module _ (n : ℕ) (r : ℕ → ℕ → Bool) where
  pub columns_none : ColumnsWritten n r (replicate lent_words 0) 0
  columns_none =
      record { long = zeros_long lent_words _ refl; is = λ j t l h. absurd (omega arith); rest = λ j t l h. zeros_at lent_words _ refl (4 * j + t) }

  module _ (old : List ℕ) (v : ℕ) (done : ColumnsWritten n r old v) where
    pub next_zero : (j : ℕ) → j < 8 → get_or old (32 * (v / 4) + v % 4 + 4 * j) 0 ≡ 0
    next_zero j l =
        let e : 32 * (v / 4) + v % 4 + 4 * j ≡ 4 * (8 * (v / 4) + j) + v % 4 = omega arith in
        rw e (done.rest (8 * (v / 4) + j) (v % 4) (omega arith) (omega arith))

    pub columns_more : (new : List ℕ) → EightWritten n r (v / 4) (v % 4) old new → ColumnsWritten n r new (v + 1)
    columns_more new eight =
        record {
          long = eight.long ∙ done.long;
          is = λ j t l h. by_eq (4 * (j / 8) + t) v (here j t l) (λ d. elsewhere j t l d ∙ done.is j t l (omega arith));
          rest = λ j t l h. elsewhere j t l (λ e. omega arith) ∙ done.rest j t l (omega arith);
        }
      where
        here : (j t : ℕ) → t < 4 → 4 * (j / 8) + t ≡ v → get_or new (4 * j + t) 0 ≡ set_word n (λ c. r c j) t
        here j t l e =
            let place : 32 * (v / 4) + v % 4 + 4 * (j % 8) ≡ 4 * j + t = omega arith in
            let column : 8 * (v / 4) + j % 8 ≡ j = omega arith in
            let word : v % 4 ≡ t = omega arith in
            rw (place, column, word) at (eight.is (j % 8) (omega arith))

        elsewhere : (j t : ℕ) → t < 4 → 4 * (j / 8) + t ≢ v → get_or new (4 * j + t) 0 ≡ get_or old (4 * j + t) 0
        elsewhere j t l d = eight.others (4 * j + t) (λ i h e. d (omega arith))

  pub columns_all : (ws : List ℕ) (k size : ℕ) → size ≡ address_size k → ColumnsWritten n r ws (4 * size) → ColumnWords n k r ws
  columns_all ws k size e done =
      record { long = done.long; is = λ j t h l. done.is j t l (omega (arith, e, address_size_is k)) }
