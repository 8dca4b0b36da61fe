-- The words of the cards: their bits are those of the columns, and so are their differing places. Assumes nothing.
use mathlib.Core.Path.{◌≡◌, refl, sym, ap, ◌∙◌}
use mathlib.Core.Bool.{Bool, true, false}
use mathlib.Core.Logic.{◌≢◌}
use mathlib.Core.List.{List, [], ◌∷◌, ◌++◌}
use Prim.Native.Nat.{ℕ, ◌+◌, ◌*◌, ◌/◌, ◌%◌, ◌≤◌, ◌<◌}
use native.Mathlib.Omega.{arith}
use lib.ListN.{length, get_or, replicate, length-append, length-replicate, get_or-replicate, get_or-append, get_or-eq_default}
use lib.Seq.{get_or-append_seam}
use Rattle.rack.specs.Limits.{lent_words}
use Rattle.rack.specs.Lists.{differ, count, any, range}
use Rattle.rack.specs.Bits.{number_bit}
use Rattle.rack.specs.Wiring.{Link, Wiring}
use Rattle.rack.specs.Columns.{hamming}
use Rattle.rack.proofs.Logic.{true_not_false, not_true_false, by_bool, by_lt, differ_false}
use Rattle.rack.proofs.Lists.{any_in, in_any, count_none, none_count}
use Rattle.rack.proofs.Tables.{in_range}
use Rattle.rack.proofs.Bits.{bits_value_number, bits_value_few, bits_value_ext}
use Rattle.rack.proofs.Hamming.{hamming_none, hamming_ext, hamming_add, hamming_same, hamming_front}
use Rattle.rack.proofs.Columns.{hamming_count}
use Rattle.rack.specs.Words.{word_bit}
use Rattle.planner.specs.OpenColumns.{bit_in, separated, columns_opened, WordsOf, ColumnsOpened, SameWords, WordsUsed, part_hamming, words_hamming}

-- THE FOUR WORDS of two cards
part_bit : (ws : List ℕ) (c t i : ℕ) → i < 64 → word_bit ws c (64 * t + i) ≡ number_bit (get_or ws (4 * c + t) 0) i
unfolding word_bit
part_bit ws c t i h =
    let d : (64 * t + i) / 64 ≡ t = omega arith in
    let m : (64 * t + i) % 64 ≡ i = omega arith in
    rw (d, m)

hamming_part : (ws : List ℕ) (a b t : ℕ)
    → hamming (64 * t + 64) (word_bit ws a) (word_bit ws b) ≡ hamming (64 * t) (word_bit ws a) (word_bit ws b) + part_hamming ws a b t
hamming_part ws a b t =
    hamming_add (64 * t) 64 (word_bit ws a) (word_bit ws b)
    ∙ ap (λ (x : ℕ). hamming (64 * t) (word_bit ws a) (word_bit ws b) + x)
    (hamming_ext 64 (λ i. word_bit ws a (64 * t + i)) (λ i. word_bit ws b (64 * t + i)) (number_bit (get_or ws (4 * a + t) 0))
    (number_bit (get_or ws (4 * b + t) 0)) (part_bit ws a t) (part_bit ws b t))

pub words_hamming_parts : (ws : List ℕ) (a b : ℕ)
    → words_hamming ws a b ≡ part_hamming ws a b 0 + part_hamming ws a b 1 + part_hamming ws a b 2 + part_hamming ws a b 3
unfolding words_hamming
words_hamming_parts ws a b =
    omega (
      arith,
      hamming_none (word_bit ws a) (word_bit ws b),
      hamming_part ws a b 0,
      hamming_part ws a b 1,
      hamming_part ws a b 2,
      hamming_part ws a b 3,
    )

-- BITS IN COLUMNS: none past the last, and those of one column more
pub bit_past : (cs : List (List Bool)) (c j : ℕ) → length cs ≤ j → bit_in cs c j ≡ false
unfolding bit_in
bit_past cs c j h = ap (λ (x : List Bool). get_or x c false) (get_or-eq_default cs [] {n = j} h)

pub bit_new : (cs : List (List Bool)) (x : List Bool) (c : ℕ) → bit_in (cs ++ (x ∷ [])) c (length cs) ≡ get_or x c false
unfolding bit_in
bit_new cs x c = ap (λ (y : List Bool). get_or y c false) (get_or-append_seam cs x [] [])

pub bit_old : (cs : List (List Bool)) (x : List Bool) (c j : ℕ) → length cs ≢ j → bit_in cs c j ≡ bit_in (cs ++ (x ∷ [])) c j
unfolding bit_in
bit_old cs x c j n =
    by_lt j (length cs)
    (λ l. ap (λ (y : List Bool). get_or y c false) (sym (get_or-append cs (x ∷ []) [] j l)))
    (λ l. bit_past cs c j l ∙ sym (bit_past (cs ++ (x ∷ [])) c j (omega (arith, length-append cs (x ∷ [])))))

-- THE WORDS' BITS
pub word_bit_column : (cs : List (List Bool)) (n : ℕ) (ws : List ℕ) → WordsOf cs n ws → (c j : ℕ) → c < n → j < 256 → word_bit ws c j ≡ bit_in cs c j
unfolding word_bit
word_bit_column cs n ws s c j hc hj =
    let e : 64 * (j / 64) + j % 64 ≡ j = omega arith in
    ap (λ (x : ℕ). number_bit x (j % 64)) (s.is c (j / 64) hc (omega arith))
    ∙ bits_value_number 64 (λ i. bit_in cs c (64 * (j / 64) + i)) (j % 64) (omega arith)
    ∙ ap (bit_in cs c) e

pub words_hamming_columns : (cs : List (List Bool)) (n : ℕ) (ws : List ℕ) → WordsOf cs n ws → length cs ≤ 256 → (a b : ℕ) → a < n → b < n
    → words_hamming ws a b ≡ hamming (length cs) (bit_in cs a) (bit_in cs b)
unfolding words_hamming
words_hamming_columns cs n ws s few a b ha hb =
    hamming_ext 256 (word_bit ws a) (word_bit ws b) (bit_in cs a) (bit_in cs b) (λ j l. word_bit_column cs n ws s a j ha l) (λ j l. word_bit_column cs n ws s b j hb l)
    ∙ hamming_front (length cs) 256 (bit_in cs a) (bit_in cs b) few
    (λ j. bit_past cs a (length cs + j) (omega arith) ∙ sym (bit_past cs b (length cs + j) (omega arith)))

-- WORDS THAT ARE NOT USED: past the last column no card has a bit, and no place differs
words_used : (cs : List (List Bool)) (n : ℕ) (ws : List ℕ) (used : ℕ) → WordsOf cs n ws → length cs ≤ 64 * used → WordsUsed ws used
words_used cs n ws used s few =
    record {
      zero = λ c t h ht. by_lt c n
          (λ l. s.is c t l ht ∙ omega (arith, bits_value_few 64 (λ i. bit_in cs c (64 * t + i)) 0 (λ j m. bit_past cs c (64 * t + j) (omega arith))))
          (λ l. s.rest (4 * c + t) (omega arith));
    }

pub opened_used : (w : Wiring) (n i : ℕ) (ws : List ℕ) (k used : ℕ) → ColumnsOpened w n i ws k → k ≤ 64 * used → WordsUsed ws used
opened_used w n i ws k used o few = words_used (columns_opened w i) n ws used o.words (omega (arith, o.count))

pub unused_part : (ws : List ℕ) (used : ℕ) → WordsUsed ws used → (a b t : ℕ) → used ≤ t → t < 4 → part_hamming ws a b t ≡ 0
unused_part ws used u a b t h ht = rw (u.zero a t h ht, u.zero b t h ht) (hamming_same 64 (number_bit 0) (number_bit 0) (λ j l. refl))

-- A LINK's ends: no differing place, no column that separates them
abbrev pub separates : Link → List Bool → Bool
separates l c = differ (get_or c l.first false) (get_or c l.second false)

module _ (l : Link) (cs : List (List Bool)) where
  ends_count : hamming (length cs) (bit_in cs l.first) (bit_in cs l.second) ≡ count (separates l) cs
  unfolding bit_in
  ends_count = hamming_count cs l.first l.second

  separated_hamming : separated l cs ≡ true → hamming (length cs) (bit_in cs l.first) (bit_in cs l.second) ≢ 0
  unfolding separated
  separated_hamming h z =
      let r = any_in (separates l) cs h in
      true_not_false (separates l r.0) r.2 (count_none (separates l) cs (sym ends_count ∙ z) r.0 r.1)

  unseparated_hamming : separated l cs ≡ false → hamming (length cs) (bit_in cs l.first) (bit_in cs l.second) ≡ 0
  unfolding separated
  unseparated_hamming h =
      ends_count ∙ none_count (separates l) cs (λ v m. not_true_false (separates l v) (λ t. true_not_false (any (separates l) cs) (in_any (separates l) cs v m t) h))

-- EQUAL WORDS of a link's ends: no column separates them, and back
module _ (cs : List (List Bool)) (n : ℕ) (ws : List ℕ) (s : WordsOf cs n ws) (few : length cs ≤ 256) (l : Link) (first : l.first < n) (second : l.second < n) where
  same_hamming : SameWords ws l.first l.second → words_hamming ws l.first l.second ≡ 0
  unfolding words_hamming word_bit
  same_hamming e =
      hamming_same 256 (word_bit ws l.first) (word_bit ws l.second) (λ j h. ap (λ (x : ℕ). number_bit x (j % 64)) (e (j / 64) (omega arith)))

  pub same_unseparated : SameWords ws l.first l.second → separated l cs ≡ false
  same_unseparated e =
      not_true_false (separated l cs)
      (λ t. separated_hamming l cs t (sym (words_hamming_columns cs n ws s few l.first l.second first second) ∙ same_hamming e))

  ends_agree : separated l cs ≡ false → (j : ℕ) → bit_in cs l.first j ≡ bit_in cs l.second j
  unfolding hamming
  ends_agree t j =
      by_lt j (length cs)
      (λ h. differ_false (bit_in cs l.first j) (bit_in cs l.second j)
      (count_none (λ i. differ (bit_in cs l.first i) (bit_in cs l.second i)) (range (length cs)) (unseparated_hamming l cs t) j (in_range (length cs) j h)))
      (λ h. bit_past cs l.first j h ∙ sym (bit_past cs l.second j h))

  unseparated_same : separated l cs ≡ false → SameWords ws l.first l.second
  unseparated_same t u h =
      s.is l.first u first h
      ∙ bits_value_ext 64 (λ i. bit_in cs l.first (64 * u + i)) (λ i. bit_in cs l.second (64 * u + i)) (λ i g. ends_agree t (64 * u + i))
      ∙ sym (s.is l.second u second h)

  pub other_separated : (SameWords ws l.first l.second → ⊥) → separated l cs ≡ true
  other_separated z = by_bool (separated l cs) (λ t. t) (λ t. absurd (z (unseparated_same t)))

-- WORDS that are zero hold no columns
pub zero_words : (n : ℕ) (ws : List ℕ) → ws ≡ replicate lent_words 0 → WordsOf [] n ws
zero_words n ws e =
    record {
      long = ap length e ∙ length-replicate {A = ℕ} lent_words 0;
      is = λ c t hc ht. zero_at (4 * c + t) ∙ omega (arith, bits_value_few 64 (λ i. bit_in [] c (64 * t + i)) 0 (λ j l. bit_past [] c (64 * t + j) (omega arith)));
      rest = λ j h. zero_at j;
    }
  where
    zero_at : (j : ℕ) → get_or ws j 0 ≡ 0
    zero_at j =
        ap (λ (x : List ℕ). get_or x j 0) e
        ∙ by_lt j lent_words (λ l. get_or-replicate {A = ℕ} lent_words j 0 0 l)
        (λ l. get_or-eq_default (replicate {A = ℕ} lent_words 0) 0 {n = j} (omega (arith, length-replicate {A = ℕ} lent_words 0)))
