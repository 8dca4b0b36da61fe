-- The lent buffers as whole lists: words that hold the addresses, bytes that hold the hops, and what is read back from them. Assumes nothing.
use mathlib.Core.Path.{◌≡◌, refl, sym, ap, ◌∙◌}
use mathlib.Core.Bool.{Bool, cond}
use mathlib.Core.List.{List, ◌++◌}
use Prim.Native.Nat.{ℕ, ◌+◌, ◌*◌, ◌-◌, ◌/◌, ◌%◌, ◌≤◌, ◌<◌}
use native.Mathlib.Nat.{suc-mul, mul-le-mul_right}
use native.Mathlib.Omega.{arith}
use lib.Dec.{ltb}
use lib.ListN.{length, get_or, replicate, length-append, length-replicate, get_or-replicate, get_or-append}
use lib.Seq.{ext_get_or, get_or-append-add}
use borrow.Author.Tests.{lt-ltb, le-ltb}
use Rattle.rack.specs.Limits.{most_cards}
use Rattle.rack.specs.Lists.{tabulate, blocks}
use Rattle.rack.specs.Bits.{number_bit, bits_value}
use Rattle.rack.specs.Wiring.{Wiring}
use Rattle.rack.specs.Hops.{hops}
use Rattle.rack.specs.Columns.{columns, address}
use Rattle.rack.proofs.Logic.{by_lt}
use Rattle.rack.proofs.Tables.{length_tabulate, get_or_tabulate, length_blocks, get_or_blocks}
use Rattle.rack.proofs.Bits.{bits_value_number}
use Rattle.survey.specs.Tables.{cell, HopsIn}
use Rattle.rack.specs.Words.{word_bit}
use Rattle.planner.specs.OpenColumns.{bit_in, WordsOf}
use Rattle.planner.specs.Planning.{card_words, all_words, all_hops}

-- a buffer that begins with a list and is zero behind it
pub zeros_behind : (xs ys : List ℕ) → length xs ≤ length ys → ((i : ℕ) → i < length xs → get_or ys i 0 ≡ get_or xs i 0)
    → ((i : ℕ) → length xs ≤ i → i < length ys → get_or ys i 0 ≡ 0) → ys ≡ xs ++ replicate (length ys - length xs) 0
zeros_behind xs ys h front back = ext_get_or 0 ys (xs ++ replicate (length ys - length xs) 0) long at
  where
    long : length ys ≡ length (xs ++ replicate (length ys - length xs) 0)
    long = omega (arith, length-append xs (replicate (length ys - length xs) 0), length-replicate {A = ℕ} (length ys - length xs) 0)

    at : (i : ℕ) → i < length ys → get_or ys i 0 ≡ get_or (xs ++ replicate (length ys - length xs) 0) i 0
    at i l =
        by_lt i (length xs)
        (λ k. front i k ∙ sym (get_or-append xs (replicate (length ys - length xs) 0) 0 i k))
        (λ k. let e : i ≡ length xs + (i - length xs) = omega arith in
        back i k l ∙ sym (ap (λ (j : ℕ). get_or (xs ++ replicate (length ys - length xs) 0) j 0) e
        ∙ get_or-append-add xs (replicate (length ys - length xs) 0) (i - length xs) 0 ∙ get_or-replicate (length ys - length xs) (i - length xs) 0 0 (omega arith)))

-- a place of a table of rows
inside_rows : (n b i j : ℕ) → i < n → j < b → i * b + j < n * b
inside_rows n b i j hi hj = omega (arith, suc-mul i b, mul-le-mul_right b hi)

pub table_at : (n b : ℕ) (f : ℕ → List ℕ) → ((i : ℕ) → length (f i) ≡ b) → (zs : List ℕ) (i j : ℕ) → i < n → j < b → get_or (blocks n f ++ zs) (b * i + j) 0 ≡ get_or (f i) j 0
table_at n b f long zs i j hi hj =
    let e : b * i + j ≡ i * b + j = omega arith in
    let l : i * b + j < length (blocks n f) = omega (arith, length_blocks n b f long, inside_rows n b i j hi hj) in
    ap (λ (p : ℕ). get_or (blocks n f ++ zs) p 0) e ∙ get_or-append (blocks n f) zs 0 (i * b + j) l ∙ get_or_blocks n b f long i j 0 hi hj

-- WORDS that hold the addresses
length_card_words : (row : ℕ → Bool) → length (card_words row) ≡ 4
unfolding card_words
length_card_words row = refl

card_word : (row : ℕ → Bool) (t : ℕ) → t < 4 → get_or (card_words row) t 0 ≡ bits_value 64 (λ i. row (64 * t + i))
unfolding card_words
card_word row t h = get_or_tabulate 4 (λ t. bits_value 64 (λ i. row (64 * t + i))) t 0 h

length_all_words : (w : Wiring) → length (all_words w) ≡ w.cards * 4
unfolding all_words
length_all_words w = length_blocks w.cards 4 (λ c. card_words (address w c)) (λ c. length_card_words (address w c))

pub words_list : (w : Wiring) (ws : List ℕ) → w.cards ≤ most_cards → WordsOf (columns w) w.cards ws → ws ≡ all_words w ++ replicate (length ws - length (all_words w)) 0
unfolding all_words address bit_in
words_list w ws few h = zeros_behind (all_words w) ws (omega (arith, h.long, length_all_words w)) front (λ i k l. h.rest i (omega (arith, length_all_words w)))
  where
    front : (i : ℕ) → i < length (all_words w) → get_or ws i 0 ≡ get_or (all_words w) i 0
    front i l =
        let e : i ≡ 4 * (i / 4) + i % 4 = omega arith in
        let f : i ≡ i / 4 * 4 + i % 4 = omega arith in
        let c : i / 4 < w.cards = omega (arith, length_all_words w) in
        ap (λ (p : ℕ). get_or ws p 0) e ∙ h.is (i / 4) (i % 4) c (omega arith) ∙ sym (card_word (address w (i / 4)) (i % 4) (omega arith))
        ∙ sym (ap (λ (p : ℕ). get_or (all_words w) p 0) f ∙ get_or_blocks w.cards 4 (λ c. card_words (address w c))
        (λ c. length_card_words (address w c)) (i / 4) (i % 4) 0 c (omega arith))

-- the address is read back from them
pub word_bit_address : (w : Wiring) (zs : List ℕ) (c j : ℕ) → c < w.cards → j < 256 → word_bit (all_words w ++ zs) c j ≡ address w c j
unfolding word_bit all_words
word_bit_address w zs c j hc hj =
    let e : 64 * (j / 64) + j % 64 ≡ j = omega arith in
    ap (λ (x : ℕ). number_bit x (j % 64))
    (table_at w.cards 4 (λ c. card_words (address w c)) (λ c. length_card_words (address w c)) zs c (j / 64) hc (omega arith) ∙ card_word
    (address w c) (j / 64) (omega arith))
    ∙ bits_value_number 64 (λ i. address w c (64 * (j / 64) + i)) (j % 64) (omega arith)
    ∙ ap (address w c) e

-- BYTES that hold the hops
abbrev hop_row : Wiring → (a : ℕ) → List ℕ
hop_row w a = tabulate 256 (λ b. cond (ltb b w.cards) (hops w a b) 0)

length_hop_row : (w : Wiring) (a : ℕ) → length (hop_row w a) ≡ 256
length_hop_row w a = length_tabulate 256 (λ b. cond (ltb b w.cards) (hops w a b) 0)

length_all_hops : (w : Wiring) → length (all_hops w) ≡ w.cards * 256
unfolding all_hops
length_all_hops w = length_blocks w.cards 256 (hop_row w) (length_hop_row w)

hop_place : (w : Wiring) (h : List ℕ) → HopsIn w h → (a b : ℕ) → a < w.cards → b < 256 → cell h a b ≡ get_or (hop_row w a) b 0
hop_place w h m a b ha hb =
    by_lt b w.cards
    (λ l. m.is a b ha l ∙ sym (get_or_tabulate 256 (λ b. cond (ltb b w.cards) (hops w a b) 0) b 0 hb ∙ rw (lt-ltb b w.cards l) refl))
    (λ l. m.places a b hb l ∙ sym (get_or_tabulate 256 (λ b. cond (ltb b w.cards) (hops w a b) 0) b 0 hb ∙ rw (le-ltb b w.cards l) refl))

pub hops_list : (w : Wiring) (h : List ℕ) → w.cards ≤ most_cards → HopsIn w h → h ≡ all_hops w ++ replicate (length h - length (all_hops w)) 0
unfolding all_hops
hops_list w h few m = zeros_behind (all_hops w) h (omega (arith, m.long, length_all_hops w)) front back
  where
    row_place : (i : ℕ) → i ≡ 256 * (i / 256) + i % 256
    row_place i = omega arith

    front : (i : ℕ) → i < length (all_hops w) → get_or h i 0 ≡ get_or (all_hops w) i 0
    front i l =
        let f : i ≡ i / 256 * 256 + i % 256 = omega arith in
        let a : i / 256 < w.cards = omega (arith, length_all_hops w) in
        ap (λ (p : ℕ). get_or h p 0) (row_place i) ∙ hop_place w h m (i / 256) (i % 256) a (omega arith)
        ∙ sym (ap (λ (p : ℕ). get_or (all_hops w) p 0) f ∙ get_or_blocks w.cards 256 (hop_row w) (length_hop_row w) (i / 256) (i % 256) 0 a (omega arith))

    back : (i : ℕ) → length (all_hops w) ≤ i → i < length h → get_or h i 0 ≡ 0
    back i k l = ap (λ (p : ℕ). get_or h p 0) (row_place i) ∙ m.rows (i / 256) (i % 256) (omega arith) (omega (arith, length_all_hops w))

pub hops_at : (w : Wiring) (zs : List ℕ) (a b : ℕ) → w.cards ≤ most_cards → a < w.cards → b < w.cards → cell (all_hops w ++ zs) a b ≡ hops w a b
unfolding all_hops
hops_at w zs a b few ha hb =
    table_at w.cards 256 (hop_row w) (length_hop_row w) zs a b ha (omega arith)
    ∙ get_or_tabulate 256 (λ b. cond (ltb b w.cards) (hops w a b) 0) b 0 (omega arith)
    ∙ rw (lt-ltb b w.cards hb) refl
