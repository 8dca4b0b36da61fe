-- The lengths of lines, and that every listing fits the lent buffer. Assumes nothing.
use mathlib.Core.Path.{◌≡◌, refl, ap}
use mathlib.Core.Bool.{Bool}
use mathlib.Core.List.{List}
use Prim.Native.Nat.{ℕ, zero, suc, ◌+◌, ◌*◌, ◌^◌, ◌≤◌, ◌<◌}
use native.Mathlib.Omega.{arith}
use lib.ListN.{length, length-append}
use borrow.Author.Tests.{eq-eqb, ne_eqb}
use Rattle.rack.specs.Limits.{most_cards, most_links, most_columns}
use Rattle.rack.specs.Lists.{blocks}
use Rattle.rack.specs.Wiring.{Wiring, link_count}
use Rattle.rack.specs.Columns.{column_count, address}
use Rattle.rack.specs.Refusals.{Refusal, refusal}
use Rattle.rack.specs.WiringFile.{file_wiring, file_refusal}
use Rattle.rack.proofs.Logic.{by_bool, by_eq}
use Rattle.rack.proofs.Accepted.{wiring_accepted, file_clear}
use Rattle.rack.proofs.WiringFile.{wiring_at_cards, wiring_at_count}
use Rattle.text.specs.Decimals.{decimal}
use Rattle.listing_text.specs.Listing.{cards_word, links_word, columns_word, card_word, refused_word, at_link, at_card, space, dash, line_end}
use Rattle.listing_text.specs.Listing.{number_line, address_text, card_line, size_lines, rack_lines, rack_text}
use Rattle.listing_text.specs.Listing.{names_link, place_text, refused_text, listing, lent_text}
use Rattle.text.proofs.Digits.{digits_most, digits_few}
use Rattle.listing_text.proofs.CardLines.{address_none, length_columns}
use Rattle.listing_text.proofs.Refused.{place_link, place_card, place_none}

-- A NUMBER below a power of ten
decimal_few : (d v : ℕ) → v < 10 ^ suc d → length (decimal v) ≤ suc d
unfolding decimal
decimal_few d v h = digits_few 10 d v h

-- A RACK: lines of sizes, card lines
length_number_line : (word : List ℕ) (v : ℕ) → length (number_line word v) ≡ length word + length (decimal v) + 1
unfolding number_line line_end
length_number_line word v = simp length-append (omega arith)

address_few : (k : ℕ) (row : ℕ → Bool) → k ≤ most_columns → length (address_text k row) ≤ most_columns
unfolding dash
address_few k row h = by_eq k 0 (λ e. omega (arith, ap length (address_none k row e))) (λ n. omega (arith, length_columns k row n))

size_lines_few : (n m k : ℕ) → n ≤ most_cards → m ≤ most_links → k ≤ most_columns → length (size_lines n m k) ≤ 33
unfolding size_lines cards_word links_word columns_word
size_lines_few n m k hn hm hk =
    simp length-append
    (omega (
      arith,
      length_number_line cards_word n,
      length_number_line links_word m,
      length_number_line columns_word k,
      decimal_few 2 n (omega arith),
      decimal_few 3 m (omega arith),
      decimal_few 2 k (omega arith),
    ))

card_line_few : (k : ℕ) (rows : ℕ → ℕ → Bool) (c : ℕ) → k ≤ most_columns → c < most_cards → length (card_line k rows c) ≤ 265
unfolding card_line card_word space line_end
card_line_few k rows c hk hc = simp length-append (omega (arith, decimal_few 2 c (omega arith), address_few k (rows c) hk))

blocks_few : (n b : ℕ) (f : ℕ → List ℕ) → ((i : ℕ) → i < n → length (f i) ≤ b) → length (blocks n f) ≤ n * b
blocks_few zero b f h = omega arith
blocks_few (suc n) b f h =
    simp length-append (omega (arith, h 0 (omega arith), blocks_few n b (λ i. f (suc i)) (λ i l. h (suc i) (omega arith))))

rack_lines_few : (n m k : ℕ) (rows : ℕ → ℕ → Bool) → n ≤ most_cards → m ≤ most_links → k ≤ most_columns → length (rack_lines n m k rows) ≤ lent_text
unfolding rack_lines
rack_lines_few n m k rows hn hm hk =
    simp length-append
    (omega (arith, size_lines_few n m k hn hm hk, blocks_few n 265 (card_line k rows) (λ i l. card_line_few k rows i hk (omega arith))))

-- A REFUSAL: its number and the place that it names are of ten digits at most
decimal_most : (v : ℕ) → length (decimal v) ≤ 10
unfolding decimal
decimal_most v = digits_most 10 v

place_few : (number at : ℕ) → length (place_text (refusal number at)) ≤ 16
unfolding at_link at_card
place_few number at =
    by_bool (names_link number)
    (λ t. omega (arith, decimal_most at, ap length (place_link number at (names_link number) refl t)))
    (λ t. by_eq number 9
    (λ e. omega (arith, decimal_most at, ap length (place_card number at (names_link number) refl t e)))
    (λ n. omega (arith, ap length (place_none number at (names_link number) refl t n))))

refused_few : (f : Refusal) → length (refused_text f) ≤ 35
unfolding refused_text refused_word line_end
refused_few f = simp length-append (omega (arith, decimal_most f.number, place_few f.number f.at))

-- A FILE
pub record SizesIn (w : Wiring) : Type 0 where
  pub cards : w.cards ≤ most_cards
  pub links : link_count w ≤ most_links
  pub columns : column_count w ≤ most_columns

pub accepted_sizes : (bs : List ℕ) → (file_refusal bs).number ≡ 0 → SizesIn (file_wiring bs)
accepted_sizes bs z =
    let c = file_clear bs z in
    let a = wiring_accepted (file_wiring bs) (omega (arith, c.0.some, wiring_at_cards 4 bs)) c.1 in
    record {
      cards = omega (arith, c.0.cards, wiring_at_cards 4 bs);
      links = omega (arith, c.0.links, wiring_at_count 4 bs);
      columns = omega (arith, a.few, c.0.cards, wiring_at_cards 4 bs);
    }

pub listing_fits : (bs : List ℕ) → length (listing bs) ≤ lent_text
unfolding listing rack_text
listing_fits bs =
    let w = file_wiring bs in
    by_eq (file_refusal bs).number 0
    (λ z. let s = accepted_sizes bs z in
    rw (eq-eqb (file_refusal bs).number 0 z)
    (rack_lines_few w.cards (link_count w) (column_count w) (address w) s.cards s.links s.columns))
    (λ n. rw (ne_eqb (file_refusal bs).number 0 n) (omega (arith, refused_few (file_refusal bs))))
