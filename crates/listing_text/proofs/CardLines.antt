-- Card lines: a bit as a digit, an address, and room for their parts. Assumes nothing.
use mathlib.Core.Path.{◌≡◌, refl, ap, ◌∙◌}
use mathlib.Core.Bool.{Bool}
use mathlib.Core.Logic.{◌≢◌}
use mathlib.Core.List.{List, ◌++◌}
use Prim.Native.Nat.{ℕ, zero, suc, ◌+◌, ◌-◌, ◌/◌, ◌%◌, ◌^◌, ◌≤◌, ◌<◌}
use native.Mathlib.Nat.{mod-lt}
use native.Mathlib.Omega.{arith}
use lib.Dec.{eqb}
use lib.ListN.{length}
use borrow.Author.Tests.{eq-eqb, ne_eqb}
use Rattle.rack.specs.Lists.{one, tabulate, blocks}
use Rattle.rack.specs.Bits.{number_bit}
use Rattle.rack.proofs.Tables.{length_tabulate, blocks_add, blocks_snoc}
use Rattle.text.specs.Decimals.{decimal}
use Rattle.listing_text.specs.Listing.{card_word, space, dash, line_end, column_digit, address_text, card_line}
use Rattle.rack.proofs.Putting.{room_first}

-- A BIT as a digit
one_of_two : (x : ℕ) → x < 2 → one (eqb x 1) ≡ x
one_of_two zero h = refl
one_of_two (suc zero) h = refl
one_of_two (suc (suc x)) h = absurd (omega arith)

pub one_number_bit : (x i : ℕ) → one (number_bit x i) ≡ x / 2 ^ i % 2
unfolding number_bit
one_number_bit x i = one_of_two (x / 2 ^ i % 2) (mod-lt (x / 2 ^ i) (omega arith))

-- AN ADDRESS: a dash, or its columns
pub address_none : (k : ℕ) (row : ℕ → Bool) → k ≡ 0 → address_text k row ≡ dash
unfolding address_text
address_none k row e = rw (eq-eqb k 0 e) refl

pub address_columns : (k : ℕ) (row : ℕ → Bool) → k ≢ 0 → address_text k row ≡ tabulate k (column_digit row)
unfolding address_text
address_columns k row n = rw (ne_eqb k 0 n) refl

pub length_columns : (k : ℕ) (row : ℕ → Bool) → k ≢ 0 → length (address_text k row) ≡ k
length_columns k row n = ap length (address_columns k row n) ∙ length_tabulate k (column_digit row)

-- ROOM for a card line is room for its parts
pub record CardLineRoom (at room k : ℕ) (row : ℕ → Bool) (c : ℕ) : Type 0 where
  pub number : at + length (card_word ++ decimal c) ≤ room
  pub spaced : at + length (card_word ++ decimal c ++ space) ≤ room
  pub address : at + length (card_word ++ decimal c ++ space ++ address_text k row) ≤ room

pub card_line_room : (at room k : ℕ) (rows : ℕ → ℕ → Bool) (c : ℕ) → at + length (card_line k rows c) ≤ room → CardLineRoom at room k (rows c) c
unfolding card_line
card_line_room at room k rows c h =
    let address = room_first at room (card_word ++ decimal c ++ space ++ address_text k (rows c)) line_end h in
    let spaced = room_first at room (card_word ++ decimal c ++ space) (address_text k (rows c)) address in
    record { number = room_first at room (card_word ++ decimal c) space spaced; spaced = spaced; address = address }

-- ROOM for many is room for the next
pub blocks_room : (at room n c : ℕ) (f : ℕ → List ℕ) → c < n → at + length (blocks n f) ≤ room → at + length (blocks c f ++ f c) ≤ room
blocks_room at room n c f l h =
    let e : n ≡ c + 1 + (n - (c + 1)) = omega arith in
    let later = blocks (n - (c + 1)) (λ i. f (c + 1 + i)) in
    let split : blocks n f ≡ blocks c f ++ f c ++ later =
    ap (λ (m : ℕ). blocks m f) e ∙ blocks_add (c + 1) (n - (c + 1)) f ∙ ap (λ (xs : List ℕ). xs ++ later) (blocks_snoc c f)
    in
    room_first at room (blocks c f ++ f c) later (rw split at h)
