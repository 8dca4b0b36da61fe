-- The listing from what planning answered and left in the words, and what the call says of it. Assumes nothing.
use mathlib.Core.Path.{◌≡◌, refl, sym, ap₂}
use mathlib.Core.Logic.{◌≢◌}
use mathlib.Core.List.{List, []}
use Prim.Native.Nat.{ℕ, ◌≤◌, ◌<◌}
use native.Mathlib.Omega.{arith}
use Rattle.std.specs.Prelude.{Ok, Err}
use lib.ListN.{length}
use borrow.Author.Tests.{eq-eqb, ne_eqb}
use Rattle.rack.specs.Limits.{most_columns}
use Rattle.rack.specs.Wiring.{Wiring, link_count}
use Rattle.rack.specs.Columns.{columns, column_count, address}
use Rattle.rack.specs.Refusals.{refusal}
use Rattle.rack.specs.Refused.{refusal_of}
use Rattle.rack.specs.declared.refused.Refused.{Refused}
use Rattle.rack.specs.Buffers.{number_at, Written}
use Rattle.rack.specs.WiringFile.{file_wiring, file_refusal}
use Rattle.rack.proofs.Tables.{tabulate_ext, blocks_ext}
use Rattle.rack.proofs.Accepted.{file_clear}
use Rattle.rack.proofs.RefusalNumbers.{refusal_numbered}
use Rattle.rack.proofs.WiringFile.{Sized, wiring_at_cards, wiring_at_count}
use Rattle.planner.specs.OpenColumns.{bit_in, WordsOf}
use Rattle.rack.specs.Words.{word_bit}
use Rattle.planner.specs.Answer.{Answer, answer_of}
use Rattle.planner.specs.Planning.{AnswerIs}
use Rattle.planner.proofs.AddressWords.{word_bit_column}
use Rattle.rack.proofs.Putting.{grown_written, grown_long}
use Rattle.planner.proofs.PlanAnswer.{left_untouched, left_filled}
use Rattle.listing_text.specs.Listing.{listing, column_digit, address_text, card_line, rack_lines, rack_text, refused_text}
use Rattle.listing_text.specs.Listing.{lent_text, listing_refusal, ListingSays}
use Rattle.rack.specs.Putting.{Grows}
use Rattle.rack.specs.declared.output.Output.{Output}
use Rattle.listing_text.specs.Planned.{Planned}
use Rattle.listing_text.proofs.Fits.{accepted_sizes, listing_fits}

-- THE CARD LINES from the words
module _ (w : Wiring) (ws : List ℕ) (words : WordsOf (columns w) w.cards ws) (few : column_count w ≤ most_columns) where
  digit_address : (c j : ℕ) → c < w.cards → j < column_count w → column_digit (word_bit ws c) j ≡ column_digit (address w c) j
  unfolding address bit_in
  digit_address c j hc hj = rw (word_bit_column (columns w) w.cards ws words c j hc (omega arith)) refl

  card_line_words : (c : ℕ) → c < w.cards → card_line (column_count w) (word_bit ws) c ≡ card_line (column_count w) (address w) c
  unfolding card_line address_text
  card_line_words c hc =
      rw (tabulate_ext (column_count w) (column_digit (word_bit ws c)) (column_digit (address w c)) (λ j hj. digit_address c j hc hj)) refl

  rack_lines_words : rack_lines w.cards (link_count w) (column_count w) (word_bit ws) ≡ rack_text w
  unfolding rack_lines rack_text
  rack_lines_words =
      rw (blocks_ext w.cards (card_line (column_count w) (word_bit ws)) (card_line (column_count w) (address w)) card_line_words) refl

-- THE LISTING from planning: the line of the refusal, or the lines of the rack
pub listing_refused : (bs : List ℕ) (e : Refused) (ws : List ℕ) → Planned bs (answer_of (Err e)) ws → listing bs ≡ refused_text (refusal_of e)
unfolding listing
listing_refused bs e ws p =
    let is : file_refusal bs ≡ refusal_of e = sym (ap₂ refusal p.1.number p.1.at) in
    rw is (rw (ne_eqb (refusal_of e).number 0 (refusal_numbered e)) refl)

module _ (bs : List ℕ) (k : ℕ) (ws : List ℕ) (p : Planned bs (answer_of (Ok k)) ws) where
  accepted : (file_refusal bs).number ≡ 0
  accepted = sym p.1.number

  pub planned_sizes : Sized bs
  planned_sizes = (file_clear bs accepted).0

  pub planned_columns : k ≤ most_columns
  planned_columns = omega (arith, p.1.value refl, (accepted_sizes bs accepted).columns)

  pub listing_rack : (n m : ℕ) → n ≡ number_at bs 0 → m ≡ number_at bs 2 → rack_lines n m k (word_bit ws) ≡ listing bs
  unfolding listing
  listing_rack n m en em =
      rw (eq-eqb (file_refusal bs).number 0 accepted, en, em, ← (wiring_at_cards 4 bs), ← (wiring_at_count 4 bs), p.1.value refl)
      (rack_lines_words (file_wiring bs) ws (p.1.words refl) (accepted_sizes bs accepted).columns)

-- THE TEXT that grew by the listing from its start on
module _ (bs : List ℕ) (a b : Output) (g : Grows a b (listing bs)) (start : a.length ≡ 0) where
  pub listed_length : b.length ≡ length (listing bs)
  listed_length = grown_long start g

  pub listed_inside : b.length ≤ lent_text
  listed_inside = omega (arith, listed_length, listing_fits bs)

  pub listed_text : Written a.bytes.now [] → Written b.bytes.now (listing bs)
  listed_text w = grown_written start w g

-- WHAT THE CALL SAYS
pub listing_says_one : (bs text : List ℕ) → length text ≢ lent_text → ListingSays bs (record { number = 1; at = 0; value = 0 }) text text
unfolding listing_refusal
listing_says_one bs text t =
    record {
      answer = rw (ne_eqb (length text) lent_text t) (record { number = refl; at = refl; value = refl });
      text_left = sym (left_untouched (listing bs) text);
    }

pub listing_says_text : (bs text now : List ℕ) (n : ℕ) → length text ≡ lent_text → length now ≡ length text → n ≡ length (listing bs) → Written now (listing bs)
    → ListingSays bs (record { number = 0; at = 0; value = n }) text now
unfolding listing_refusal
listing_says_text bs text now n room l e w =
    record {
      answer = rw (eq-eqb (length text) lent_text room) (record { number = refl; at = refl; value = e });
      text_left = left_filled 0 (listing bs) text now refl l w.is;
    }

-- in a buffer of its length the value is the listing's
pub says_length : (bs : List ℕ) (r : Answer) (text now : List ℕ) → length text ≡ lent_text → ListingSays bs r text now → r.value ≡ length (listing bs)
unfolding listing_refusal
says_length bs r text now room s =
    let a : AnswerIs (refusal 0 0) (length (listing bs)) r = rw (eq-eqb (length text) lent_text room) at s.answer in
    a.value
