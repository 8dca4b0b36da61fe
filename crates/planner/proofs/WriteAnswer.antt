-- What plan writing says: the bytes written from the words are the plan's, and the buffers from the planning before it. Assumes nothing.
use mathlib.Core.Path.{◌≡◌, refl, sym, ap, ap₂, ◌∙◌}
use mathlib.Core.Logic.{◌≢◌}
use mathlib.Core.List.{List, ◌++◌}
use Prim.Native.Nat.{ℕ, ◌+◌, ◌*◌, ◌-◌, ◌/◌, ◌%◌, ◌^◌, ◌≤◌, ◌<◌}
use native.Mathlib.Omega.{arith}
use lib.ListN.{length, replicate}
use borrow.Author.Tests.{eq-eqb, ne_eqb}
use Rattle.std.specs.Prelude.{Ok, Err}
use Rattle.rack.specs.declared.refused.Refused.TheVariants.{Lent}
use Rattle.rack.specs.Lists.{tabulate, blocks}
use Rattle.rack.specs.Bits.{bits_value}
use Rattle.rack.specs.Wiring.{Link, Wiring, link_at}
use Rattle.rack.specs.Columns.{columns, column_count, address}
use Rattle.rack.specs.Refused.{refusal_of}
use Rattle.rack.specs.declared.refused.Refused.{Refused}
use Rattle.rack.proofs.RefusalNumbers.{refusal_numbered}
use Rattle.rack.specs.Refusals.{Refusal, refusal, links_refusal, rack_refusal, wiring_refusal}
use Rattle.rack.specs.Buffers.{number_at, two_bytes, Written}
use Rattle.rack.specs.WiringFile.{file_wiring, file_refusal, end_bytes}
use Rattle.rack.proofs.Tables.{tabulate_ext, blocks_ext, blocks_add}
use Rattle.rack.proofs.Bits.{bits_value_ext, bits_value_part}
use Rattle.rack.proofs.Refusals.{or_else_clear}
use Rattle.rack.proofs.Acceptance.{embedding_accepted}
use Rattle.rack.proofs.Accepted.{wiring_accepted, file_clear}
use Rattle.rack.proofs.WiringFile.{sized_clear, wiring_at_cards, wiring_at_count, wiring_at_link}
use Rattle.rack.specs.PlanFile.{address_size}
use Rattle.planner.specs.PlanBytes.{address_bytes, plan_bytes}
use Rattle.planner.specs.OpenColumns.{bit_in, WordsOf}
use Rattle.planner.specs.Stages.{FilePlanned}
use Rattle.rack.specs.Limits.{lent_plan, most_columns}
use Rattle.planner.specs.Planning.{writing_refusal, WriteSays}
use Rattle.plan_writer.specs.Writing.{end_pair, word_byte, written_bytes}
use Rattle.planner.specs.Answer.{answer_of}
use Rattle.planner.proofs.Answers.{refusal_of_rack}
use Rattle.planner.proofs.PlanAnswer.{file_not_one, left_untouched, left_filled, left_zero, accepted_columns}

-- THE ENDS
pub ends_written : (bs : List ℕ) → blocks (2 * number_at bs 2) (end_pair bs) ≡ end_bytes (file_wiring bs)
unfolding end_bytes
ends_written bs =
    let m = number_at bs 2 in
    let e : 2 * m ≡ m + m = omega arith in
    rw (e, wiring_at_count 4 bs)
    (blocks_add m m (end_pair bs)
    ∙ ap₂ ◌++◌
    (blocks_ext m (end_pair bs) (λ i. two_bytes (link_at (file_wiring bs) i).first) (λ i h. sym (ap (λ (l : Link). two_bytes l.first) (wiring_at_link 4 bs i h))))
    (blocks_ext m (λ i. end_pair bs (m + i)) (λ i. two_bytes (link_at (file_wiring bs) i).second) (λ i h.
    ap (λ (p : ℕ). two_bytes (number_at bs p)) (end_place m i) ∙ sym (ap (λ (l : Link). two_bytes l.second) (wiring_at_link 4 bs i h)))))
  where
    end_place : (m i : ℕ) → 4 + 2 * (m + i) ≡ 4 + 2 * m + 2 * i
    end_place m i = omega arith

-- THE ADDRESSES
module _ (w : Wiring) (ws : List ℕ) (words : WordsOf (columns w) w.cards ws) (few : column_count w ≤ most_columns) where
  byte_written : (c t : ℕ) → c < w.cards → t < 32 → word_byte ws c t ≡ bits_value 8 (λ i. address w c (8 * t + i))
  unfolding word_byte address bit_in
  byte_written c t hc ht =
      let e : 64 ≡ 8 * (t % 8) + (8 + (56 - 8 * (t % 8))) = omega arith in
      ap (λ (x : ℕ). x / 2 ^ (8 * (t % 8)) % 256) (words.is c (t / 8) hc (omega arith) ∙ ap (λ (n : ℕ). bits_value n (λ i. bit_in (columns w) c (64 * (t / 8) + i))) e)
      ∙ bits_value_part (8 * (t % 8)) 8 (56 - 8 * (t % 8)) (λ i. bit_in (columns w) c (64 * (t / 8) + i))
      ∙ bits_value_ext 8 (λ i. bit_in (columns w) c (64 * (t / 8) + (8 * (t % 8) + i))) (λ i. address w c (8 * t + i)) (λ i h. ap (address w c) (omega arith))

  size_few : address_size (column_count w) ≤ 32
  unfolding address_size
  size_few = omega arith

  addresses_written : blocks w.cards (λ c. tabulate (address_size (column_count w)) (word_byte ws c)) ≡ blocks w.cards (λ c. address_bytes (column_count w) (address w c))
  unfolding address_bytes
  addresses_written =
      blocks_ext w.cards (λ c. tabulate (address_size (column_count w)) (word_byte ws c)) (λ c. address_bytes (column_count w) (address w c))
      (λ c hc. tabulate_ext (address_size (column_count w)) (word_byte ws c) (λ t. bits_value 8 (λ i. address w c (8 * t + i)))
      (λ t ht. byte_written c t hc (omega (arith, size_few))))

-- THE PLAN
plan_bytes_written : (bs ws : List ℕ) (k : ℕ) → k ≡ column_count (file_wiring bs) → k ≤ most_columns → WordsOf (columns (file_wiring bs)) (file_wiring bs).cards ws
    → written_bytes bs ws k ≡ plan_bytes (file_wiring bs)
unfolding written_bytes plan_bytes
plan_bytes_written bs ws k e few words =
    rw (e, ends_written bs, ← (wiring_at_cards 4 bs), ← (wiring_at_count 4 bs), addresses_written (file_wiring bs) ws words (omega arith)) refl

-- an accepted file's refusal carries nothing
pub at_zero : (bs : List ℕ) → (file_refusal bs).number ≡ 0 → (file_refusal bs).at ≡ 0
unfolding wiring_refusal
at_zero bs h =
    let c = file_clear bs h in
    let a = wiring_accepted (file_wiring bs) (omega (arith, c.0.some, wiring_at_cards 4 bs)) c.1 in
    let links = (or_else_clear (links_refusal (file_wiring bs)) (rack_refusal (file_wiring bs)) c.1).0 in
    ap (λ (f : Refusal). f.at) (refusal_of_rack bs (sized_clear bs c.0) links ∙ embedding_accepted (file_wiring bs) a.rack
    (column_count (file_wiring bs)) (address (file_wiring bs)) a.embedding)

-- WRITING into a buffer of another length
pub write_says_one : (bs o : List ℕ) → length o ≢ lent_plan → WriteSays bs (answer_of (Err Lent)) o o
unfolding writing_refusal
write_says_one bs o t =
    record {
      answer = record { number = rw (ne_eqb (length o) lent_plan t) refl; at = rw (ne_eqb (length o) lent_plan t) refl; value = rw (ne_eqb (length o) lent_plan t) refl };
      output_left = sym (left_untouched (plan_bytes (file_wiring bs)) o);
    }

-- WRITING into a buffer of its length: a refusal, or the plan
pub write_says_refused : (bs o out : List ℕ) (e : Refused) → length o ≡ lent_plan → file_refusal bs ≡ refusal_of e → out ≡ replicate (length o) 0
    → WriteSays bs (answer_of (Err e)) o out
unfolding writing_refusal
write_says_refused bs o out e lo is z =
    let some = refusal_numbered e in
    record {
      answer = rw (eq-eqb (length o) lent_plan lo, is) (record { number = refl; at = refl; value = sym (rw (ne_eqb (refusal_of e).number 0 some) refl) });
      output_left = z ∙ sym (left_zero (refusal_of e).number (plan_bytes (file_wiring bs)) o some (λ y. file_not_one bs (ap (λ (f : Refusal). f.number) is ∙ y)));
    }

-- what a refused planning says of the file
pub planned_refusal : (bs ws h : List ℕ) (e : Refused) → FilePlanned bs (answer_of (Err e)) ws h → file_refusal bs ≡ refusal_of e
planned_refusal bs ws h e p = sym (ap₂ refusal p.number p.at)

module _ (bs ws h : List ℕ) (k : ℕ) (p : FilePlanned bs (answer_of (Ok k)) ws h) where
  accepted : (file_refusal bs).number ≡ 0
  accepted = sym p.number

  pub columns_few : k ≤ most_columns
  columns_few = omega (arith, p.value refl, accepted_columns bs accepted)

  pub write_says_found : (o out : List ℕ) (v : ℕ) → length o ≡ lent_plan → length out ≡ length o → Written out (written_bytes bs ws k) → v ≡ length (written_bytes bs ws k)
      → WriteSays bs (answer_of (Ok v)) o out
  unfolding writing_refusal
  write_says_found o out v lo l w e =
      let same = plan_bytes_written bs ws k (p.value refl) columns_few (p.words refl) in
      record {
        answer = rw (eq-eqb (length o) lent_plan lo)
            (record {
              number = sym accepted;
              at = sym (at_zero bs accepted);
              value = e ∙ ap length same ∙ sym
                  (rw (eq-eqb (file_refusal bs).number 0 accepted) refl);
            });
        output_left = left_filled 0 (plan_bytes (file_wiring bs)) o out refl l (rw same at w.is);
      }
