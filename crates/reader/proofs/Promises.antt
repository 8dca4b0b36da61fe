-- The promises of specs/Promises.antt, proved. Assumes nothing.
use mathlib.Core.Path.{◌≡◌, refl, sym, ap, ◌∙◌, subst}
use mathlib.Core.Bool.{true, false}
use mathlib.Core.List.{List}
use Prim.Native.Nat.{ℕ, ◌+◌, ◌*◌, ◌-◌, ◌/◌, ◌%◌, ◌≤◌, ◌<◌}
use native.Mathlib.Nat.{mul-le-mul}
use native.Mathlib.Omega.{arith}
use lib.Dec.{eqb}
use lib.ListN.{length, get_or, take, drop, replicate}
use lib.Seq.{take_at, get_or-take, get_or-drop}
use borrow.Author.Tests.{eq-eqb}
use Rattle.rack.specs.Wiring.{Wiring, link_count}
use Rattle.rack.specs.Hops.{hops}
use Rattle.rack.specs.Limits.{most_cards, most_links, lent_plan}
use Rattle.rack.specs.WiringFile.{file_wiring, file_refusal, file_bytes}
use Rattle.rack.specs.Bits.{number_bit, bits_value}
use Rattle.rack.specs.Columns.{column_count, address, hamming}
use Rattle.rack.proofs.Logic.{by_bool, by_eq, by_lt}
use Rattle.rack.proofs.Hamming.{hamming_ext, hamming_front}
use Rattle.rack.proofs.Hops.{connected_all}
use Rattle.rack.proofs.Columns.{past_columns}
use Rattle.rack.proofs.Accepted.{Accepted, wiring_accepted, accepted_inside, file_clear, clear_file}
use Rattle.rack.proofs.WiringFile.{Fits, wiring_at_cards, wiring_at_count, file_bytes_wiring, file_bytes_sized, sized_clear}
use Rattle.counting.proofs.Bytes.{hamming_table}
use Rattle.planner.specs.PlanBytes.{plan_bytes}
use Rattle.planner.specs.Planning.{left_in, writing_refusal, WriteSays}
use Rattle.planner.specs.Answer.{Answer}
use Rattle.planner.proofs.PlanBytes.{written_links, written_columns, written_byte, written_bit}
use Rattle.rack.specs.PlanFile.{plan_cards, plan_columns, plan_wiring, bit_from, plan_bit, plan_hamming, address_size, address_start}
use Rattle.rack.proofs.Bits.{bits_value_number, bits_value_fits}
use Rattle.rack.proofs.PlanFile.{address_size_is}
use Rattle.reader.specs.Plan.{plan_refusal}
use Rattle.reader.specs.Promises.{ReadExactly, CallsAgree, LayoutInRange, AddressFits, Measured, ReaderPromise, HopsByTable, RefusedAddressEmpty}
use Rattle.reader.specs.Promises.{NoSuchCard, LargestPlan, AddressWhole}
use Rattle.reader.specs.Reading.{Sizes, ReadSays, card_refusal, address_refusal, address_part}
use Rattle.reader.proofs.Plan.{Layout, layout_of, layout_facts, facts_layout, plan_clear, plan_read, accepted_fits, accepted_columns_fit, layout_head, plan_refusal_most}
use Rattle.reader.proofs.AddressPart.{refused_before, card_outside, card_inside, clear_card, refused_part, clear_part}
use Rattle.reader.proofs.Addresses.{address_counted}
use Rattle.reader.proofs.Parts.{length_part}

-- a bit of any byte of an address in the planner's plan
module _ (w : Wiring) (links_fit : link_count w < 65536) (columns_fit : column_count w < 65536) where
  written_byte_bit : (c j : ℕ) → c < w.cards → j / 8 < address_size (column_count w) → plan_bit (plan_bytes w) c j ≡ address w c j
  unfolding bit_from plan_bit
  written_byte_bit c j hc hj =
      let e : 8 * (j / 8) + j % 8 ≡ j = omega arith in
      rw (
        written_links w links_fit,
        written_columns w columns_fit,
        written_byte w c (j / 8) hc hj,
        bits_value_number 8 (λ i. address w c (8 * (j / 8) + i)) (j % 8) (omega arith),
        e,
      ) refl

-- A PLAN THAT WAS READ has an accepted wiring inside, and is its plan
module _ (ps : List ℕ) (h : plan_refusal ps ≡ 0) where
  abbrev inner : Wiring
  inner = plan_wiring ps

  layout : Layout ps
  layout = layout_facts ps (plan_clear ps h).0

  pub read_accepted : Accepted inner
  read_accepted = wiring_accepted inner (omega (arith, layout.some, wiring_at_cards 6 ps)) (plan_clear ps h).1

  few_cards : inner.cards ≤ most_cards
  few_cards = omega (arith, layout.few, wiring_at_cards 6 ps)

  few_links : link_count inner ≤ most_links
  few_links = omega (arith, layout.few_links, wiring_at_count 6 ps)

  fits : Fits inner
  fits = accepted_fits inner read_accepted few_cards few_links

  read_file : ((file_refusal (file_bytes inner)).number ≡ 0) × (file_wiring (file_bytes inner) ≡ inner) × (plan_bytes inner ≡ ps)
  read_file =
      let e = file_bytes_wiring inner fits in
      let z = sized_clear (file_bytes inner) (file_bytes_sized inner fits (omega (arith, read_accepted.rack.some)) few_cards few_links) in
      (clear_file (file_bytes inner) z (rw e (plan_clear ps h).1), e, (plan_clear ps h).2)

  links_fit : link_count inner < 65536
  links_fit = omega (arith, few_links)

  columns_fit : column_count inner < 65536
  columns_fit = accepted_columns_fit inner read_accepted few_cards few_links

  pub read_columns : plan_columns ps ≡ column_count inner
  read_columns = subst (λ (qs : List ℕ). plan_columns qs ≡ column_count inner) (plan_clear ps h).2 (written_columns inner columns_fit)

  pub read_bit : (c j : ℕ) → c < inner.cards → j < column_count inner → plan_bit ps c j ≡ address inner c j
  read_bit c j hc hj =
      subst (λ (qs : List ℕ). plan_bit qs c j ≡ address inner c j) (plan_clear ps h).2 (written_bit inner links_fit columns_fit c j hc hj)

  -- a bit of any byte of an address, also past the last column
  read_byte_bit : (c j : ℕ) → c < inner.cards → j / 8 < address_size (column_count inner) → plan_bit ps c j ≡ address inner c j
  read_byte_bit c j hc hj =
      subst (λ (qs : List ℕ). plan_bit qs c j ≡ address inner c j) (plan_clear ps h).2 (written_byte_bit inner links_fit columns_fit c j hc hj)

  -- a byte of an address
  pub read_byte : (c t : ℕ) → c < inner.cards → t < address_size (plan_columns ps)
      → get_or ps (address_start ps c + t) 0 ≡ bits_value 8 (λ i. address inner c (8 * t + i))
  read_byte c t hc ht =
      rw (← (wiring_at_count 6 ps), read_columns)
      (ap (λ (qs : List ℕ). get_or qs (6 + 4 * link_count inner + c * address_size (column_count inner) + t) 0) (sym (plan_clear ps h).2)
      ∙ written_byte inner c t hc (rw read_columns at ht))

  -- past the last column no bit differs, so all bytes of two addresses measure hops
  bytes_measure : (a b : ℕ) → a < inner.cards → b < inner.cards
      → hamming (8 * address_size (plan_columns ps)) (plan_bit ps a) (plan_bit ps b) ≡ hops inner a b
  bytes_measure a b ha hb =
      let k = column_count inner in
      let size = address_size k in
      rw read_columns (hamming_ext (8 * size) (plan_bit ps a) (plan_bit ps b) (address inner a) (address inner b)
      (λ j l. read_byte_bit a j ha (omega arith)) (λ j l. read_byte_bit b j hb (omega arith))
      ∙ hamming_front k (8 * size) (address inner a) (address inner b) (omega (arith, address_size_is k))
      (λ j. past_columns inner a (k + j) (omega arith) ∙ sym (past_columns inner b (k + j) (omega arith)))
      ∙ read_accepted.embedding a b ha hb)

  read_hamming : (a b : ℕ) → a < inner.cards → b < inner.cards → plan_hamming ps a b ≡ hops inner a b
  unfolding plan_hamming
  read_hamming a b ha hb =
      rw read_columns
      (hamming_ext (column_count inner) (plan_bit ps a) (plan_bit ps b) (address inner a) (address inner b) (λ j l. read_bit a j ha l) (λ j l. read_bit b j hb l)
      ∙ read_accepted.embedding a b ha hb)

  pub read_measured : Measured ps
  read_measured =
      let n : inner.cards ≡ plan_cards ps = wiring_at_cards 6 ps in
      record {
        layout = (plan_clear ps h).0;
        inside = λ i l. let s = accepted_inside inner read_accepted i l in (omega arith, omega arith);
        reached = λ a b ha hb. omega (arith, connected_all inner read_accepted.rack.whole a b (omega arith) (omega arith));
        measured = λ a b ha hb. read_hamming a b (omega arith) (omega arith);
      }

pub reader_promise : ReaderPromise
unfolding ReaderPromise
reader_promise ps h = read_measured ps h

pub hops_by_table : HopsByTable
unfolding HopsByTable bit_from plan_bit
hops_by_table table ps a b c h ha hb =
    let n = wiring_at_cards 6 ps in
    let byte : (card t : ℕ) → card < plan_cards ps → t < address_size (plan_columns ps) → get_or ps (address_start ps card + t) 0 < 256 =
    λ card t l m. rw (read_byte ps h card t (omega arith) m) (bits_value_fits 8 (λ i. address (plan_wiring ps) card (8 * t + i))) in
    sym (bytes_measure ps h a b (omega arith) (omega arith))
    ∙ hamming_table table c (address_size (plan_columns ps)) (λ t. get_or ps (address_start ps a + t) 0) (λ t. get_or ps (address_start ps b + t) 0)
    (λ t l. (byte a t ha l, byte b t hb l))

pub layout_in_range : LayoutInRange
unfolding LayoutInRange
layout_in_range ps = (
  (λ h. let z = layout_facts ps h in (layout_head ps z, z.some, z.few, z.few_links, z.few_columns, z.long)),
  λ z. facts_layout ps (layout_of ps z.1 z.2 z.3 z.4 z.5),
)

pub address_fits : AddressFits
unfolding AddressFits address_size
address_fits k = (omega arith, omega arith)

pub largest_plan : LargestPlan
unfolding LargestPlan
largest_plan ps h =
    let z = layout_facts ps h in
    let few : plan_cards ps * address_size (plan_columns ps) ≤ 256 * 32 =
    mul-le-mul {n₂ = 256} {m₂ = 32} z.few (omega (arith, address_size_is (plan_columns ps), z.few_columns)) in
    omega (arith, z.long, z.few_links)

-- AN ADDRESS that is handed out ends inside the plan, and its bits are the plan's
module _ (ps : List ℕ) (c : ℕ) (e : address_refusal ps c ≡ 0) where
  abbrev size : ℕ
  size = address_size (plan_columns ps)

  abbrev start : ℕ
  start = address_start ps c

  card_read : (plan_refusal ps ≡ 0) × (c < plan_cards ps)
  unfolding address_refusal
  card_read = clear_card (plan_refusal ps) (plan_cards ps) c e

  handed_size : length (address_part ps c) ≡ size
  handed_size =
      let z = address_counted ps (layout_facts ps (plan_clear ps card_read.0).0) c size start card_read.1 refl refl in
      ap length (clear_part ps c (address_refusal ps c) e).1 ∙ length_part start size ps z.1

  handed_bit : (j : ℕ) → j < 8 * size → bit_from (address_part ps c) 0 j ≡ plan_bit ps c j
  unfolding bit_from plan_bit
  handed_bit j l =
      ap (λ (byte : ℕ). number_bit byte (j % 8))
      (ap (λ (bs : List ℕ). get_or bs (0 + j / 8) 0) (clear_part ps c (address_refusal ps c) e).1 ∙ get_or-take size (drop start ps) (0 + j / 8) 0 (omega arith)
      ∙ get_or-drop start ps (0 + j / 8) 0 ∙ ap (λ (i : ℕ). get_or ps i 0) (omega arith))

pub address_whole : AddressWhole
unfolding AddressWhole
address_whole ps c e =
    let (h, inside) = card_read ps c e in
    let k = read_columns ps h in
    let n = wiring_at_cards 6 ps in (
      handed_size ps c e,
      (λ j l. handed_bit ps c e j l ∙ read_byte_bit ps h c j (omega arith) (rw (← k) (omega arith))),
      λ j l. past_columns (plan_wiring ps) c j (omega arith),
    )

pub refused_address_empty : RefusedAddressEmpty
unfolding RefusedAddressEmpty
refused_address_empty ps c n = (refused_part ps c (address_refusal ps c) n).1

pub no_such_card : NoSuchCard
unfolding NoSuchCard address_refusal
no_such_card ps c = (outside, λ (e, h). card_outside (plan_refusal ps) (plan_cards ps) c e h)
  where
    outside : card_refusal (plan_refusal ps) (plan_cards ps) c ≡ 14 → (plan_refusal ps ≡ 0) × (plan_cards ps ≤ c)
    outside h =
        let x = plan_refusal ps in
        let n = plan_cards ps in
        by_eq x 0
        (λ e. (e, by_lt c n (λ l. absurd (omega (arith, h, card_inside x n c e l))) (λ l. l)))
        (λ d. absurd (omega (arith, h, refused_before x n c d, plan_refusal_most ps)))

written_read : (bs : List ℕ) → (file_refusal bs).number ≡ 0 → (plan_refusal (plan_bytes (file_wiring bs)) ≡ 0) × (plan_wiring (plan_bytes (file_wiring bs)) ≡ file_wiring bs)
written_read bs h =
    let c = file_clear bs h in
    let z = c.0 in
    let n = wiring_at_cards 4 bs in
    plan_read (file_wiring bs) (wiring_accepted (file_wiring bs) (omega (arith, z.some)) c.1) (omega (arith, z.cards))
    (omega (arith, z.links, wiring_at_count 4 bs)) c.1

pub read_exactly : ReadExactly
unfolding ReadExactly
read_exactly = (read_file, written_read)

-- THE TWO CALLS: the used part of what the writer leaves is the plan
module _ (bs output output_now : List ℕ) (a : Answer) (says : WriteSays bs a output output_now) where
  used_part : a.number ≡ 0 → take a.value output_now ≡ plan_bytes (file_wiring bs)
  unfolding left_in
  used_part z =
      let plan = plan_bytes (file_wiring bs) in
      let v : a.value ≡ length plan = says.answer.value ∙ rw (eq-eqb (writing_refusal bs (length output)).number 0 (sym says.answer.number ∙ z)) refl in
      ap (take a.value) (says.output_left ∙ rw z refl) ∙ take_at plan (replicate (length output - length plan) 0) a.value (sym v)

  writer_clear : a.number ≡ 0 → (file_refusal bs).number ≡ 0
  unfolding writing_refusal
  writer_clear z =
      by_bool (eqb (length output) lent_plan)
      (λ (t : eqb (length output) lent_plan ≡ true). rw t at (sym says.answer.number ∙ z))
      (λ (t : eqb (length output) lent_plan ≡ false). let e = rw t at (sym says.answer.number ∙ z) in absurd (omega arith))

  clear_writer : length output ≡ lent_plan → (file_refusal bs).number ≡ 0 → a.number ≡ 0
  unfolding writing_refusal
  clear_writer room h = says.answer.number ∙ rw (eq-eqb (length output) lent_plan room) h

pub calls_agree : CallsAgree
unfolding CallsAgree
calls_agree = (read_what_is_written, write_what_is_read)
  where
    read_what_is_written : (bs output output_now : List ℕ) (a : Answer) (s : Sizes) → WriteSays bs a output output_now → a.number ≡ 0
        → ReadSays (take a.value output_now) s → (s.number ≡ 0) × (plan_wiring (take a.value output_now) ≡ file_wiring bs)
    read_what_is_written bs output output_now a s says z reads =
        let e = used_part bs output output_now a says z in
        let r = written_read bs (writer_clear bs output output_now a says z) in
        (reads.number ∙ ap plan_refusal e ∙ r.0, ap plan_wiring e ∙ r.1)

    write_what_is_read : (ps output output_now : List ℕ) (a : Answer) (s : Sizes) → ReadSays ps s → s.number ≡ 0 → length output ≡ lent_plan
        → WriteSays (file_bytes (plan_wiring ps)) a output output_now → (a.number ≡ 0) × (take a.value output_now ≡ ps)
    write_what_is_read ps output output_now a s reads e room says =
        let r = read_file ps (sym reads.number ∙ e) in
        let z = clear_writer (file_bytes (plan_wiring ps)) output output_now a says room r.0 in
        (z, used_part (file_bytes (plan_wiring ps)) output output_now a says z ∙ ap plan_bytes r.1 ∙ r.2)
