-- A plan that was read, by its parts: the ends of the links and the bytes of the addresses are those of the wiring inside; and what is known of
-- its sizes. Assumes nothing.
use Rattle.std.specs.Prelude.{Ok}
use mathlib.Core.Path.{◌≡◌, refl, sym, ap, ◌∙◌}
use mathlib.Core.Bool.{Bool}
use mathlib.Core.List.{List, ◌++◌, append_assoc}
use Prim.Native.Nat.{ℕ, ◌+◌, ◌*◌, ◌-◌, ◌≤◌, ◌<◌}
use native.Mathlib.Omega.{arith}
use lib.ListN.{length, take, length-append}
use lib.Seq.{take_at, drop_at}
use Rattle.rack.specs.Lists.{blocks}
use Rattle.rack.specs.Bits.{bits_value}
use Rattle.rack.specs.Buffers.{two_bytes}
use Rattle.rack.specs.Wiring.{Link, Wiring, link, link_count, link_at}
use Rattle.rack.specs.WiringFile.{end_bytes}
use Rattle.rack.specs.Columns.{column_count, address}
use Rattle.rack.specs.PlanFile.{plan_links, plan_columns, plan_wiring, address_size}
use Rattle.rack.proofs.Logic.{by_lt}
use Rattle.rack.proofs.Lists.{in_get_or}
use Rattle.rack.proofs.Tables.{tabulate_ext, length_blocks, blocks_add}
use Rattle.rack.proofs.Bits.{bits_value_few}
use Rattle.rack.proofs.Columns.{past_columns}
use Rattle.rack.proofs.Paths.{link_joins}
use Rattle.rack.proofs.Crossing.{crossing}
use Rattle.rack.proofs.Accepted.{Accepted}
use Rattle.rack.proofs.WiringFile.{length_two_bytes, wiring_at_cards, wiring_at_count}
use Rattle.planner.specs.PlanBytes.{address_bytes, plan_bytes}
use Rattle.reader.specs.Plan.{plan_refusal}
use Rattle.rack.specs.declared.views.Plan.{Plan}
use Rattle.reader.specs.Reading.{sizes_of}
use Rattle.reader.proofs.Plan.{plan_clear}
use Rattle.reader.proofs.Promises.{read_accepted, read_byte, read_columns}
use Rattle.plan_totals.specs.Summed.{ReadWithTotalSays}
use Rattle.plan_totals.proofs.Refusals.{total_clear}
use Rattle.plan_totals.proofs.Answers.{total_laid_out}
use Rattle.plan_parts.specs.Parts.{part, first_ends, second_ends, row_byte, row}
use Rattle.plan_parts.proofs.AddressRows.{row_byte_below, row_byte_behind}
use Rattle.plan_changer.specs.Changed.{Known}

-- THE ENDS of the first i links, first ends or second ends
abbrev pub ends : (Link → ℕ) → Wiring → (i : ℕ) → List ℕ
ends end w i = blocks i (λ j. two_bytes (end (link_at w j)))

abbrev pub first : Link → ℕ
first l = l.first

abbrev pub second : Link → ℕ
second l = l.second

module _ (end : Link → ℕ) (w : Wiring) where
  length_ends : (i : ℕ) → length (ends end w i) ≡ 2 * i
  length_ends i = omega (arith, length_blocks i 2 (λ j. two_bytes (end (link_at w j))) (λ j. length_two_bytes (end (link_at w j))))

  -- where they stand in joined bytes
  part_ends : (before behind : List ℕ) (start i : ℕ) → length before ≡ start → i ≤ link_count w
      → part (before ++ (ends end w (link_count w) ++ behind)) start (2 * i) ≡ ends end w i
  part_ends before behind start i e h =
      let more = link_count w - i in
      let later = blocks more (λ j. two_bytes (end (link_at w (i + j)))) in
      let count : link_count w ≡ i + more = omega arith in
      ap (take (2 * i))
      (drop_at before (ends end w (link_count w) ++ behind) start e
      ∙ ap (λ (all : List ℕ). all ++ behind) (ap (ends end w) count ∙ blocks_add i more (λ j. two_bytes (end (link_at w j))))
      ∙ append_assoc (ends end w i) later behind)
      ∙ take_at (ends end w i) (later ++ behind) (2 * i) (length_ends i)

-- THE ADDRESSES: byte t of a row of bits, and so many cards' addresses of so many columns
abbrev pub byte_of : (row : ℕ → Bool) → (t : ℕ) → ℕ
byte_of row t = bits_value 8 (λ i. row (8 * t + i))

abbrev pub rows : Wiring → (cards columns : ℕ) → List ℕ
rows w cards columns = blocks cards (λ a. address_bytes columns (address w a))

-- A PLAN THAT WAS READ
module _ (ps : List ℕ) (h : plan_refusal ps ≡ 0) where
  abbrev w : Wiring
  w = plan_wiring ps

  abbrev m : ℕ
  m = link_count w

  abbrev head : List ℕ
  head = two_bytes w.cards ++ two_bytes m ++ two_bytes (column_count w)

  abbrev addresses : List ℕ
  addresses = rows w w.cards (column_count w)

  parts : ps ≡ head ++ (ends first w m ++ (ends second w m ++ addresses))
  unfolding plan_bytes end_bytes
  parts = sym (plan_clear ps h).2 ∙ simp append_assoc

  length_head : length head ≡ 6
  length_head = simp length-append (omega (arith, length_two_bytes w.cards, length_two_bytes m, length_two_bytes (column_count w)))

  pub read_first_ends : (i : ℕ) → i ≤ m → first_ends ps i ≡ ends first w i
  read_first_ends i l =
      ap (λ (qs : List ℕ). part qs 6 (2 * i)) parts ∙ part_ends first w head (ends second w m ++ addresses) 6 i length_head l

  pub read_second_ends : (i : ℕ) → i ≤ m → second_ends ps i ≡ ends second w i
  read_second_ends i l =
      let start = 6 + 2 * plan_links ps in
      ap (λ (qs : List ℕ). part qs start (2 * i)) (parts ∙ sym (append_assoc head (ends first w m) (ends second w m ++ addresses)))
      ∙ part_ends second w (head ++ ends first w m) addresses start i
      (omega (arith, length-append head (ends first w m), length_head, length_ends first w m, wiring_at_count 6 ps)) l

  -- card a's address, with 0 behind its last column and its last byte
  module _ (a : ℕ) (inside : a < w.cards) where
    pub read_row_byte : (t : ℕ) → row_byte ps a t ≡ byte_of (address w a) t
    unfolding address_size
    read_row_byte t = by_lt t (address_size (plan_columns ps)) below behind
      where
        below : t < address_size (plan_columns ps) → row_byte ps a t ≡ byte_of (address w a) t
        below l = row_byte_below ps a t l ∙ read_byte ps h a t inside l

        behind : address_size (plan_columns ps) ≤ t → row_byte ps a t ≡ byte_of (address w a) t
        behind l =
            let none = bits_value_few 8 (λ i. address w a (8 * t + i)) 0 (λ j z. past_columns w a (8 * t + j) (omega (arith, read_columns ps h))) in
            row_byte_behind ps a t l ∙ omega arith

    pub read_row : (k : ℕ) → row ps k a ≡ address_bytes k (address w a)
    unfolding address_bytes
    read_row k = tabulate_ext (address_size k) (row_byte ps a) (byte_of (address w a)) (λ t l. read_row_byte t)

-- ITS SIZES: there is a column where there is a link, which crosses one
link_crosses : (w : Wiring) → Accepted w → 0 < link_count w → 0 < column_count w
link_crosses w a some =
    let l = link_at w 0 in
    let x = crossing w (column_count w) (address w) a.embedding a.rack l.first l.second
    (link_joins w l (in_get_or w.links 0 (link 0 0) some)) in
    omega (arith, x.inside)

pub read_known : (ps : List ℕ) (t : ℕ) (p : Plan) → ReadWithTotalSays ps t (sizes_of (Ok p)) → Known p
read_known ps t p says =
    let h = (total_clear ps t (sym says.number)).0 in
    let a = read_accepted ps h in
    let laid = total_laid_out ps t (sizes_of (Ok p)) says refl in
    record {
      few = omega (arith, a.few, laid.columns, laid.cards, read_columns ps h, wiring_at_cards 6 ps);
      crossed = λ some. omega (arith, link_crosses (plan_wiring ps) a (omega (arith, laid.links, wiring_at_count 6 ps)), laid.columns, read_columns ps h);
    }
