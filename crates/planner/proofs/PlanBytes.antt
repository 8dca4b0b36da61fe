-- The plan bytes of a wiring by their places: sizes, the wiring, and the bits of the addresses. Assumes nothing.
use mathlib.Core.Path.{◌≡◌, refl, sym, ap, ◌∙◌}
use mathlib.Core.Bool.{Bool}
use mathlib.Core.List.{List, ◌++◌}
use Prim.Native.Nat.{ℕ, ◌+◌, ◌*◌, ◌/◌, ◌%◌, ◌<◌}
use native.Mathlib.Nat.{suc-mul, mul-le-mul_right}
use native.Mathlib.Omega.{arith}
use lib.ListN.{length, get_or, length-append, get_or-append}
use lib.Seq.{get_or-append-add}
use Rattle.rack.specs.Lists.{blocks}
use Rattle.rack.specs.Bits.{number_bit, bits_value}
use Rattle.rack.specs.Wiring.{Wiring, link_count}
use Rattle.rack.specs.Buffers.{number_at, two_bytes}
use Rattle.rack.specs.WiringFile.{end_bytes, wiring_at}
use Rattle.rack.specs.Columns.{column_count, address}
use Rattle.rack.proofs.Tables.{length_tabulate, get_or_tabulate, length_blocks, get_or_blocks}
use Rattle.rack.proofs.WiringFile.{Fits, length_two_bytes, two_bytes_value, length_end_bytes, wiring_at_written, number_at_left}
use Rattle.rack.specs.PlanFile.{address_size, plan_links, plan_columns, bit_from, plan_bit}
use Rattle.planner.specs.PlanBytes.{address_bytes, plan_bytes}
use Rattle.rack.proofs.Bits.{bits_value_number}

-- ADDRESSES
pub bit_inside : (k j : ℕ) → j < k → j / 8 < address_size k
unfolding address_size
bit_inside k j h = omega arith

pub length_address_bytes : (k : ℕ) (row : ℕ → Bool) → length (address_bytes k row) ≡ address_size k
unfolding address_bytes
length_address_bytes k row = length_tabulate (address_size k) _

pub address_byte : (k : ℕ) (row : ℕ → Bool) (t : ℕ) → t < address_size k → get_or (address_bytes k row) t 0 ≡ bits_value 8 (λ i. row (8 * t + i))
unfolding address_bytes
address_byte k row t h = get_or_tabulate (address_size k) _ t 0 h

-- THE PLAN of a wiring
module _ (w : Wiring) where
  abbrev head : List ℕ
  head = two_bytes w.cards ++ two_bytes (link_count w) ++ two_bytes (column_count w)

  abbrev addresses : List ℕ
  addresses = blocks w.cards (λ c. address_bytes (column_count w) (address w c))

  length_addresses : length addresses ≡ w.cards * address_size (column_count w)
  length_addresses = length_blocks w.cards (address_size (column_count w)) _ (λ c. length_address_bytes (column_count w) (address w c))

  pub length_plan : length (plan_bytes w) ≡ 6 + 4 * link_count w + w.cards * address_size (column_count w)
  unfolding plan_bytes
  length_plan =
      simp length-append
      (omega (arith, length_two_bytes w.cards, length_two_bytes (link_count w), length_two_bytes (column_count w), length_end_bytes w, length_addresses))

  pub written_cards : w.cards < 65536 → number_at (plan_bytes w) 0 ≡ w.cards
  unfolding plan_bytes number_at two_bytes
  written_cards h = two_bytes_value w.cards h

  pub written_links : link_count w < 65536 → number_at (plan_bytes w) 2 ≡ link_count w
  unfolding plan_bytes number_at two_bytes
  written_links h = two_bytes_value (link_count w) h

  pub written_columns : column_count w < 65536 → number_at (plan_bytes w) 4 ≡ column_count w
  unfolding plan_bytes number_at two_bytes
  written_columns h = two_bytes_value (column_count w) h

  pub written_wiring : Fits w → wiring_at 6 (plan_bytes w) ≡ w
  unfolding plan_bytes
  written_wiring f =
      wiring_at_written w f head addresses 6 (simp (length-append, length_two_bytes)) (written_cards f.cards) (written_links f.count)

  pub written_byte : (c t : ℕ) → c < w.cards → t < address_size (column_count w)
      → get_or (plan_bytes w) (6 + 4 * link_count w + c * address_size (column_count w) + t) 0 ≡ bits_value 8 (λ i. address w c (8 * t + i))
  unfolding plan_bytes
  written_byte c t hc ht =
      let e : 6 + 4 * link_count w + c * address_size (column_count w) + t ≡ length (head ++ end_bytes w) + (c * address_size (column_count w) + t) =
      simp length-append (omega (arith, length_two_bytes w.cards, length_two_bytes (link_count w), length_two_bytes (column_count w), length_end_bytes w)) in
      rw e
      (get_or-append-add (head ++ end_bytes w) addresses (c * address_size (column_count w) + t) 0
      ∙ get_or_blocks w.cards (address_size (column_count w)) _ (λ c. length_address_bytes (column_count w) (address w c)) c t 0 hc ht
      ∙ address_byte (column_count w) (address w c) t ht)

  module _ (links_fit : link_count w < 65536) (columns_fit : column_count w < 65536) where
    -- its bits are the addresses', in any byte of an address
    pub written_byte_bit : (c j : ℕ) → c < w.cards → j / 8 < address_size (column_count w) → plan_bit (plan_bytes w) c j ≡ address w c j
    unfolding bit_from plan_bit
    written_byte_bit c j hc hj =
        let e : 8 * (j / 8) + j % 8 ≡ j = omega arith in
        rw (
          written_links links_fit,
          written_columns columns_fit,
          written_byte c (j / 8) hc hj,
          bits_value_number 8 (λ i. address w c (8 * (j / 8) + i)) (j % 8) (omega arith),
          e,
        )
        refl

    pub written_bit : (c j : ℕ) → c < w.cards → j < column_count w → plan_bit (plan_bytes w) c j ≡ address w c j
    written_bit c j hc hj = written_byte_bit c j hc (bit_inside (column_count w) j hj)

    -- and so they are with more bytes behind it
    module _ (rest : List ℕ) where
      pub columns_in_front : plan_columns (plan_bytes w ++ rest) ≡ column_count w
      columns_in_front = number_at_left (plan_bytes w) rest 4 (omega (arith, length_plan)) ∙ written_columns columns_fit

      links_in_front : plan_links (plan_bytes w ++ rest) ≡ link_count w
      links_in_front = number_at_left (plan_bytes w) rest 2 (omega (arith, length_plan)) ∙ written_links links_fit

      pub bit_in_front : (c j : ℕ) → c < w.cards → j < column_count w → plan_bit (plan_bytes w ++ rest) c j ≡ address w c j
      unfolding bit_from plan_bit
      bit_in_front c j hc hj =
          let size = address_size (column_count w) in
          let at = 6 + 4 * link_count w + c * size + j / 8 in
          let l : at < length (plan_bytes w) =
          omega (arith, length_plan, bit_inside (column_count w) j hj, suc-mul c size, mul-le-mul_right size hc) in
          rw (links_in_front, columns_in_front) (ap (λ (x : ℕ). number_bit x (j % 8)) (get_or-append (plan_bytes w) rest 0 at l)
          ∙ sym (rw (written_links links_fit, written_columns columns_fit) refl) ∙ written_bit c j hc hj)
