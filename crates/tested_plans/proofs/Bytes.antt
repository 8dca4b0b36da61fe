-- A plan whose columns and bits are those of the wiring inside is the plan of that wiring. Assumes nothing.
use mathlib.Core.Path.{◌≡◌, sym, ◌∙◌}
use mathlib.Core.Bool.{true}
use mathlib.Core.List.{List}
use Prim.Native.Nat.{ℕ, ◌+◌, ◌*◌, ◌/◌, ◌%◌, ◌≤◌, ◌<◌}
use native.Mathlib.Nat.{suc-mul, mul-le-mul_right}
use native.Mathlib.Omega.{arith}
use lib.Dec.{ltb}
use lib.ListN.{length, get_or, take, drop, length-drop}
use lib.Seq.{ext_get_or, get_or-take, get_or-drop, length-take-le, take-add, take_all}
use Rattle.rack.specs.Lists.{all, tabulate, blocks}
use Rattle.rack.specs.Bits.{number_bit, bits_value}
use Rattle.rack.specs.Wiring.{Wiring}
use Rattle.rack.specs.Columns.{column_count, address}
use Rattle.rack.specs.PlanFile.{Sized, plan_cards, plan_links, plan_columns, plan_wiring, bit_from, plan_bit, address_size, address_start, addresses_start}
use Rattle.rack.proofs.Tables.{length_tabulate, get_or_tabulate, part_then, blocks_part}
use Rattle.rack.proofs.Bits.{number_value, bits_value_ext}
use Rattle.rack.proofs.WiringFile.{wiring_at_cards, wiring_at_count, byte_below, number_part, ends_part}
use Rattle.planner.specs.PlanBytes.{address_bytes, plan_bytes}

-- a table of numbers each of which stands at its place in a part
tabulate_part : (xs : List ℕ) (b q : ℕ) (f : ℕ → ℕ) → q + b ≤ length xs → ((t : ℕ) → t < b → f t ≡ get_or xs (q + t) 0) → tabulate b f ≡ take b (drop q xs)
tabulate_part xs b q f h each =
    ext_get_or 0 (tabulate b f) (take b (drop q xs)) (length_tabulate b f ∙ sym (length-take-le b (drop q xs) (simp length-drop (omega arith))))
    (λ t l. at t (omega (arith, length_tabulate b f)))
  where
    at : (t : ℕ) → t < b → get_or (tabulate b f) t 0 ≡ get_or (take b (drop q xs)) t 0
    at t l = get_or_tabulate b f t 0 l ∙ each t l ∙ sym (get_or-take b (drop q xs) t 0 l ∙ get_or-drop q xs t 0)

module _ (ps : List ℕ) (bytes : all (λ b. ltb b 256) ps ≡ true) (z : Sized ps (plan_cards ps) (plan_links ps) (plan_columns ps)) where
  abbrev w : Wiring
  w = plan_wiring ps

  abbrev size : ℕ
  size = address_size (plan_columns ps)

  abbrev start : ℕ
  start = addresses_start (plan_links ps)

  -- columns and bits as the planner has them
  module _ (count : column_count w ≡ plan_columns ps)
      (bits : (c j : ℕ) → c < w.cards → j < 8 * size → plan_bit ps c j ≡ address w c j) where
    inside : (c : ℕ) → c < w.cards → address_start ps c + size ≤ length ps
    inside c h =
        let l : c < plan_cards ps = omega (arith, wiring_at_cards 6 ps) in
        omega (arith, z.long, suc-mul c size, mul-le-mul_right size l)

    address_bit : (c t i : ℕ) → c < w.cards → t < size → i < 8 → address w c (8 * t + i) ≡ number_bit (get_or ps (address_start ps c + t) 0) i
    unfolding plan_bit bit_from
    address_bit c t i hc ht hi =
        let q : (8 * t + i) / 8 ≡ t = omega arith in
        let e : (8 * t + i) % 8 ≡ i = omega arith in
        rw (q, e) at (sym (bits c (8 * t + i) hc (omega arith)))

    address_part : (c : ℕ) → c < w.cards → address_bytes (plan_columns ps) (address w c) ≡ take size (drop (address_start ps c) ps)
    unfolding address_bytes
    address_part c h = tabulate_part ps size (address_start ps c) _ (inside c h) place
      where
        place : (t : ℕ) → t < size → bits_value 8 (λ i. address w c (8 * t + i)) ≡ get_or ps (address_start ps c + t) 0
        place t l =
            let x = get_or ps (address_start ps c + t) 0 in
            bits_value_ext 8 (λ i. address w c (8 * t + i)) (number_bit x) (λ i b. address_bit c t i h l b)
            ∙ number_value 8 x (byte_below ps bytes (address_start ps c + t))

    addresses_part : blocks w.cards (λ c. address_bytes (plan_columns ps) (address w c)) ≡ take (w.cards * size) (drop start ps)
    addresses_part = blocks_part ps w.cards size start _ address_part

    pub same_plan : plan_bytes w ≡ ps
    unfolding plan_bytes
    same_plan =
        rw (
          count,
          addresses_part,
          ends_part ps bytes 6 (omega (arith, z.long)),
          wiring_at_cards 6 ps,
          wiring_at_count 6 ps,
          number_part ps bytes 0 (omega (arith, z.long)),
          number_part ps bytes 2 (omega (arith, z.long)),
          number_part ps bytes 4 (omega (arith, z.long)),
          part_then ps 0 2 2,
          part_then ps 0 4 2,
          part_then ps 0 6 (4 * plan_links ps),
        )
        (sym (take-add start (plan_cards ps * size) ps) ∙ take_all (start + plan_cards ps * size) ps (omega (arith, z.long)))
