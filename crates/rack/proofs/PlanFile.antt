-- Where the addresses stand in a plan file, as the code counts it, and their bits. Assumes nothing.
use mathlib.Core.Path.{◌≡◌, refl, ap, ◌∙◌}
use mathlib.Core.List.{List}
use Prim.Native.Nat.{ℕ, ◌+◌, ◌*◌, ◌-◌, ◌/◌, ◌%◌, ◌≤◌, ◌<◌}
use native.Mathlib.Nat.{add-sub_cancel_left, mul-le-mul_right}
use native.Mathlib.Omega.{arith}
use lib.ListN.{length, get_or, take, drop}
use lib.Seq.{get_or-take, get_or-drop, length-take-le}
use Rattle.std.proofs.lemmas.List.{length-drop}
use Rattle.rack.specs.Bits.{number_bit}
use Rattle.rack.specs.PlanFile.{AddressIs, Sized, address_size, address_start, addresses_start, bit_from, plan_bit}

pub address_size_is : (k : ℕ) → address_size k ≡ (k + 7) / 8
unfolding address_size
address_size_is k = refl

pub start_counted : (m k c size start : ℕ) → size ≡ address_size k → start ≡ addresses_start m + c * size → start ≡ addresses_start m + c * address_size k
start_counted m k c size start e f = f ∙ ap (λ (s : ℕ). addresses_start m + c * s) e

-- where the code counts that the address of card c begins, it does, and it ends inside the plan
pub address_counted : (ps : List ℕ) (n m k : ℕ) → Sized ps n m k → (c start : ℕ) → c < n → start ≡ addresses_start m + c * address_size k
    → (start ≡ address_start ps c) × (start + address_size k ≤ length ps)
address_counted ps n m k z c start h e =
    let g : (c + 1) * address_size k ≤ n * address_size k = mul-le-mul_right (address_size k) (omega arith) in
    (e ∙ rw (z.links, z.columns) refl, omega (arith, z.long))

-- a bit from where an address begins is a bit of that card
pub address_bit : (ps : List ℕ) (c at j : ℕ) → at ≡ address_start ps c → bit_from ps at j ≡ plan_bit ps c j
unfolding plan_bit
address_bit ps c at j e = ap (λ (x : ℕ). bit_from ps x j) e

-- THE PART of a plan that is a card's address: its length and its bits
module _ (ps : List ℕ) (n m k : ℕ) (z : Sized ps n m k) (c : ℕ) (inside : c < n) where
  abbrev size : ℕ
  size = address_size k

  abbrev start : ℕ
  start = addresses_start m + c * size

  abbrev part : List ℕ
  part = take size (drop start ps)

  counted : (start ≡ address_start ps c) × (start + size ≤ length ps)
  counted = address_counted ps n m k z c start inside refl

  part_long : length part ≡ size
  part_long = length-take-le size (drop start ps) (omega (arith, length-drop start ps, counted.1))

  part_bit : (j : ℕ) → j < k → bit_from part 0 j ≡ plan_bit ps c j
  unfolding bit_from
  part_bit j h =
      ap (λ (x : ℕ). number_bit x (j % 8))
      (get_or-take size (drop start ps) (0 + j / 8) 0 (omega (arith, address_size_is k)) ∙ get_or-drop start ps (0 + j / 8) 0
      ∙ ap (λ (t : ℕ). get_or ps (start + t) 0) (omega arith))
      ∙ address_bit ps c start j counted.0

  pub address_handed : (at : ℕ × ℕ) → AddressIs (record { ref_ptr = at; now = ps }) c (record { ref_ptr = (at.0, start + at.1); now = take (start + size - start) (drop start ps) })
  address_handed at =
      rw add-sub_cancel_left
      record {
        part = record { place = ap (λ (y : ℕ). (at.0, y + at.1)) counted.0; bytes = rw (counted.0, z.columns) refl };
        long = rw (← z.columns) part_long;
        bits = λ j h. part_bit j (omega (arith, z.columns));
      }
