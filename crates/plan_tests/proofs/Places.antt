-- Bytes of addresses, in a plan's bytes and handed out, and their bits. Assumes nothing.
use mathlib.Core.Path.{◌≡◌, refl, sym, ap, ◌∙◌}
use mathlib.Core.List.{List}
use Prim.Native.Nat.{ℕ, ◌+◌, ◌*◌, ◌/◌, ◌%◌, ◌<◌}
use native.Mathlib.Omega.{arith}
use lib.ListN.{get_or, drop}
use lib.Seq.{get_or-take, get_or-drop}
use Rattle.std.specs.Borrow.{Bor}
use Rattle.rack.specs.Bits.{number_bit}
use Rattle.rack.specs.PlanFile.{AddressIs, bit_from, plan_bit, plan_columns, address_size, address_start}
use Rattle.rack.proofs.PlanFile.{address_bit}

-- a byte's bits in a row of bytes, and in a card's address
bit_of_byte : (ps : List ℕ) (at t i : ℕ) → i < 8 → bit_from ps at (8 * t + i) ≡ number_bit (get_or ps (at + t) 0) i
unfolding bit_from
bit_of_byte ps at t i h =
    let e : (8 * t + i) / 8 ≡ t = omega arith in
    let f : (8 * t + i) % 8 ≡ i = omega arith in
    rw (e, f) refl

pub byte_bit : (ps : List ℕ) (c at t i : ℕ) → at ≡ address_start ps c → i < 8 → plan_bit ps c (8 * t + i) ≡ number_bit (get_or ps (at + t) 0) i
byte_bit ps c at t i e h = sym (address_bit ps c at (8 * t + i) e) ∙ bit_of_byte ps at t i h

-- the same of an address that was handed out
pub address_byte : (ps r : Bor (List ℕ)) (c t i : ℕ) → AddressIs ps c r → t < address_size (plan_columns ps.now) → i < 8
    → plan_bit ps.now c (8 * t + i) ≡ number_bit (get_or r.now t 0) i
address_byte ps r c t i a h l =
    let start = address_start ps.now c in
    byte_bit ps.now c start t i refl l
    ∙ ap (λ (x : ℕ). number_bit x i) (sym (ap (λ (bs : List ℕ). get_or bs t 0) a.part.bytes
    ∙ get_or-take (address_size (plan_columns ps.now)) (drop start ps.now) t 0 h ∙ get_or-drop start ps.now t 0))
