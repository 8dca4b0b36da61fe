-- Zeros by bytes: a byte below 2 ^ e has no bit from e on, and a card's last byte holds its spare bits. Assumes nothing.
use mathlib.Core.Path.{◌≡◌, refl, sym, ap, ◌∙◌}
use mathlib.Core.Bool.{Bool, true, false, not}
use mathlib.Core.Logic.{◌≢◌}
use mathlib.Core.List.{List}
use Prim.Native.Nat.{ℕ, ◌+◌, ◌*◌, ◌-◌, ◌/◌, ◌%◌, ◌^◌, ◌≤◌, ◌<◌}
use native.Mathlib.Nat.{zero-div, div-eq_of_lt}
use native.Mathlib.Omega.{arith}
use lib.ListN.{length, get_or}
use Rattle.std.specs.Bool.{MatchBool}
use Rattle.std.specs.Borrow.{Bor}
use Rattle.std.specs.List.{AllWithin, HoldsAt}
use lib.Dec.{ltb}
use borrow.Author.Tests.{not-true, lt-ltb, le-ltb}
use Rattle.rack.specs.Lists.{all, range}
use Rattle.rack.specs.Bits.{number_bit}
use Rattle.rack.specs.PlanFile.{AddressIs, plan_bit, plan_columns, address_size}
use Rattle.rack.proofs.Logic.{true_not_false, not_true_false, by_bool, by_lt}
use Rattle.rack.proofs.Tables.{all_below, below_all}
use Rattle.rack.proofs.Bits.{number_bit_high, bits_value_few, number_value}
use Rattle.plan_tests.specs.Tests.{first_zero, spare_card, spare_zero}
use Rattle.plan_tests.proofs.Places.{address_byte}

-- A SMALL NUMBER has no high bits, and back
small_bits : (x e j : ℕ) → x < 2 ^ e → number_bit x (e + j) ≡ false
unfolding number_bit
small_bits x e j h =
    let q : x / 2 ^ e ≡ 0 = div-eq_of_lt h in
    let f : 0 / 2 ^ j ≡ 0 = zero-div (2 ^ j) in
    sym (number_bit_high x e j) ∙ rw (q, f) refl

bits_small : (x e : ℕ) → x < 256 → ((j : ℕ) → e ≤ j → j < 8 → number_bit x j ≡ false) → x < 2 ^ e
bits_small x e h none = rw (number_value 8 x h) at (bits_value_few 8 (number_bit x) e high)
  where
    high : (j : ℕ) → e ≤ j → number_bit x j ≡ false
    high j l =
        by_lt j 8 (none j l)
        (λ g. let f : 8 + (j - 8) ≡ j = omega arith in rw f at (small_bits x 8 (j - 8) h))

-- THE ADDRESS of a card, as it is handed out
module _ (ps r : Bor (List ℕ)) (n k c : ℕ) (columns : k ≡ plan_columns ps.now) (address : AddressIs ps c r) where
  abbrev bits : (c j : ℕ) → Bool
  bits = plan_bit ps.now

  byte : (t i : ℕ) → t < address_size k → i < 8 → bits c (8 * t + i) ≡ number_bit (get_or r.now t 0) i
  byte t i h l = address_byte ps r c t i address (rw columns at h) l

  long : length r.now ≡ address_size k
  long = rw columns address.long

  -- SPARE BITS of a card
  module _ (part : address_size k ≢ k / 8) where
    last_inside : k / 8 < address_size k
    unfolding address_size
    last_inside = omega arith

    pub last_read : k / 8 < length r.now
    last_read = omega (arith, long, last_inside)

    low_spare : get_or r.now (k / 8) 0 < 2 ^ (k % 8) → spare_card k bits c ≡ true
    unfolding address_size
    low_spare l =
        below_all (8 * address_size k - k) (λ j. not (bits c (k + j))) (λ j b.
        let e : k + j ≡ 8 * (k / 8) + (k % 8 + j) = omega arith in
        ap not (ap (bits c) e ∙ byte (k / 8) (k % 8 + j) last_inside (omega arith) ∙ small_bits (get_or r.now (k / 8) 0) (k % 8) j l))

    spare_low : get_or r.now (k / 8) 0 < 256 → spare_card k bits c ≡ true → get_or r.now (k / 8) 0 < 2 ^ (k % 8)
    unfolding address_size
    spare_low h t =
        bits_small (get_or r.now (k / 8) 0) (k % 8) h (λ j l b.
        let e : 8 * (k / 8) + j ≡ k + (j - k % 8) = omega arith in
        sym (byte (k / 8) j last_inside b) ∙ ap (bits c) e
        ∙ not-true (bits c (k + (j - k % 8))) (all_below (8 * address_size k - k) (λ j. not (bits c (k + j))) t (j - k % 8) (omega arith)))

    -- as one test of that byte
    pub spare_byte : get_or r.now (k / 8) 0 < 256 → ltb (get_or r.now (k / 8) 0) (2 ^ (k % 8)) ≡ spare_card k bits c
    spare_byte h =
        by_bool (spare_card k bits c) (λ t. lt-ltb _ _ (spare_low h t) ∙ sym t) (λ f. le-ltb _ _ (by_lt _ _ (λ l. absurd (true_not_false _ (low_spare l) f)) (λ l. l)) ∙ sym f)

  -- CARD 0
  module _ (first : c ≡ 0) where
    zero_byte : (t i : ℕ) → t < address_size k → i < 8 → get_or r.now t 0 ≡ 0 → bits c (8 * t + i) ≡ false
    unfolding number_bit
    zero_byte t i s h e =
        let none : 0 / 2 ^ i ≡ 0 = zero-div (2 ^ i) in
        rw (e, none) at (byte t i s h)

    bytes_first : ((t : ℕ) → t < address_size k → get_or r.now t 0 ≡ 0) → true ≡ first_zero k bits
    unfolding first_zero address_size
    bytes_first f =
        rw (← first) (sym (below_all k (λ j. not (bits c j)) (λ j l.
        let e : j ≡ 8 * (j / 8) + j % 8 = omega arith in
        ap not (ap (bits c) e ∙ zero_byte (j / 8) (j % 8) (omega arith) (omega arith) (f (j / 8) (omega arith))))))

    module _ (some : 0 < n) (spare : spare_zero n k bits ≡ true) where
      spare_bit : (j : ℕ) → k ≤ j → j < 8 * address_size k → bits c j ≡ false
      unfolding spare_zero
      spare_bit j low high =
          let e : k + (j - k) ≡ j = omega arith in
          rw e at (not-true (bits c (k + (j - k))) (all_below (8 * address_size k - k) (λ j. not (bits c (k + j))) (all_below n (spare_card k bits) spare c (omega arith)) (j - k) (omega arith)))

      byte_not_first : (t : ℕ) → t < address_size k → get_or r.now t 0 < 256 → get_or r.now t 0 ≢ 0 → false ≡ first_zero k bits
      unfolding first_zero
      byte_not_first t l small n₀ = rw (← first) (sym (not_true_false (all (λ j. not (bits c j)) (range k)) zero))
        where
          zero : all (λ j. not (bits c j)) (range k) ≡ true → ⊥
          zero h =
              let none : (i : ℕ) → 0 ≤ i → i < 8 → number_bit (get_or r.now t 0) i ≡ false =
              λ i g b. sym (byte t i l b) ∙ by_lt (8 * t + i) k
              (λ s. not-true (bits c (8 * t + i)) (all_below k (λ j. not (bits c j)) h (8 * t + i) s)) (λ s. spare_bit (8 * t + i) s (omega arith)) in
              n₀ (omega (arith, bits_small (get_or r.now t 0) 0 small none))

      -- what `all` answers of its bytes
      pub first_settled : (b : Bool) → MatchBool b (AllWithin (λ x. x ≡ 0) r.now 0 (length r.now)) ((t : ℕ) × (t < length r.now) × HoldsAt (λ x. (x ≢ 0) × (x < 256)) r.now t)
          → b ≡ first_zero k bits
      first_settled true h = bytes_first (λ t l. h t 0 (omega arith) (omega (arith, long)))
      first_settled false h = byte_not_first h.0 (omega (arith, long, h.1)) ((h.2 0).1) (h.2 0).0
