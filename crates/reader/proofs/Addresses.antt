-- Addresses in a plan's bytes: where they stand, and at most how many places differ. Assumes nothing.
use mathlib.Core.Path.{◌≡◌, refl, sym, ap, ◌∙◌}
use mathlib.Core.List.{List}
use Prim.Native.Nat.{ℕ, ◌+◌, ◌*◌, ◌/◌, ◌≤◌, ◌<◌}
use native.Mathlib.Nat.{mul-le-mul_right}
use native.Mathlib.Omega.{arith}
use lib.ListN.{length}
use Rattle.rack.proofs.Hamming.{hamming_le}
use Rattle.rack.specs.PlanFile.{plan_columns, plan_bit, plan_hamming, address_size, addresses_start, address_start, Sized}
use Rattle.rack.proofs.PlanFile.{address_size_is, start_counted}

module _ (ps : List ℕ) where
  pub hamming_columns : (a b : ℕ) → plan_hamming ps a b ≤ plan_columns ps
  unfolding plan_hamming
  hamming_columns a b = hamming_le (plan_columns ps) (plan_bit ps a) (plan_bit ps b)

  -- where the code counts that the address of card c begins, it does, and it ends inside the plan
  pub address_counted : {n m k : ℕ} → Sized ps n m k → (c size start : ℕ) → c < n → size ≡ address_size k → start ≡ addresses_start m + c * size
      → (start ≡ address_start ps c) × (start + size ≤ length ps) × (size ≡ (k + 7) / 8)
  address_counted {n} {m} {k} z c size start h e f =
      let g : (c + 1) * size ≤ n * size = mul-le-mul_right size (omega arith) in
      let l : n * address_size k ≡ n * size = ap (λ (x : ℕ). n * x) (sym e) in
      let place : addresses_start m + c * address_size k ≡ address_start ps c = rw (z.links, z.columns) refl in (
        start_counted m k c size start e f ∙ place,
        omega (arith, z.long),
        e ∙ address_size_is k,
      )
