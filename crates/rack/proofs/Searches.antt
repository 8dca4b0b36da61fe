-- What a search over rising numbers finds is the lowest that passes. Assumes nothing.
use Rattle.std.specs.Prelude.{Option, None, Some, MatchOption}
use mathlib.Core.Path.{◌≡◌, sym}
use mathlib.Core.Bool.{Bool, true, false}
use Prim.Native.Nat.{ℕ, ◌≤◌, ◌<◌}
use native.Mathlib.Omega.{arith}
use Rattle.rack.specs.Lists.{lowest, FoundBelow}
use Rattle.rack.proofs.Logic.{by_lt}
use Rattle.rack.proofs.Tables.{lowest_is}

-- one that begins at s, where none below s passes
pub found_lowest : (s n : ℕ) (p : ℕ → Bool) (r : Option ℕ) → s ≤ n → ((j : ℕ) → j < s → p j ≡ false)
    → MatchOption r ((j : ℕ) → s ≤ j → j < n → p j ≡ false) (λ i. (s ≤ i) × (i < n) × (p i ≡ true) × ((j : ℕ) → s ≤ j → j < i → p j ≡ false))
    → FoundBelow n (lowest n p) r
found_lowest s n p None l before h =
    lowest_is n p n (omega arith) (λ j k. by_lt j s (before j) (λ g. h j (omega arith) k)) (λ k. absurd (omega arith))
found_lowest s n p (Some i) l before h =
    (sym (lowest_is n p i (omega (arith, h.1)) (λ j k. by_lt j s (before j) (λ g. h.3 j (omega arith) k)) (λ k. h.2)), h.1)
