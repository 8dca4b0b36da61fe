-- Sums over the pairs of numbers below n: pair by pair, two added, and none. Assumes nothing.
use mathlib.Core.Path.{◌≡◌, ◌∙◌}
use Prim.Native.Nat.{ℕ, ◌+◌, ◌<◌}
use native.Mathlib.Omega.{arith}
use Rattle.rack.specs.Lists.{sum, tabulate}
use Rattle.rack.proofs.Sums.{sum_ext, sum_add, sum_same}

-- each number below n with those below it
abbrev pub pairs : (n : ℕ) → (ℕ → ℕ → ℕ) → ℕ
pairs n d = sum (tabulate n (λ a. sum (tabulate a (d a))))

pub pairs_ext : (n : ℕ) (d e : ℕ → ℕ → ℕ) → ((a b : ℕ) → a < n → b < a → d a b ≡ e a b) → pairs n d ≡ pairs n e
pairs_ext n d e h = sum_ext n _ _ (λ a i. sum_ext a (d a) (e a) (λ b j. h a b i j))

pub pairs_add : (n : ℕ) (d e : ℕ → ℕ → ℕ) → pairs n (λ a b. d a b + e a b) ≡ pairs n d + pairs n e
pairs_add n d e = sum_ext n _ _ (λ a i. sum_add a (d a) (e a)) ∙ sum_add n (λ a. sum (tabulate a (d a))) (λ a. sum (tabulate a (e a)))

pub pairs_zero : (n : ℕ) → pairs n (λ a b. 0) ≡ 0
pairs_zero n = sum_ext n _ (λ a. 0) (λ a i. sum_same a 0 ∙ omega arith) ∙ sum_same n 0 ∙ omega arith
