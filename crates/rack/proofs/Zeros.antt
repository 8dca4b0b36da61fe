-- Buffers of zeros: their length and their places. Assumes nothing.
use mathlib.Core.Path.{◌≡◌, refl, ap, ◌∙◌}
use mathlib.Core.List.{List}
use Prim.Native.Nat.{ℕ, zero, suc}
use lib.ListN.{length, get_or, replicate, length-replicate}

-- what a buffer of zeros holds
replicate_at : (n i : ℕ) → get_or (replicate {A = ℕ} n 0) i 0 ≡ 0
replicate_at zero i = refl
replicate_at (suc n) zero = refl
replicate_at (suc n) (suc i) = replicate_at n i

module _ (n : ℕ) (s : List ℕ) (zeros : s ≡ replicate n 0) where
  pub zeros_long : length s ≡ n
  zeros_long = ap length zeros ∙ length-replicate {A = ℕ} n 0

  pub zeros_at : (i : ℕ) → get_or s i 0 ≡ 0
  zeros_at i = rw zeros (replicate_at n i)
