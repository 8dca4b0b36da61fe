-- The sum of hops as one over pairs, with one card more on a last link, and how large it can be. Assumes nothing.
use mathlib.Core.Path.{◌≡◌, refl, ap, ◌∙◌}
use mathlib.Core.Bool.{true}
use Prim.Native.Nat.{ℕ, ◌+◌, ◌≤◌}
use native.Mathlib.Omega.{arith}
use Rattle.rack.specs.Lists.{sum, tabulate}
use Rattle.rack.specs.Wiring.{Wiring}
use Rattle.rack.specs.Hops.{hops, connected}
use Rattle.rack.proofs.Sums.{sum_suc, sum_ext, sum_add, sum_same, sum_le}
use Rattle.rack.proofs.Hops.{hops_le, hops_self}
use Rattle.pendant.proofs.Hops.{Pendant, hops_old, hops_from_new}
use Rattle.totals.specs.Totals.{hops_to, total_hops}
use Rattle.totals.proofs.Pairs.{pairs, pairs_ext}

pub total_pairs : (w : Wiring) → total_hops w ≡ pairs w.cards (hops w)
unfolding total_hops hops_to
total_pairs w = refl

-- ONE CARD MORE
module _ {w : Wiring} {c : ℕ} {v : Wiring} (pd : Pendant w c v) (whole : connected w ≡ true) where
  abbrev n : ℕ
  n = w.cards

  -- the new card's hops, itself with 0
  hops_with_self : hops_to v v.cards n ≡ hops_to v n n
  unfolding hops_to
  hops_with_self =
      ap (λ (m : ℕ). sum (tabulate m (hops v n))) pd.cards ∙ omega (arith, sum_suc n (hops v n), hops_self v n)

  pub hops_to_last : hops_to v v.cards n ≡ n + hops_to w n c
  unfolding hops_to
  hops_to_last =
      hops_with_self
      ∙ sum_ext n (hops v n) (λ b. 1 + hops w c b) (λ b h. hops_from_new pd whole b h ∙ omega arith)
      ∙ sum_add n (λ b. 1) (hops w c) ∙ omega (arith, sum_same n 1)

  pub total_last : total_hops v ≡ total_hops w + hops_to v v.cards n
  unfolding hops_to
  total_last =
      total_pairs v ∙ ap (λ (m : ℕ). pairs m (hops v)) pd.cards
      ∙ omega (
        arith,
        total_pairs w,
        sum_suc n (λ a. sum (tabulate a (hops v a))),
        pairs_ext n (hops v) (hops w) (λ a b i j. hops_old pd whole a b i (omega arith)),
        hops_with_self,
      )

  pub total_pendant : total_hops v ≡ total_hops w + w.cards + hops_to w w.cards c
  total_pendant = omega (arith, total_last, hops_to_last)

-- HOW LARGE
pub hops_to_fits : (w : Wiring) (m a : ℕ) → m ≤ 256 → w.cards ≤ 256 → hops_to w m a ≤ 65536
unfolding hops_to
hops_to_fits w m a few cards = omega (arith, sum_le m 256 (hops w a) (λ b h. let k = hops_le w a b in omega arith))

pub total_hops_fits : (w : Wiring) → w.cards ≤ 256 → total_hops w ≤ 16777216
unfolding hops_to
total_hops_fits w h =
    omega (arith, total_pairs w, sum_le w.cards 65536 (λ a. hops_to w a a) (λ a l. hops_to_fits w a a (omega arith) h))
