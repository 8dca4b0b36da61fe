-- The lowest place in which two rows of bits differ. Assumes nothing.
use mathlib.Core.Path.{◌≡◌, ap₂}
use mathlib.Core.Bool.{Bool, true}
use Prim.Native.Nat.{ℕ, ◌≤◌, ◌<◌}
use native.Mathlib.Omega.{arith}
use Rattle.rack.specs.Lists.{differ, range}
use Rattle.rack.specs.Columns.{hamming}
use Rattle.rack.proofs.Logic.{differ_false, differ_self}
use Rattle.rack.proofs.Lists.{count_none}
use Rattle.rack.proofs.Tables.{in_range, lowest_le, lowest_passes, lowest_first, lowest_is, lowest_ext}
use Rattle.rack.proofs.Hamming.{hamming_same}
use Rattle.crossing.specs.Differing.{lowest_differing}
use Rattle.crossing.specs.Promises.{LowestDiffering}

module _ (k : ℕ) (x y : ℕ → Bool) where
  -- a search that found none below j, and ended at k or at a place that differs
  pub differing_ended : (j : ℕ) → j ≤ k → ((i : ℕ) → i < j → x i ≡ y i) → (j < k → differ (x j) (y j) ≡ true) → lowest_differing k x y ≡ j
  unfolding lowest_differing
  differing_ended j h before d = lowest_is k (λ j. differ (x j) (y j)) j h (λ i l. rw (before i l) (differ_self (y i))) d

  pub differing_within : lowest_differing k x y ≤ k
  unfolding lowest_differing
  differing_within = lowest_le k (λ j. differ (x j) (y j))

  pub agree_below : (i : ℕ) → i < lowest_differing k x y → x i ≡ y i
  unfolding lowest_differing
  agree_below i h = differ_false (x i) (y i) (lowest_first k (λ j. differ (x j) (y j)) i h)

  differing_none : lowest_differing k x y ≡ k → hamming k x y ≡ 0
  differing_none e = hamming_same k x y (λ j h. agree_below j (omega arith))

  none_differing : hamming k x y ≡ 0 → lowest_differing k x y ≡ k
  unfolding hamming
  none_differing e =
      differing_ended k (omega arith) (λ i h. differ_false (x i) (y i) (count_none (λ j. differ (x j) (y j)) (range k) e i (in_range k i h)))
      (λ h. absurd (omega arith))

  at_differing : (j : ℕ) → j < k → lowest_differing k x y ≡ j → (differ (x j) (y j) ≡ true) × ((i : ℕ) → i < j → x i ≡ y i)
  unfolding lowest_differing
  at_differing j h e = (rw e at (lowest_passes k (λ j. differ (x j) (y j)) (omega arith)), λ i l. agree_below i (omega arith))

pub differing_ext : (k : ℕ) (x y u v : ℕ → Bool) → ((j : ℕ) → j < k → x j ≡ u j) → ((j : ℕ) → j < k → y j ≡ v j)
    → lowest_differing k x y ≡ lowest_differing k u v
unfolding lowest_differing
differing_ext k x y u v f g = lowest_ext k (λ j. differ (x j) (y j)) (λ j. differ (u j) (v j)) (λ j h. ap₂ differ (f j h) (g j h))

pub differing_lowest : LowestDiffering
unfolding LowestDiffering
differing_lowest k x y = (
  (differing_none k x y, none_differing k x y),
  λ j h. (at_differing k x y j h, λ f. differing_ended k x y j (omega arith) f.1 (λ l. f.0)),
)
