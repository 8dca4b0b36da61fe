-- The column that a link crosses: the same from both ends, and over it a card that differs there is nearer by one. Assumes nothing.
use mathlib.Core.Path.{◌≡◌, ap, ◌∙◌}
use mathlib.Core.Bool.{Bool, true}
use mathlib.Core.Logic.{inl, inr}
use Prim.Native.Nat.{ℕ, suc}
use native.Mathlib.Omega.{arith}
use Rattle.rack.specs.Lists.{differ, range}
use Rattle.rack.specs.Wiring.{Link}
use Rattle.rack.specs.Columns.{hamming}
use Rattle.rack.proofs.Logic.{differ_sym, differ_false}
use Rattle.rack.proofs.Lists.{count_more}
use Rattle.rack.proofs.Tables.{in_range, range_in, distinct_range}
use Rattle.rack.proofs.Paths.{Ends}
use Rattle.rack.proofs.Crossing.{Crossing, crossing_back, third_bit}
use Rattle.plan_tests.specs.Tests.{crossed}
use Rattle.plan_tests.proofs.OneColumn.{lowest_crossing}

module _ (k : ℕ) (r : ℕ → ℕ → Bool) where
  pub crossed_at : (l : Link) (x : Crossing k r l.first l.second) → crossed k r l ≡ x.at
  unfolding crossed
  crossed_at l x = lowest_crossing k r l.first l.second k (omega arith) x

  pub ends_crossed : (a c : ℕ) (l : Link) → Ends a c l → Crossing k r l.first l.second → (x : Crossing k r a c) × (crossed k r l ≡ x.at)
  ends_crossed a c l (inl e) x = rw (← e.0, ← e.1) (x, crossed_at l x)
  ends_crossed a c l (inr e) x = rw (← e.1, ← e.0) (crossing_back x, crossed_at l x)

  pub crossing_nearer : (p q b : ℕ) (x : Crossing k r p q) → differ (r p x.at) (r b x.at) ≡ true
      → hamming k (r p) (r b) ≡ suc (hamming k (r q) (r b))
  unfolding hamming
  crossing_nearer p q b x h =
      let j = x.at in
      count_more (λ j. differ (r p j) (r b j)) (λ j. differ (r q j) (r b j)) j (range k) (distinct_range k) (in_range k j x.inside)
      h (differ_sym (r q j) (r b j) ∙ third_bit (r b j) (r p j) (r q j) x.split (differ_sym (r b j) (r p j) ∙ h))
      (λ j i n. ap (λ (y : Bool). differ y (r b j)) (differ_false (r p j) (r q j) (x.others j (range_in k j i) n)))
