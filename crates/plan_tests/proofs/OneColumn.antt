-- Two rows that differ in one place: the lowest in which they differ is that place. Assumes nothing.
use mathlib.Core.Path.{◌≡◌, refl, sym, ◌∙◌}
use mathlib.Core.Bool.{Bool}
use mathlib.Core.Logic.{◌≢◌}
use Rattle.std.specs.Prelude.{Option, None, Some}
use Prim.Native.Nat.{ℕ, ◌≤◌, ◌<◌}
use native.Mathlib.Omega.{arith}
use borrow.Author.Tests.{eq-eqb, ne_eqb}
use Rattle.rack.specs.Lists.{differ, lowest, FoundBelow}
use Rattle.rack.specs.Columns.{hamming}
use Rattle.rack.proofs.Tables.{lowest_is}
use Rattle.rack.proofs.Crossing.{Crossing, one_crossing}
use Rattle.plan_tests.specs.Tests.{lowest_apart}
use Rattle.plan_tests.specs.Crossed.{only_apart}

module _ (k : ℕ) (r : ℕ → ℕ → Bool) (p q : ℕ) where
  -- the place that is crossed is the lowest, also among more places than k
  pub lowest_crossing : (l : ℕ) → k ≤ l → (x : Crossing k r p q) → lowest_apart l (r p) (r q) ≡ x.at
  unfolding lowest_apart
  lowest_crossing l more x =
      lowest_is l (λ j. differ (r p j) (r q j)) x.at (omega (arith, x.inside))
      (λ j h. x.others j (omega (arith, x.inside)) (λ e. omega arith)) (λ h. x.split)

  pub only_one : hamming k (r p) (r q) ≡ 1 → (only_apart k (r p) (r q) ≡ lowest_apart k (r p) (r q)) × (lowest_apart k (r p) (r q) < k)
  unfolding only_apart
  only_one h =
      let x = one_crossing k r p q h in (
        rw (eq-eqb (hamming k (r p) (r q)) 1 h) refl,
        omega (arith, lowest_crossing k (omega arith) x, x.inside),
      )

  pub only_none : hamming k (r p) (r q) ≢ 1 → only_apart k (r p) (r q) ≡ k
  unfolding only_apart
  only_none h = rw (ne_eqb (hamming k (r p) (r q)) 1 h) refl

  -- as a search gives it
  lowest_only : hamming k (r p) (r q) ≡ 1
      → (lowest k (λ j. differ (r p j) (r q j)) ≡ only_apart k (r p) (r q)) × (only_apart k (r p) (r q) < k)
  unfolding lowest_apart
  lowest_only h =
      let one = only_one h in
      (sym one.0, omega (arith, one.0, one.1))

  pub found_only : hamming k (r p) (r q) ≡ 1 → (o : Option ℕ) → FoundBelow k (lowest k (λ j. differ (r p j) (r q j))) o → FoundBelow k (only_apart k (r p) (r q)) o
  found_only h None e = absurd (omega (arith, e, (lowest_only h).0, (lowest_only h).1))
  found_only h (Some i) f = (f.0 ∙ (lowest_only h).0, f.1)
