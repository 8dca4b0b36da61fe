-- A median of three cards has the majority's bit in each column of any embedding, so there is never a second. Assumes nothing.
use mathlib.Core.Path.{◌≡◌, sym, ◌∙◌}
use mathlib.Core.Bool.{Bool, true, false, ◌&&◌}
use Prim.Native.Nat.{ℕ, ◌+◌, ◌<◌}
use native.Mathlib.Omega.{arith}
use borrow.Author.Tests.{eqb-true}
use Rattle.rack.specs.Lists.{differ}
use Rattle.rack.specs.Wiring.{Wiring}
use Rattle.rack.specs.Hops.{hops}
use Rattle.rack.specs.Columns.{Embedding}
use Rattle.rack.proofs.Logic.{and_left, and_right, and_both}
use Rattle.rack.proofs.Hamming.{hamming_same}
use Rattle.rack.proofs.Hops.{hops_zero}
use Rattle.conference.specs.Conference.{between, median, majority}
use Rattle.conference.proofs.SharedBits.{hamming_shared, shared_majority}

-- THE THREE TESTS
module _ (w : Wiring) (a b c x : ℕ) where
  abbrev Tests : Type 0
  Tests = (between w a x b ≡ true) × (between w a x c ≡ true) × (between w b x c ≡ true)

  pub median_tests : median w a b c x ≡ true → Tests
  unfolding median
  median_tests e =
      let two = between w a x b && between w a x c in
      let h = and_left two (between w b x c) e in
      (and_left (between w a x b) (between w a x c) h, and_right (between w a x b) (between w a x c) h, and_right two (between w b x c) e)

  pub tests_median : Tests → median w a b c x ≡ true
  unfolding median
  tests_median (p, q, s) =
      and_both (between w a x b && between w a x c) (between w b x c) (and_both (between w a x b) (between w a x c) p q) s

-- THE BITS of rows that measure hops
module _ (w : Wiring) (k : ℕ) (r : ℕ → ℕ → Bool) (m : Embedding w k r) where
  between_shared : (a x b : ℕ) → a < w.cards → x < w.cards → b < w.cards → between w a x b ≡ true → (j : ℕ) → j < k
      → differ (r a j) (r b j) ≡ false → r x j ≡ r a j
  unfolding between
  between_shared a x b ha hx hb e =
      hamming_shared k (r a) (r x) (r b)
      (omega (arith, eqb-true (hops w a x + hops w x b) (hops w a b) e, m a x ha hx, m x b hx hb, m a b ha hb))

  module _ (a b c : ℕ) (ha : a < w.cards) (hb : b < w.cards) (hc : c < w.cards) where
    pub median_bits : (x : ℕ) → x < w.cards → median w a b c x ≡ true → (j : ℕ) → j < k → r x j ≡ majority (r a j) (r b j) (r c j)
    median_bits x hx e j hj =
        let t = median_tests w a b c x e in
        shared_majority (r a j) (r b j) (r c j) (r x j)
        (between_shared a x b ha hx hb t.0 j hj) (between_shared a x c ha hx hc t.1 j hj) (between_shared b x c hb hx hc t.2 j hj)

    pub median_once : (x y : ℕ) → x < w.cards → y < w.cards → median w a b c x ≡ true → median w a b c y ≡ true → x ≡ y
    median_once x y hx hy e f =
        hops_zero w x y hx
        (sym (m x y hx hy) ∙ hamming_same k (r x) (r y) (λ j hj. median_bits x hx e j hj ∙ sym (median_bits y hy f j hj)))
