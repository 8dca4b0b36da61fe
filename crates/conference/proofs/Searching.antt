-- The search for the lowest median: the test of a card by differing places, and the lowest that passes. Assumes nothing.
use Rattle.std.specs.Prelude.{Option, None, Some, MatchOption}
use mathlib.Core.Path.{◌≡◌, refl, sym, ap, ◌∙◌}
use mathlib.Core.Bool.{Bool, true, false, ◌&&◌, and-false}
use mathlib.Core.Logic.{◌≢◌}
use mathlib.Core.List.{List}
use Prim.Native.Nat.{ℕ, ◌+◌, ◌≤◌, ◌<◌}
use native.Mathlib.Omega.{arith}
use lib.Dec.{eqb}
use borrow.Author.Tests.{eq-eqb, ne_eqb}
use Rattle.rack.specs.PlanFile.{plan_cards, plan_wiring, plan_hamming, Sized}
use Rattle.rack.proofs.Hops.{hops_sym}
use Rattle.rack.specs.Lists.{lowest, FoundBelow}
use Rattle.rack.specs.Wiring.{Wiring}
use Rattle.rack.proofs.Searches.{found_lowest}
use Rattle.rack.proofs.WiringFile.{wiring_at_cards}
use Rattle.conference.specs.Conference.{between, median, conference}
use Rattle.conference.specs.Callers.{CallersAre}

module _ (ps : List ℕ) {n m k : ℕ} (l : Sized ps n m k) where
  -- THE TEST of card x, from the counts as they are made
  module _ {a b c ab ac bc : ℕ} (z : CallersAre ps a b c ab ac bc) (x : ℕ) (h : x < n) where
    abbrev tested : Bool
    tested = median (plan_wiring ps) a b c x

    module _ (from_a to_b to_c : ℕ) (e : from_a ≡ plan_hamming ps a x) (f : to_b ≡ plan_hamming ps x b)
        (g : to_c ≡ plan_hamming ps x c) where
      tested_counted : tested ≡ (eqb (from_a + to_b) ab && eqb (from_a + to_c) ac && eqb (to_b + to_c) bc)
      unfolding median between
      tested_counted =
          let cards = wiring_at_cards 6 ps in
          rw (
            e ∙ z.read.measured a x z.first (omega (arith, l.cards)),
            f ∙ z.read.measured x b (omega (arith, l.cards)) z.second,
            g ∙ z.read.measured x c (omega (arith, l.cards)) z.third,
            hops_sym (plan_wiring ps) b x (omega (arith, z.second)) (omega (arith, l.cards)),
            z.first_second,
            z.first_third,
            z.second_third,
          ) refl

      pub not_first_second : from_a + to_b ≢ ab → false ≡ tested
      not_first_second n = sym (tested_counted ∙ rw (ne_eqb (from_a + to_b) ab n) refl)

      pub not_first_third : from_a + to_c ≢ ac → false ≡ tested
      not_first_third n = sym (tested_counted ∙ rw (ne_eqb (from_a + to_c) ac n, and-false (eqb (from_a + to_b) ab)) refl)

      pub if_second_third : from_a + to_b ≡ ab → from_a + to_c ≡ ac → eqb (to_b + to_c) bc ≡ tested
      if_second_third i j = sym (tested_counted ∙ rw (eq-eqb (from_a + to_b) ab i, eq-eqb (from_a + to_c) ac j) refl)

  module _ (a b c : ℕ) where
    -- THE SEARCH over the cards gives the lowest that passes, or none
    found_card : (o : Option ℕ) → FoundBelow n (lowest n (median (plan_wiring ps) a b c)) o
        → MatchOption o (plan_cards ps ≤ conference (plan_wiring ps) a b c) (λ x. (x < plan_cards ps) × (x ≡ conference (plan_wiring ps) a b c))
    unfolding conference
    found_card o f = matched o f
      where
        w : Wiring
        w = plan_wiring ps

        same : lowest w.cards (median w a b c) ≡ lowest n (median w a b c)
        same = ap (λ (i : ℕ). lowest i (median w a b c)) (wiring_at_cards 6 ps ∙ sym l.cards)

        matched : (o : Option ℕ) → FoundBelow n (lowest n (median w a b c)) o → MatchOption o (plan_cards ps ≤ lowest w.cards (median w a b c)) (λ x. (x < plan_cards ps) × (x ≡ lowest w.cards (median w a b c)))
        matched None e = omega (arith, e, same, l.cards)
        matched (Some x) e = (omega (arith, e.1, l.cards), e.0 ∙ sym same)

    pub lowest_found : (o : Option ℕ)
        → MatchOption o ((j : ℕ) → 0 ≤ j → j < n → median (plan_wiring ps) a b c j ≡ false)
        (λ x. (0 ≤ x) × (x < n) × (median (plan_wiring ps) a b c x ≡ true) × ((j : ℕ) → 0 ≤ j → j < x → median (plan_wiring ps) a b c j ≡ false))
        → MatchOption o (plan_cards ps ≤ conference (plan_wiring ps) a b c) (λ x. (x < plan_cards ps) × (x ≡ conference (plan_wiring ps) a b c))
    lowest_found o h = found_card o (found_lowest 0 n (median (plan_wiring ps) a b c) o (omega arith) (λ j k. absurd (omega arith)) h)
