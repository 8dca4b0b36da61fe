-- The tests of a plan by itself as plain facts, both ways. Assumes nothing.
use mathlib.Core.Path.{◌≡◌, refl, ap}
use mathlib.Core.Bool.{Bool, true, false, ◌&&◌, not}
use mathlib.Core.Logic.{◌≢◌, ⊎_elim}
use mathlib.Core.List.{List}
use Prim.Native.Nat.{ℕ, ◌+◌, ◌*◌, ◌-◌, ◌≤◌, ◌<◌}
use native.Mathlib.Omega.{arith}
use lib.Dec.{eqb}
use borrow.Author.Tests.{eqb-true, eq-eqb, not-true}
use Rattle.rack.specs.Lists.{all, any, range}
use Rattle.rack.specs.Wiring.{Wiring}
use Rattle.rack.specs.Refusals.{links_refusal}
use Rattle.rack.specs.PlanFile.{plan_columns, plan_wiring, plan_bit, address_size}
use Rattle.rack.proofs.Logic.{by_eq, or_cases, or_left, or_right, and_left, and_right}
use Rattle.rack.proofs.Tables.{all_below, below_all}
use Rattle.plan_tests.specs.Tests.{columns_in_order, leads, covers, cards_covered, first_zero, spare_card, spare_zero, tests_hold}

pub record Passes (ps : List ℕ) : Type 0 where
  pub links : (links_refusal (plan_wiring ps)).number ≡ 0
  pub order : columns_in_order (plan_columns ps) (plan_bit ps) 0 (plan_wiring ps).links ≡ true
  pub zero : (j : ℕ) → j < plan_columns ps → plan_bit ps 0 j ≡ false
  pub spare : (c j : ℕ) → c < (plan_wiring ps).cards → plan_columns ps ≤ j → j < 8 * address_size (plan_columns ps) → plan_bit ps c j ≡ false
  pub led : (a b : ℕ) → a < (plan_wiring ps).cards → b < (plan_wiring ps).cards → a ≢ b
      → any (leads (plan_columns ps) (plan_bit ps) a b) (plan_wiring ps).links ≡ true

module _ (ps : List ℕ) where
  abbrev w : Wiring
  w = plan_wiring ps

  abbrev k : ℕ
  k = plan_columns ps

  abbrev r : (c j : ℕ) → Bool
  r = plan_bit ps

  -- each test by itself
  zero_facts : first_zero k r ≡ true → (j : ℕ) → j < k → r 0 j ≡ false
  unfolding first_zero
  zero_facts h j l = not-true (r 0 j) (all_below k (λ j. not (r 0 j)) h j l)

  facts_zero : ((j : ℕ) → j < k → r 0 j ≡ false) → first_zero k r ≡ true
  unfolding first_zero
  facts_zero f = below_all k (λ j. not (r 0 j)) (λ j l. ap not (f j l))

  spare_facts : spare_zero w.cards k r ≡ true → (c j : ℕ) → c < w.cards → k ≤ j → j < 8 * address_size k → r c j ≡ false
  unfolding spare_zero
  spare_facts h c j hc low high =
      let e : k + (j - k) ≡ j = omega arith in
      rw e at (not-true (r c (k + (j - k))) (all_below (8 * address_size k - k) (λ j. not (r c (k + j))) (all_below w.cards (spare_card k r) h c hc) (j - k) (omega arith)))

  facts_spare : ((c j : ℕ) → c < w.cards → k ≤ j → j < 8 * address_size k → r c j ≡ false) → spare_zero w.cards k r ≡ true
  unfolding spare_zero
  facts_spare f =
      below_all w.cards (spare_card k r) (λ c hc. below_all (8 * address_size k - k) (λ j. not (r c (k + j))) (λ j l.
      ap not (f c (k + j) hc (omega arith) (omega arith))))

  abbrev row : (a b : ℕ) → Bool
  row = covers k r w.links

  covered_facts : cards_covered w k r ≡ true → (a b : ℕ) → a < w.cards → b < w.cards → a ≢ b → any (leads k r a b) w.links ≡ true
  unfolding cards_covered
  covered_facts h a b ha hb n =
      ⊎_elim (λ e. absurd (n (eqb-true a b e))) (λ t. t)
      (or_cases (eqb a b) (any (leads k r a b) w.links)
      (all_below w.cards (row a) (all_below w.cards (λ a. all (row a) (range w.cards)) h a ha) b hb))

  facts_covered : ((a b : ℕ) → a < w.cards → b < w.cards → a ≢ b → any (leads k r a b) w.links ≡ true) → cards_covered w k r ≡ true
  unfolding cards_covered
  facts_covered f =
      below_all w.cards (λ a. all (row a) (range w.cards)) (λ a ha. below_all w.cards (row a) (λ b hb.
      by_eq a b
      (λ e. or_left (eqb a b) (any (leads k r a b) w.links) (eq-eqb a b e))
      (λ n. or_right (eqb a b) (any (leads k r a b) w.links) (f a b ha hb n))))

  -- all of them
  pub tests_facts : tests_hold ps ≡ true → Passes ps
  unfolding tests_hold
  tests_facts h =
      let links_test = eqb (links_refusal w).number 0 in
      let order_test = columns_in_order k r 0 w.links in
      let zeros_test = first_zero k r && spare_zero w.cards k r in
      let front = and_left ((links_test && order_test) && zeros_test) (cards_covered w k r) h in
      let linked = and_left (links_test && order_test) zeros_test front in
      let zeros = and_right (links_test && order_test) zeros_test front in
      record {
        links = eqb-true (links_refusal w).number 0 (and_left links_test order_test linked);
        order = and_right links_test order_test linked;
        zero = zero_facts (and_left (first_zero k r) (spare_zero w.cards k r) zeros);
        spare = spare_facts (and_right (first_zero k r) (spare_zero w.cards k r) zeros);
        led = covered_facts (and_right ((links_test && order_test) && zeros_test) (cards_covered w k r) h);
      }

  pub facts_tests : Passes ps → tests_hold ps ≡ true
  unfolding tests_hold
  facts_tests d = rw (d.links, d.order, facts_zero d.zero, facts_spare d.spare, facts_covered d.led) refl
