-- The laws of hops, a metric: they are the links of a path and of no shorter one, and below the number of cards where there is a path. Assumes nothing.
use mathlib.Core.Path.{◌≡◌, refl, ap, ◌∙◌}
use mathlib.Core.Bool.{true, false}
use mathlib.Core.Logic.{inl, inr, ◌≢◌}
use mathlib.Core.List.{List, [], ◌∷◌}
use Prim.Native.Nat.{ℕ, zero, suc, ◌+◌, ◌≤◌, ◌<◌}
use native.Mathlib.Omega.{arith}
use lib.Dec.{eqb}
use lib.ListN.{length}
use borrow.Author.Tests.{eqb-true, eqb-false, eq-eqb, ne_eqb}
use Rattle.rack.specs.Lists.{lowest}
use Rattle.rack.specs.Wiring.{Wiring, linked}
use Rattle.rack.specs.Hops.{has_path, hops, unreached, connected}
use Rattle.rack.proofs.Logic.{true_not_false, not_true_false, by_lt}
use Rattle.rack.proofs.Lists.{In, Distinct}
use Rattle.rack.proofs.Tables.{length_below, lowest_le, lowest_passes, lowest_first, lowest_least, lowest_is}
use Rattle.rack.proofs.Paths.{path_next, path_here, path_zero, path_one, path_join, path_reverse, path_inside, path_last}

module _ (w : Wiring) where
  pub hops_le : (a b : ℕ) → hops w a b ≤ w.cards
  unfolding hops
  hops_le a b = lowest_le w.cards (λ k. has_path w k a b)

  pub hops_path : (a b : ℕ) → hops w a b < w.cards → has_path w (hops w a b) a b ≡ true
  unfolding hops
  hops_path a b h = lowest_passes w.cards (λ k. has_path w k a b) h

  pub path_hops : (k a b : ℕ) → has_path w k a b ≡ true → hops w a b ≤ k
  unfolding hops
  path_hops k a b p = lowest_least w.cards (λ k. has_path w k a b) k p

  -- A SHORTEST PATH meets each card once: where there is a path, hops are below the number of cards
  abbrev Shortest : (a j b : ℕ) → Type 0
  Shortest a j b = (has_path w j a b ≡ true) × ((i : ℕ) → i < j → has_path w i a b ≡ false)

  abbrev Trail : (a j : ℕ) → List ℕ → Type 0
  Trail a j xs = (length xs ≡ suc j) × Distinct xs × ((v : ℕ) → In v xs → (v < w.cards) × ((i : ℕ) × (i ≤ j) × Shortest a i v))

  -- the card before the last of a shortest path has a shortest path of one link less
  shortest_last : (a j b c : ℕ) → b < w.cards → linked w c b ≡ true → has_path w j a c ≡ true → Shortest a (suc j) b → Shortest a j c
  shortest_last a j b c hb e p s = (
    p,
    λ i l. not_true_false (has_path w i a c) (λ q. true_not_false (has_path w (i + 1) a b) (path_join w i 1 a c b q (path_one w c b hb e)) (s.1 (i + 1) (omega arith))),
  )

  trail_more : (a j b : ℕ) (xs : List ℕ) → b < w.cards → Shortest a (suc j) b → Trail a j xs → Trail a (suc j) (b ∷ xs)
  trail_more a j b xs hb s (long, distinct, each) = (ap suc long, (fresh, distinct), all_each)
    where
      fresh : In b xs → ⊥
      fresh m =
          let r = (each b m).1 in
          true_not_false (has_path w r.0 a b) r.2.0 (s.1 r.0 (omega arith))

      all_each : (v : ℕ) → In v (b ∷ xs) → (v < w.cards) × ((i : ℕ) × (i ≤ suc j) × Shortest a i v)
      all_each v (inl e) = (rw e at hb, (suc j, omega arith, rw e at s))
      all_each v (inr m) = let r = each v m in (r.0, (r.1.0, omega arith, r.1.2))

  shortest_trail : (a : ℕ) → a < w.cards → (j b : ℕ) → Shortest a j b → (xs : List ℕ) × Trail a j xs
  shortest_trail a h zero b s = (b ∷ [], (refl, ((λ z. z), tt), alone))
    where
      alone : (v : ℕ) → In v (b ∷ []) → (v < w.cards) × ((i : ℕ) × (i ≤ 0) × Shortest a i v)
      alone v (inl e) = (rw (path_zero w a b s.0 ∙ e) at h, (0, omega arith, rw e at s))
      alone v (inr m) = absurd m
  shortest_trail a h (suc j) b s =
      let l = path_last w j a b h s.0 in
      let hb = path_inside w (suc j) a b h s.0 in
      let r = shortest_trail a h j l.0 (shortest_last a j b l.0 hb l.2 l.3 s) in
      (b ∷ r.0, trail_more a j b r.0 hb s r.1)

  pub path_below : (k a b : ℕ) → a < w.cards → has_path w k a b ≡ true → hops w a b < w.cards
  path_below k a b h p =
      let j = lowest (suc k) (λ i. has_path w i a b) in
      let lt : j ≤ k = lowest_least (suc k) (λ i. has_path w i a b) k p in
      let s : Shortest a j b = (lowest_passes (suc k) (λ i. has_path w i a b) (omega arith), lowest_first (suc k) (λ i. has_path w i a b)) in
      let t = shortest_trail a h j b s in
      omega (arith, t.1.0, length_below w.cards t.0 t.1.1 (λ v m. (t.1.2 v m).0), path_hops j a b s.0)

  -- A METRIC, in any wiring
  pub hops_self : (a : ℕ) → hops w a a ≡ 0
  hops_self a = omega (arith, path_hops 0 a a (path_here w a))

  pub hops_zero : (a b : ℕ) → a < w.cards → hops w a b ≡ 0 → a ≡ b
  hops_zero a b h e = path_zero w a b (rw e at (hops_path a b (omega arith)))

  hops_reverse : (a b : ℕ) → a < w.cards → hops w b a ≤ hops w a b
  hops_reverse a b h =
      by_lt (hops w a b) w.cards
      (λ l. path_hops (hops w a b) b a (path_reverse w (hops w a b) a b h (hops_path a b l)))
      (λ l. omega (arith, hops_le b a))

  pub hops_sym : (a b : ℕ) → a < w.cards → b < w.cards → hops w a b ≡ hops w b a
  hops_sym a b h i = omega (arith, hops_reverse a b h, hops_reverse b a i)

  pub hops_triangle : (a b c : ℕ) → hops w a c ≤ hops w a b + hops w b c
  hops_triangle a b c =
      by_lt (hops w a b) w.cards
      (λ l. by_lt (hops w b c) w.cards
      (λ k. path_hops (hops w a b + hops w b c) a c (path_join w (hops w a b) (hops w b c) a b c (hops_path a b l) (hops_path b c k)))
      (λ k. omega (arith, hops_le a c)))
      (λ l. omega (arith, hops_le a c))

  pub hops_linked : (a b : ℕ) → b < w.cards → linked w a b ≡ true → hops w a b ≤ 1
  hops_linked a b h e = path_hops 1 a b (path_one w a b h e)

  -- a neighbour one hop nearer
  pub hops_down : (a b d : ℕ) → hops w a b ≡ suc d → suc d < w.cards → (c : ℕ) × (c < w.cards) × (linked w a c ≡ true) × (hops w c b ≡ d)
  hops_down a b d e l =
      let r = path_next w d a b (rw e at (hops_path a b (omega arith))) in
      (r.0, r.1, r.2, omega (arith, path_hops d r.0 b r.3, hops_triangle a r.0 b, hops_linked a r.0 r.1 r.2))

  -- CONNECTED: all cards are reached from card 0, and so each from each
  pub connected_zero : connected w ≡ true → (c : ℕ) → c < w.cards → hops w 0 c < w.cards
  unfolding connected unreached
  connected_zero h c l =
      let e : unreached w ≡ w.cards = eqb-true (unreached w) w.cards h in
      let n : hops w 0 c ≢ w.cards = eqb-false (hops w 0 c) w.cards (lowest_first w.cards (λ c. eqb (hops w 0 c) w.cards) c (omega arith)) in
      omega (arith, hops_le 0 c)

  pub zero_connected : ((c : ℕ) → c < w.cards → hops w 0 c < w.cards) → connected w ≡ true
  unfolding connected unreached
  zero_connected h =
      eq-eqb (unreached w) w.cards
      (lowest_is w.cards (λ c. eqb (hops w 0 c) w.cards) w.cards (omega arith)
      (λ c l. ne_eqb (hops w 0 c) w.cards (λ e. omega (arith, h c l))) (λ l. absurd (omega arith)))

  pub connected_all : connected w ≡ true → (a b : ℕ) → a < w.cards → b < w.cards → hops w a b < w.cards
  connected_all h a b ha hb =
      let p = path_reverse w (hops w 0 a) 0 a (omega arith) (hops_path 0 a (connected_zero h a ha)) in
      let q = hops_path 0 b (connected_zero h b hb) in
      path_below (hops w 0 a + hops w 0 b) a b ha (path_join w (hops w 0 a) (hops w 0 b) a 0 b p q)
