-- A card is on a shortest path between two cards exactly if its hops to the two add up to the hops between them. Assumes nothing.
use mathlib.Core.Path.{◌≡◌, refl, sym}
use mathlib.Core.Bool.{true, false, ◌&&◌}
use mathlib.Core.Logic.{⊎_elim}
use mathlib.Core.List.{List, [], ◌∷◌, ◌++◌}
use Prim.Native.Nat.{ℕ, ◌+◌, ◌≤◌, ◌<◌}
use native.Mathlib.Omega.{arith}
use lib.Dec.{eqb, ltb}
use lib.ListN.{length, length-append}
use borrow.Author.Tests.{eqb-true, eq-eqb, ltb-true}
use Rattle.rack.specs.Lists.{any}
use Rattle.rack.specs.Wiring.{Wiring, linked}
use Rattle.rack.specs.Hops.{hops, is_path, connected}
use Rattle.rack.proofs.Logic.{true_not_false, and_left, and_right, and_both, or_cases, or_left, or_right}
use Rattle.rack.proofs.Paths.{path_cards, cards_path}
use Rattle.rack.proofs.Hops.{hops_path, path_hops, hops_self, hops_triangle, hops_linked, connected_all}
use Rattle.conference.specs.Conference.{OnShortest, between}

module _ (w : Wiring) where
  -- two paths joined at x are a path with x on it
  path_through : (cs ds : List ℕ) (a x b : ℕ) → is_path w a cs x ≡ true → is_path w x ds b ≡ true
      → (is_path w a (cs ++ ds) b ≡ true) × (any (eqb x) (a ∷ (cs ++ ds)) ≡ true)
  unfolding is_path
  path_through [] ds a x b p q =
      let e = eqb-true a x p in
      (rw e q, or_left (eqb x a) (any (eqb x) ds) (eq-eqb x a (sym e)))
  path_through (c ∷ cs) ds a x b p q =
      let t = ltb c w.cards && linked w a c in
      let z = path_through cs ds c x b (and_right t (is_path w c cs x) p) q in
      (and_both t (is_path w c (cs ++ ds) b) (and_left t (is_path w c cs x) p) z.0, or_right (eqb x a) (any (eqb x) (c ∷ (cs ++ ds))) z.1)

  -- a path with x on it has no fewer links than there are hops from its ends to x
  path_from : (cs : List ℕ) (a x b : ℕ) → is_path w a cs b ≡ true → eqb x a ≡ true → hops w a x + hops w x b ≤ length cs
  path_from cs a x b p t =
      let e = eqb-true x a t in
      rw e (omega (arith, hops_self w a, path_hops w (length cs) a b (cards_path w cs a b p)))

  path_parts : (cs : List ℕ) (a x b : ℕ) → is_path w a cs b ≡ true → any (eqb x) (a ∷ cs) ≡ true → hops w a x + hops w x b ≤ length cs
  unfolding is_path
  path_parts [] a x b p m = ⊎_elim (path_from [] a x b p) (λ t. true_not_false false t refl) (or_cases (eqb x a) false m)
  path_parts (c ∷ cs) a x b p m =
      let card = ltb c w.cards in
      let h = and_left (card && linked w a c) (is_path w c cs b) p in
      let near = hops_linked w a c (ltb-true c w.cards (and_left card (linked w a c) h)) (and_right card (linked w a c) h) in
      let rest = and_right (card && linked w a c) (is_path w c cs b) p in
      ⊎_elim (path_from (c ∷ cs) a x b p) (λ t. omega (arith, near, hops_triangle w a c x, path_parts cs c x b rest t))
      (or_cases (eqb x a) (any (eqb x) (c ∷ cs)) m)

  module _ (a x b : ℕ) where
    pub on_shortest_between : OnShortest w a x b → between w a x b ≡ true
    unfolding between
    on_shortest_between (cs, p, l, m) =
        eq-eqb (hops w a x + hops w x b) (hops w a b) (omega (arith, path_parts cs a x b p m, hops_triangle w a x b))

    pub between_on_shortest : connected w ≡ true → a < w.cards → x < w.cards → b < w.cards → between w a x b ≡ true → OnShortest w a x b
    unfolding between
    between_on_shortest whole ha hx hb t =
        let p = path_cards w (hops w a x) a x (hops_path w a x (connected_all w whole a x ha hx)) in
        let q = path_cards w (hops w x b) x b (hops_path w x b (connected_all w whole x b hx hb)) in
        let z = path_through p.0 q.0 a x b p.1 q.1 in
        (p.0 ++ q.0, z.0, simp length-append (omega (arith, eqb-true (hops w a x + hops w x b) (hops w a b) t, p.2, q.2)), z.1)
