-- In a connected rack without odd loops no card is at equal distance from a link's ends: each link changes the parity of hops. Assumes nothing.
use mathlib.Core.Path.{◌≡◌, sym, ap, ◌∙◌}
use mathlib.Core.Bool.{true, cond}
use mathlib.Core.Logic.{inl, inr, ◌≢◌}
use Prim.Native.Nat.{ℕ, zero, suc, ◌+◌, ◌%◌, ◌<◌}
use native.Mathlib.Omega.{arith}
use lib.Dec.{eqb}
use borrow.Author.Tests.{eqb-false}
use Rattle.rack.specs.Wiring.{Link, Wiring, link, link_count, link_at, linked}
use Rattle.rack.specs.Hops.{has_path, hops}
use Rattle.rack.specs.Refusals.{parity_refusal}
use Rattle.rack.proofs.Lists.{In, get_or_in}
use Rattle.rack.proofs.Paths.{Ends, linked_link, path_next, path_zero}
use Rattle.rack.proofs.Hops.{hops_path, hops_sym, hops_triangle, connected_all}
use Rattle.rack.proofs.Crossing.{Rack, hops_one}
use Rattle.rack.proofs.Refusals.{cond_zero, lowest_fault_clear}

pub parity_clear : (w : Wiring) → (parity_refusal w).number ≡ 0 → (i : ℕ) → i < link_count w → hops w 0 (link_at w i).first ≢ hops w 0 (link_at w i).second
unfolding parity_refusal
parity_clear w h i l =
    let p = hops w 0 (link_at w i).first in
    let q = hops w 0 (link_at w i).second in
    eqb-false p q (cond_zero (eqb p q) 10 0 (λ e. omega arith)
    (lowest_fault_clear (link_count w) (λ i. cond (eqb (hops w 0 (link_at w i).first) (hops w 0 (link_at w i).second)) 10 0) h i l)).0

module _ (w : Wiring) (rack : Rack w) (even : (parity_refusal w).number ≡ 0) where
  levels_differ : (a b : ℕ) → linked w a b ≡ true → hops w 0 a ≢ hops w 0 b
  levels_differ a b e = go (linked_link w a b e)
    where
      link_levels : (l : Link) → In l w.links → hops w 0 l.first ≢ hops w 0 l.second
      link_levels l m =
          let r = get_or_in w.links (link 0 0) l m in
          rw r.2 at (parity_clear w even r.0 r.1)

      go : (l : Link) × In l w.links × Ends a b l → hops w 0 a ≢ hops w 0 b
      go (l, m, inl e) f = link_levels l m (ap (hops w 0) e.0 ∙ f ∙ sym (ap (hops w 0) e.1))
      go (l, m, inr e) f = link_levels l m (ap (hops w 0) e.0 ∙ sym f ∙ sym (ap (hops w 0) e.1))

  level_step : (a b : ℕ) → linked w a b ≡ true → (hops w 0 a + hops w 0 b) % 2 ≡ 1
  level_step a b e =
      let i = rack.inside a b e in
      omega (arith, levels_differ a b e, hops_one w rack a b e, hops_sym w a b i.0 i.1, hops_triangle w 0 a b, hops_triangle w 0 b a)

  path_parity : (k a b : ℕ) → has_path w k a b ≡ true → (hops w 0 a + k + hops w 0 b) % 2 ≡ 0
  path_parity zero a b p = let e = ap (hops w 0) (path_zero w a b p) in omega arith
  path_parity (suc k) a b p = let r = path_next w k a b p in omega (arith, level_step a r.0 r.2, path_parity k r.0 b r.3)

  pub no_tie : (p q c : ℕ) → linked w p q ≡ true → c < w.cards → hops w c p ≢ hops w c q
  no_tie p q c e h f =
      let i = rack.inside p q e in
      let x = path_parity (hops w c p) c p (hops_path w c p (connected_all w rack.whole c p h i.0)) in
      let y = path_parity (hops w c q) c q (hops_path w c q (connected_all w rack.whole c q h i.1)) in
      omega (arith, level_step p q e)
