-- Rows in which each link crosses one column and each card has a link nearer to every other card measure hops. Assumes nothing.
use mathlib.Core.Path.{◌≡◌, refl, ◌∙◌}
use mathlib.Core.Bool.{Bool, true}
use mathlib.Core.Logic.{inl, inr, ◌≢◌}
use Prim.Native.Nat.{ℕ, zero, suc, ◌≤◌, ◌<◌}
use native.Mathlib.Omega.{arith}
use Rattle.rack.specs.Lists.{differ, any}
use Rattle.rack.specs.Wiring.{Link, Wiring, linked, touches, other_end}
use Rattle.rack.specs.Hops.{has_path, hops}
use Rattle.rack.specs.Columns.{hamming, Embedding}
use Rattle.rack.proofs.Logic.{by_eq, and_left, and_right}
use Rattle.rack.proofs.Lists.{In, any_in}
use Rattle.rack.proofs.Paths.{Ends, touches_ends, other_end_below, linked_link, link_linked, path_next, next_path, path_here, path_zero}
use Rattle.rack.proofs.Hops.{hops_path, path_hops, path_below, zero_connected}
use Rattle.rack.proofs.Hamming.{hamming_same, hamming_sym, hamming_triangle}
use Rattle.rack.proofs.Crossing.{Rack, one_crossing}
use Rattle.rack.proofs.Refusals.{JoinsCards, joined_rack}
use Rattle.plan_tests.specs.Tests.{crossed, leads}
use Rattle.tested_plans.proofs.Crossed.{ends_crossed, crossing_nearer}

module _ (w : Wiring) (k : ℕ) (r : ℕ → ℕ → Bool) (some : 1 ≤ w.cards) (joins_cards : (l : Link) → In l w.links → JoinsCards w l)
    (ones : (l : Link) → In l w.links → hamming k (r l.first) (r l.second) ≡ 1)
    (led : (a b : ℕ) → a < w.cards → b < w.cards → a ≢ b → any (leads k r a b) w.links ≡ true) where
  -- A PATH is as long as its ends differ, at least
  linked_one : (a c : ℕ) → linked w a c ≡ true → hamming k (r a) (r c) ≡ 1
  linked_one a c h = go (linked_link w a c h)
    where
      go : (l : Link) × In l w.links × Ends a c l → hamming k (r a) (r c) ≡ 1
      go (l, i, inl e) = rw (e.0, e.1) at (ones l i)
      go (l, i, inr e) = hamming_sym k (r a) (r c) ∙ rw (e.0, e.1) at (ones l i)

  path_apart : (d a b : ℕ) → has_path w d a b ≡ true → hamming k (r a) (r b) ≤ d
  path_apart zero a b p = rw (path_zero w a b p) (omega (arith, hamming_same k (r b) (r b) (λ j h. refl)))
  path_apart (suc d) a b p =
      let n = path_next w d a b p in
      omega (arith, hamming_triangle k (r a) (r n.0) (r b), linked_one a n.0 n.2, path_apart d n.0 b n.3)

  -- and a link nearer makes one just so long
  abbrev Nearer : (a b : ℕ) → Type 0
  Nearer a b = (c : ℕ) × (c < w.cards) × (linked w a c ≡ true) × (hamming k (r a) (r b) ≡ suc (hamming k (r c) (r b)))

  end_nearer : (a b c : ℕ) (l : Link) → In l w.links → Ends a c l → c < w.cards → differ (r a (crossed k r l)) (r b (crossed k r l)) ≡ true → Nearer a b
  end_nearer a b c l i ends hc apart =
      let x = ends_crossed k r a c l ends (one_crossing k r l.first l.second (ones l i)) in
      (c, hc, link_linked w a c l i ends, crossing_nearer k r a c b x.0 (rw x.1 at apart))

  link_nearer : (a b : ℕ) (l : Link) → In l w.links → leads k r a b l ≡ true → Nearer a b
  unfolding leads
  link_nearer a b l i h =
      let apart = differ (r a (crossed k r l)) (r b (crossed k r l)) in
      end_nearer a b (other_end a l) l i (touches_ends a l (and_left (touches a l) apart h))
      (other_end_below w.cards a l (joins_cards l i).0 (joins_cards l i).1) (and_right (touches a l) apart h)

  nearer : (a b : ℕ) → a < w.cards → b < w.cards → a ≢ b → Nearer a b
  nearer a b ha hb n = let l = any_in (leads k r a b) w.links (led a b ha hb n) in link_nearer a b l.0 l.1 l.2

  apart_path : (d a b : ℕ) → a < w.cards → b < w.cards → hamming k (r a) (r b) ≡ d → has_path w d a b ≡ true
  apart_path zero a b ha hb h =
      by_eq a b (λ (e : a ≡ b). rw e (path_here w b)) (λ n. absurd (omega (arith, (nearer a b ha hb n).3)))
  apart_path (suc d) a b ha hb h =
      by_eq a b (λ (e : a ≡ b). absurd (omega (arith, h, hamming_same k (r a) (r b) (λ j l. rw e refl))))
      (λ n. let c = nearer a b ha hb n in next_path w d a b (c.0, c.1, c.2, apart_path d c.0 b c.1 hb (omega (arith, h, c.3))))

  -- SO THE ROWS are an embedding, and the wiring is a rack
  any_path : (a b : ℕ) → a < w.cards → b < w.cards → has_path w (hamming k (r a) (r b)) a b ≡ true
  any_path a b ha hb = apart_path (hamming k (r a) (r b)) a b ha hb refl

  reached : (a b : ℕ) → a < w.cards → b < w.cards → hops w a b < w.cards
  reached a b ha hb = path_below w (hamming k (r a) (r b)) a b ha (any_path a b ha hb)

  pub led_embedding : Embedding w k r
  led_embedding a b ha hb =
      omega (
        arith,
        path_hops w (hamming k (r a) (r b)) a b (any_path a b ha hb),
        path_apart (hops w a b) a b (hops_path w a b (reached a b ha hb)),
      )

  pub led_rack : Rack w
  led_rack = joined_rack w some joins_cards (zero_connected w (λ c h. reached 0 c some h))
