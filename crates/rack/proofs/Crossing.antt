-- In an embedding a link crosses one column, and its own column is that one, seen from card 0. Assumes nothing.
use mathlib.Core.Path.{◌≡◌, refl, sym, ap, ap₂, ◌∙◌}
use mathlib.Core.Bool.{Bool, true, false, not}
use mathlib.Core.Logic.{◌≢◌}
use Prim.Native.Nat.{ℕ, suc, ◌<◌}
use native.Mathlib.Omega.{arith}
use borrow.Author.Tests.{lt-ltb, le-ltb, not-true}
use Rattle.rack.specs.Lists.{differ, tabulate, range}
use Rattle.rack.specs.Wiring.{Link, Wiring, linked}
use Rattle.rack.specs.Hops.{hops, connected}
use Rattle.rack.specs.Columns.{nearer_first, side, column, hamming, Embedding}
use Rattle.rack.proofs.Logic.{by_bool, by_eq, not_true_false, true_not_false, differ_sym, differ_false, differ_from}
use Rattle.rack.proofs.Lists.{In, Only, count_one, count_more}
use Rattle.rack.proofs.Tables.{in_range, range_in, distinct_range, tabulate_ext}
use Rattle.rack.proofs.Paths.{link_joins}
use Rattle.rack.proofs.Hops.{hops_zero, hops_linked}

-- A RACK: every link joins two different cards, and all cards are connected
pub record Rack (w : Wiring) : Type 0 where
  pub inside : (a b : ℕ) → linked w a b ≡ true → (a < w.cards) × (b < w.cards)
  pub apart : (a b : ℕ) → linked w a b ≡ true → a ≢ b
  pub some : 0 < w.cards
  pub whole : connected w ≡ true

pub link_inside : (w : Wiring) → Rack w → (l : Link) → In l w.links → (l.first < w.cards) × (l.second < w.cards)
link_inside w rack l i = rack.inside l.first l.second (link_joins w l i)

pub hops_one : (w : Wiring) → Rack w → (a b : ℕ) → linked w a b ≡ true → hops w a b ≡ 1
hops_one w rack a b e =
    let i = rack.inside a b e in
    let z : hops w a b ≢ 0 = λ z. rack.apart a b e (hops_zero w a b i.0 z) in
    omega (arith, hops_linked w a b i.1 e)

-- the one of k columns in which cards p and q differ
pub record Crossing (k : ℕ) (r : ℕ → ℕ → Bool) (p q : ℕ) : Type 0 where
  pub at : ℕ
  pub inside : at < k
  pub split : differ (r p at) (r q at) ≡ true
  pub others : (j : ℕ) → j < k → at ≢ j → differ (r p j) (r q j) ≡ false

pub crossing_only : {k : ℕ} {r : ℕ → ℕ → Bool} {p q : ℕ} (x : Crossing k r p q) (j : ℕ) → j < k → differ (r p j) (r q j) ≡ true → x.at ≡ j
crossing_only {r} {p} {q} x j h s = by_eq x.at j (λ e. e) (λ n. true_not_false (differ (r p j) (r q j)) s (x.others j h n))

abbrev pub crossing_back : {k : ℕ} {r : ℕ → ℕ → Bool} {p q : ℕ} → Crossing k r p q → Crossing k r q p
crossing_back {r} {p} {q} x =
    record {
      at = x.at;
      inside = x.inside;
      split = differ_sym (r q x.at) (r p x.at) ∙ x.split;
      others = λ j h n. differ_sym (r q j) (r p j) ∙ x.others j h n;
    }

-- one differing place is crossed
pub one_crossing : (k : ℕ) (r : ℕ → ℕ → Bool) (p q : ℕ) → hamming k (r p) (r q) ≡ 1 → Crossing k r p q
unfolding hamming
one_crossing k r p q h = go (count_one (λ j. differ (r p j) (r q j)) (range k) h)
  where
    go : Only (λ j. differ (r p j) (r q j)) (range k) → Crossing k r p q
    go o =
        record {
          at = o.0;
          inside = range_in k o.0 o.1;
          split = o.2;
          others = λ j h n. not_true_false (differ (r p j) (r q j)) (λ t. n (o.3 j (in_range k j h) t));
        }

-- of two bits that differ, each third one differs from one of them
pub third_bit : (x p q : Bool) → differ p q ≡ true → differ x p ≡ true → differ x q ≡ false
third_bit true true q h k = cc
third_bit true false q h k = rw h refl
third_bit false true q h k = not-true q h
third_bit false false q h k = cc

module _ (w : Wiring) (k : ℕ) (r : ℕ → ℕ → Bool) (m : Embedding w k r) where
  pub crossing : Rack w → (p q : ℕ) → linked w p q ≡ true → Crossing k r p q
  crossing rack p q e = let i = rack.inside p q e in one_crossing k r p q (m p q i.0 i.1 ∙ hops_one w rack p q e)

  -- a card that has p's bit in the crossed column is one hop further from q than from p
  pub further : (p q : ℕ) → p < w.cards → q < w.cards → (x : Crossing k r p q) → (c : ℕ) → c < w.cards → differ (r c x.at) (r p x.at) ≡ false
      → hops w c q ≡ suc (hops w c p)
  unfolding hamming
  further p q hp hq x c h e =
      sym (m c q h hq)
      ∙ count_more (λ j. differ (r c j) (r q j)) (λ j. differ (r c j) (r p j)) x.at (range k) (distinct_range k) (in_range k x.at x.inside)
      (rw (differ_false (r c x.at) (r p x.at) e) x.split) e
      (λ j i n. ap (differ (r c j)) (sym (differ_false (r p j) (r q j) (x.others j (range_in k j i) n))))
      ∙ ap suc (m c p h hp)

  pub further_back : (p q : ℕ) → p < w.cards → q < w.cards → (x : Crossing k r p q) → (c : ℕ) → c < w.cards → differ (r c x.at) (r p x.at) ≡ true
      → hops w c p ≡ suc (hops w c q)
  further_back p q hp hq x c h e =
      further q p hq hp (crossing_back x) c h (third_bit (r c x.at) (r p x.at) (r q x.at) x.split e)

  -- A LINK's column is the one that it crosses, seen from card 0
  module _ (rack : Rack w) (l : Link) (i : In l w.links) where
    ends : (l.first < w.cards) × (l.second < w.cards)
    ends = link_inside w rack l i

    pub link_crossing : Crossing k r l.first l.second
    link_crossing = crossing rack l.first l.second (link_joins w l i)

    nearer_crossing : (c : ℕ) → c < w.cards → nearer_first w l c ≡ not (differ (r c link_crossing.at) (r l.first link_crossing.at))
    unfolding nearer_first
    nearer_crossing c h =
        by_bool (differ (r c link_crossing.at) (r l.first link_crossing.at))
        (λ e. le-ltb (hops w c l.first) (hops w c l.second)
        (omega (arith, further_back l.first l.second ends.0 ends.1 link_crossing c h e)) ∙ sym (ap not e))
        (λ e. lt-ltb (hops w c l.first) (hops w c l.second)
        (omega (arith, further l.first l.second ends.0 ends.1 link_crossing c h e)) ∙ sym (ap not e))

    side_crossing : (c : ℕ) → c < w.cards → side w l c ≡ differ (r c link_crossing.at) (r 0 link_crossing.at)
    unfolding side
    side_crossing c h =
        ap₂ differ (nearer_crossing c h) (nearer_crossing 0 rack.some)
        ∙ differ_from (r c link_crossing.at) (r l.first link_crossing.at) (r 0 link_crossing.at)

    pub column_crossing : column w l ≡ tabulate w.cards (λ c. differ (r c link_crossing.at) (r 0 link_crossing.at))
    unfolding column
    column_crossing = tabulate_ext w.cards (side w l) (λ c. differ (r c link_crossing.at) (r 0 link_crossing.at)) side_crossing

    -- the ends of a link differ in hops from card 0
    pub ends_differ : hops w 0 l.first ≢ hops w 0 l.second
    ends_differ e =
        by_bool (differ (r 0 link_crossing.at) (r l.first link_crossing.at))
        (λ d. omega (arith, further_back l.first l.second ends.0 ends.1 link_crossing 0 rack.some d))
        (λ d. omega (arith, further l.first l.second ends.0 ends.1 link_crossing 0 rack.some d))
