-- An accepted rack has fewer columns than cards: each is crossed by the link from some card to a neighbour nearer to card 0. Assumes nothing.
use mathlib.Core.Path.{◌≡◌, refl, sym, ap, ◌∙◌, subst}
use mathlib.Core.Bool.{Bool, true, false, ◌&&◌}
use mathlib.Core.Logic.{◌≢◌}
use mathlib.Core.List.{List, []}
use Prim.Native.Nat.{ℕ, zero, suc, ◌+◌, ◌-◌, ◌≤◌, ◌<◌}
use native.Mathlib.Omega.{arith}
use lib.Dec.{ltb}
use lib.ListN.{get_or}
use borrow.Author.Tests.{lt-ltb, le-ltb, ltb-true}
use Rattle.rack.specs.Lists.{differ, lowest, tabulate, range}
use Rattle.rack.specs.Wiring.{Link, Wiring, linked}
use Rattle.rack.specs.Hops.{hops}
use Rattle.rack.specs.Columns.{nearer_first, side, columns, column_count, address, Embedding}
use Rattle.rack.proofs.Logic.{true_not_false, by_bool, by_eq, and_left, and_right, and_both, differ_self, differ_sym, differ_false, differ_cancel}
use Rattle.rack.proofs.Lists.{In, in_get_or, length_le}
use Rattle.rack.proofs.Tables.{length_tabulate, in_tabulate, range_in, distinct_range, lowest_passes, lowest_least}
use Rattle.rack.proofs.Paths.{link_joins}
use Rattle.rack.proofs.Hops.{hops_self, hops_zero, hops_down, connected_all}
use Rattle.rack.proofs.Columns.{column_link, column_bit}
use Rattle.rack.proofs.Crossing.{Rack, hops_one, crossing, crossing_only, link_inside}

-- the ends of a link differ in its column, so one of them differs there from card 0
side_ends : (w : Wiring) → Rack w → (l : Link) → In l w.links → differ (side w l l.first) (side w l l.second) ≡ true
unfolding side nearer_first
side_ends w rack l i =
    differ_cancel (nearer_first w l l.first) (nearer_first w l l.second) (nearer_first w l 0)
    ∙ rw (
      lt-ltb (hops w l.first l.first) (hops w l.first l.second)
          (omega (arith, hops_self w l.first, hops_one w rack l.first l.second (link_joins w l i))),
      le-ltb (hops w l.second l.first) (hops w l.second l.second) (omega (arith, hops_self w l.second)),
    ) refl

column_varies : (w : Wiring) → Rack w → (j : ℕ) → j < column_count w → (v : ℕ) × (v < w.cards) × (differ (address w v j) (address w 0 j) ≡ true)
unfolding address column_count
column_varies w rack j h =
    let r = column_link w (get_or (columns w) j []) (in_get_or (columns w) j [] h) in
    let l = r.0 in
    let s = link_inside w rack l r.1 in
    let bit : (c : ℕ) → c < w.cards → address w c j ≡ side w l c = λ c hc. ap (λ (x : List Bool). get_or x c false) (sym r.2) ∙ column_bit w l c hc in
    by_bool (differ (address w l.first j) (address w 0 j))
    (λ e. (l.first, s.0, e))
    (λ e. (
      l.second,
      s.1,
      rw (← (differ_false (address w l.first j) (address w 0 j) e), bit l.first s.0, bit l.second s.1)
          (differ_sym (side w l l.second) (side w l l.first) ∙ side_ends w rack l r.1),
    ))

module _ (w : Wiring) (rack : Rack w) (k : ℕ) (r : ℕ → ℕ → Bool) (m : Embedding w k r) where
  -- a neighbour nearer to card 0, and the column that the link to it crosses
  abbrev nearer : (v u : ℕ) → Bool
  nearer v u = linked w v u && ltb (hops w u 0) (hops w v 0)

  parent : (v : ℕ) → ℕ
  parent v = lowest w.cards (nearer v)

  abbrev crossed : (v : ℕ) → ℕ
  crossed v = lowest k (λ j. differ (r v j) (r (parent v) j))

  parent_nearer : (v : ℕ) → v < w.cards → v ≢ 0 → (parent v < w.cards) × (linked w v (parent v) ≡ true) × (hops w (parent v) 0 < hops w v 0)
  unfolding parent
  parent_nearer v h n =
      let z : hops w v 0 ≢ 0 = λ e. n (hops_zero w v 0 h e) in
      let u = hops_down w v 0 (hops w v 0 - 1) (omega arith) (omega (arith, connected_all w rack.whole v 0 h rack.some)) in
      let t : nearer v u.0 ≡ true = and_both (linked w v u.0) (ltb (hops w u.0 0) (hops w v 0)) u.2 (lt-ltb (hops w u.0 0) (hops w v 0) (omega arith)) in
      let b : parent v < w.cards = omega (arith, lowest_least w.cards (nearer v) u.0 t) in
      let p = lowest_passes w.cards (nearer v) b in (
        b,
        and_left (linked w v (parent v)) (ltb (hops w (parent v) 0) (hops w v 0)) p,
        ltb-true (hops w (parent v) 0) (hops w v 0) (and_right (linked w v (parent v)) (ltb (hops w (parent v) 0) (hops w v 0)) p),
      )

  crossed_is : (v j : ℕ) → v < w.cards → v ≢ 0 → j < k → differ (r v j) (r (parent v) j) ≡ true → crossed v ≡ j
  crossed_is v j hv n hj d =
      let x = crossing w k r m rack v (parent v) (parent_nearer v hv n).1 in
      let b : crossed v < k = omega (arith, lowest_least k (λ j. differ (r v j) (r (parent v) j)) j d) in
      sym (crossing_only x (crossed v) b (lowest_passes k (λ j. differ (r v j) (r (parent v) j)) b)) ∙ crossing_only x j hj d

  abbrev all_crossed : List ℕ
  all_crossed = tabulate (w.cards - 1) (λ i. crossed (suc i))

  -- going from a card that differs from card 0 in column j towards card 0, some link crosses j
  crossed_all : (j : ℕ) → j < k → (d v : ℕ) → v < w.cards → hops w v 0 ≤ d → differ (r v j) (r 0 j) ≡ true → In j all_crossed
  crossed_all j h zero v hv hd e =
      true_not_false (differ (r v j) (r 0 j)) e (rw (hops_zero w v 0 hv (omega arith)) (differ_self (r 0 j)))
  crossed_all j h (suc d) v hv hd e =
      by_eq v 0
      (λ z. true_not_false (differ (r v j) (r 0 j)) e (rw z (differ_self (r 0 j))))
      (λ n. go n (parent_nearer v hv n) (crossed_all j h d (parent v)))
    where
      go : v ≢ 0 → (parent v < w.cards) × (linked w v (parent v) ≡ true) × (hops w (parent v) 0 < hops w v 0)
          → (parent v < w.cards → hops w (parent v) 0 ≤ d → differ (r (parent v) j) (r 0 j) ≡ true → In j all_crossed) → In j all_crossed
      go n p ih =
          by_bool (differ (r v j) (r (parent v) j))
          (λ t. let s : suc (v - 1) ≡ v = omega arith in
          subst (λ (x : ℕ). In x all_crossed) (ap (λ (u : ℕ). crossed u) s ∙ crossed_is v j hv n h t)
          (in_tabulate (w.cards - 1) (λ i. crossed (suc i)) (v - 1) (omega arith)))
          (λ t. ih p.0 (omega arith) (rw (← (differ_false (r v j) (r (parent v) j) t)) e))

  few : ((j : ℕ) → j < k → (v : ℕ) × (v < w.cards) × (differ (r v j) (r 0 j) ≡ true)) → k + 1 ≤ w.cards
  few vary =
      omega (
        arith,
        rack.some,
        length_tabulate k (λ i. i),
        length_tabulate (w.cards - 1) (λ i. crossed (suc i)),
        length_le (range k) all_crossed (distinct_range k) (λ j i.
            let h = range_in k j i in
            let v = vary j h in
            crossed_all j h (hops w v.0 0) v.0 v.1 (omega arith) v.2),
      )

pub few_columns : (w : Wiring) → Rack w → Embedding w (column_count w) (address w) → column_count w + 1 ≤ w.cards
few_columns w rack m = few w rack (column_count w) (address w) m (column_varies w rack)
