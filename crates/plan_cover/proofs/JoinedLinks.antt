-- Link by link: what the cards cover over the first i links. Assumes nothing.
use mathlib.Core.Path.{◌≡◌, sym, ap, subst, ◌∙◌}
use mathlib.Core.Bool.{Bool, true, ◌&&◌}
use mathlib.Core.Logic.{inl, inr}
use mathlib.Core.List.{List, [], ◌∷◌}
use Prim.Native.Nat.{ℕ, ◌+◌, ◌*◌, ◌≤◌, ◌<◌}
use native.Mathlib.Numerals.{add-one}
use native.Mathlib.Omega.{arith}
use lib.Dec.{eqb, leb}
use lib.ListN.{get_or, take}
use lib.Seq.{take-suc, take-length}
use borrow.Author.Tests.{eqb-true}
use Rattle.rack.specs.Lists.{differ, one}
use Rattle.rack.specs.Wiring.{Link, Wiring, link, link_count, link_at}
use Rattle.rack.specs.Columns.{hamming}
use Rattle.rack.specs.PlanFile.{Sized, plan_wiring, plan_bit}
use Rattle.rack.proofs.Logic.{and_left, and_right}
use Rattle.rack.proofs.Lists.{In, in_get_or}
use Rattle.rack.proofs.Crossing.{one_crossing}
use Rattle.rack.proofs.WiringFile.{wiring_at_cards, wiring_at_count}
use Rattle.plan_tests.specs.Tests.{crossed, columns_in_order, cards_covered}
use Rattle.plan_tests.proofs.OneColumn.{lowest_crossing}
use Rattle.plan_tests.proofs.OrderedLinks.{counted}
use Rattle.card_sets.specs.Sets.{ColumnWords}
use Rattle.plan_cover.specs.Covers.{CoverWords, FullWords, WordsJoined, words_full}
use Rattle.plan_cover.proofs.Sets.{set_inside}
use Rattle.plan_cover.proofs.Covers.{cover_joined, full_exactly}
use Rattle.plan_cover.proofs.JoinedWords.{words_sides}

module _ (k : ℕ) (r : ℕ → ℕ → Bool) where
  abbrev one_place : Link → Bool
  one_place l = eqb (hamming k (r l.first) (r l.second)) 1

  first_in_order : (o : ℕ) (l : Link) (ls : List Link) → columns_in_order k r o (l ∷ ls) ≡ true → (one_place l && leb (crossed k r l) o) ≡ true
  unfolding columns_in_order
  first_in_order o l ls = and_left (one_place l && leb (crossed k r l) o) (columns_in_order k r (o + one (eqb (crossed k r l) o)) ls)

  -- links in order cross one column each
  order_ones : (o : ℕ) (ls : List Link) → columns_in_order k r o ls ≡ true → (l : Link) → In l ls → hamming k (r l.first) (r l.second) ≡ 1
  unfolding columns_in_order
  order_ones o [] h l i = absurd i
  order_ones o (y ∷ ls) h l (inl e) = rw e at (eqb-true (hamming k (r y.first) (r y.second)) 1 (and_left (one_place y) (leb (crossed k r y) o) (first_in_order o y ls h)))
  order_ones o (y ∷ ls) h l (inr i) =
      order_ones (o + one (eqb (crossed k r y) o)) ls (and_right (one_place y && leb (crossed k r y) o) (columns_in_order k r (o + one (eqb (crossed k r y) o)) ls) h) l i

  crossed_split : (l : Link) → hamming k (r l.first) (r l.second) ≡ 1
      → (crossed k r l < k) × (differ (r l.first (crossed k r l)) (r l.second (crossed k r l)) ≡ true)
  unfolding crossed
  crossed_split l h =
      let x = one_crossing k r l.first l.second h in
      let e = lowest_crossing k r l.first l.second k (omega arith) x in
      (omega (arith, e, x.inside), rw e x.split)

module _ (ps : List ℕ) (n m k : ℕ) (z : Sized ps n m k) (order : columns_in_order k (plan_bit ps) 0 (plan_wiring ps).links ≡ true) where
  abbrev w : Wiring
  w = plan_wiring ps

  abbrev r : (c j : ℕ) → Bool
  r = plan_bit ps

  module _ (i : ℕ) (l : i < m) where
    split : (crossed k r (link_at w i) < k) × (differ (r (link_at w i).first (crossed k r (link_at w i))) (r (link_at w i).second (crossed k r (link_at w i))) ≡ true)
    split = crossed_split k r (link_at w i) (order_ones k r 0 w.links order (link_at w i) (in_get_or w.links i (link 0 0) (counted ps n m k z i l)))

    module _ (j : ℕ) (is : j ≡ crossed k r (link_at w i)) where
      pub column_inside : j < k
      column_inside = omega (arith, is, split.0)

      pub column_part : (cs f : List ℕ) → ColumnWords n k r cs → FullWords n f → (t : ℕ) → t < 4 → get_or cs (4 * j + t) 0 ≤ get_or f t 0
      column_part cs f columns full t h = omega (arith, columns.is j t column_inside h, full t h, set_inside n (λ c. r c j) t)

      pub more_covered : (p q : ℕ) (b : Bool) (cs f old new : List ℕ) → p ≡ (link_at w i).first → q ≡ (link_at w i).second → b ≡ r p j
          → ColumnWords n k r cs → FullWords n f → WordsJoined cs f p q j b old new 4 → CoverWords n k r (take i w.links) old
          → CoverWords n k r (take (i + 1) w.links) new
      more_covered p q b cs f old new first second bit columns full joined covered =
          subst (λ (ls : List Link). CoverWords n k r ls new) (sym (rw add-one (take-suc w.links i (link 0 0) (counted ps n m k z i l))))
          (cover_joined n k r (take i w.links) (link_at w i) old new covered
          (words_sides n k r (link_at w i) cs f old new (λ u g. columns.is (crossed k r (link_at w i)) u split.0 g) full split.1 (rw (first, second, is) at (rw bit at joined))))

  pub all_covered : (ws : List ℕ) → CoverWords n k r (take m w.links) ws → CoverWords n k r w.links ws
  all_covered ws c =
      let e : m ≡ link_count w = z.links ∙ sym (wiring_at_count 6 ps) in
      subst (λ (ls : List Link). CoverWords n k r ls ws) (ap (λ (i : ℕ). take i w.links) e ∙ take-length w.links) c

pub covered_exactly : (ps : List ℕ) (n m k : ℕ) → Sized ps n m k → (ws : List ℕ) → CoverWords n k (plan_bit ps) (plan_wiring ps).links ws
    → words_full n ws ≡ cards_covered (plan_wiring ps) k (plan_bit ps)
covered_exactly ps n m k z ws c =
    let e : n ≡ (plan_wiring ps).cards = z.cards ∙ sym (wiring_at_cards 6 ps) in
    ap (λ (x : ℕ). words_full x ws) e
    ∙ full_exactly (plan_wiring ps) k (plan_bit ps) ws (omega (arith, z.few)) (subst (λ (x : ℕ). CoverWords x k (plan_bit ps) (plan_wiring ps).links ws) e c)
