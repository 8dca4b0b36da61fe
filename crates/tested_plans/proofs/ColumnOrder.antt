-- In an embedding the links open the columns in order exactly if the planner's columns are those of the rows, in the rows' order. Assumes nothing.
use mathlib.Core.Path.{◌≡◌, refl, sym, ap, ap₂, ◌∙◌}
use mathlib.Core.Bool.{Bool, true, false, ◌&&◌}
use mathlib.Core.Logic.{inl, inr}
use mathlib.Core.List.{List, [], ◌∷◌, ◌++◌}
use Prim.Native.Nat.{ℕ, ◌+◌, ◌≤◌, ◌<◌}
use native.Mathlib.Nat.{add-zero}
use native.Mathlib.Omega.{arith}
use lib.Dec.{eqb, leb}
use lib.ListN.{length, get_or, length-append, get_or-append}
use lib.Seq.{take-length, get_or_at}
use borrow.Author.Tests.{eqb-true, eq-eqb, ne_eqb, leb-true, le-leb}
use Rattle.rack.specs.Lists.{differ, one, tabulate}
use Rattle.rack.specs.Wiring.{Link, Wiring}
use Rattle.rack.specs.Columns.{column, columns, hamming, Embedding}
use Rattle.rack.proofs.Logic.{not_true_false, by_bool, by_eq, by_lt, and_left, and_right, differ_cancel}
use Rattle.rack.proofs.Lists.{In, any_in, in_any}
use Rattle.rack.proofs.Tables.{length_tabulate, get_or_tabulate, in_tabulate, tabulate_in, tabulate_snoc}
use Rattle.rack.proofs.Paths.{link_joins}
use Rattle.rack.proofs.Crossing.{Rack, Crossing, crossing_only, link_inside, hops_one, link_crossing, column_crossing}
use Rattle.rack.proofs.Uniqueness.{relative}
use Rattle.planner.specs.OpenColumns.{separated, open_column, open_columns, columns_opened}
use Rattle.planner.proofs.AddressWords.{separates}
use Rattle.planner.proofs.ColumnsOpened.{columns_opened_all}
use Rattle.plan_tests.specs.Tests.{crossed, columns_in_order}
use Rattle.tested_plans.proofs.Crossed.{crossed_at}

-- ONE LINK of the test
module _ (k : ℕ) (r : ℕ → ℕ → Bool) where
  abbrev next : (o : ℕ) → Link → ℕ
  next o l = o + one (eqb (crossed k r l) o)

  abbrev InOrder : (o : ℕ) → Link → List Link → Type 0
  InOrder o l ls = (hamming k (r l.first) (r l.second) ≡ 1) × (crossed k r l ≤ o) × (columns_in_order k r (next o l) ls ≡ true)

  order_parts : (o : ℕ) (l : Link) (ls : List Link) → columns_in_order k r o (l ∷ ls) ≡ true → InOrder o l ls
  unfolding columns_in_order
  order_parts o l ls h =
      let one_test = eqb (hamming k (r l.first) (r l.second)) 1 in
      let t = and_left (one_test && leb (crossed k r l) o) (columns_in_order k r (next o l) ls) h in (
        eqb-true (hamming k (r l.first) (r l.second)) 1 (and_left one_test (leb (crossed k r l) o) t),
        leb-true (crossed k r l) o (and_right one_test (leb (crossed k r l) o) t),
        and_right (one_test && leb (crossed k r l) o) (columns_in_order k r (next o l) ls) h,
      )

  parts_order : (o : ℕ) (l : Link) (ls : List Link) → InOrder o l ls → columns_in_order k r o (l ∷ ls) ≡ true
  unfolding columns_in_order
  parts_order o l ls (e, le, h) = rw (e, le-leb (crossed k r l) o le) h

  pub order_ones : (o : ℕ) (ls : List Link) → columns_in_order k r o ls ≡ true → (l : Link) → In l ls → hamming k (r l.first) (r l.second) ≡ 1
  order_ones o [] h l i = absurd i
  order_ones o (y ∷ ls) h l (inl e) = rw e at (order_parts o y ls h).0
  order_ones o (y ∷ ls) h l (inr i) = order_ones (next o y) ls (order_parts o y ls h).2 l i

-- OPENING keeps the columns that are there
module _ (w : Wiring) where
  open_keeps : (l : Link) (cs : List (List Bool)) (j : ℕ) → j < length cs
      → (j < length (open_column w l cs)) × (get_or (open_column w l cs) j [] ≡ get_or cs j [])
  unfolding open_column
  open_keeps l cs j h =
      by_bool (separated l cs)
      (λ (t : separated l cs ≡ true). rw t (h, refl))
      (λ (t : separated l cs ≡ false). rw t (omega (arith, length-append cs (column w l ∷ [])), get_or-append cs (column w l ∷ []) [] j h))

  opens_keep : (ls : List Link) (cs : List (List Bool)) (j : ℕ) → j < length cs → get_or (open_columns w ls cs) j [] ≡ get_or cs j []
  unfolding open_columns
  opens_keep [] cs j h = refl
  opens_keep (l ∷ ls) cs j h = let o = open_keeps l cs j h in opens_keep ls (open_column w l cs) j o.0 ∙ o.1

module _ (w : Wiring) (rack : Rack w) (k : ℕ) (r : ℕ → ℕ → Bool) (m : Embedding w k r) where
  -- the first o columns of the rows, seen from card 0
  abbrev pub row_columns : (o : ℕ) → List (List Bool)
  row_columns o = tabulate o (relative w.cards r)

  module _ (l : Link) (i : In l w.links) where
    abbrev x : Crossing k r l.first l.second
    x = link_crossing w k r m rack l i

    at : crossed k r l ≡ x.at
    at = crossed_at k r l x

    crossed_inside : crossed k r l < k
    crossed_inside = omega (arith, at, x.inside)

    separates_row : (j : ℕ) → separates l (relative w.cards r j) ≡ differ (r l.first j) (r l.second j)
    separates_row j =
        let s = link_inside w rack l i in
        ap₂ differ (get_or_tabulate w.cards _ l.first false s.0) (get_or_tabulate w.cards _ l.second false s.1)
        ∙ differ_cancel (r l.first j) (r l.second j) (r 0 j)

    separates_only : (j : ℕ) → j < k → separates l (relative w.cards r j) ≡ true → crossed k r l ≡ j
    separates_only j h t = at ∙ crossing_only x j h (sym (separates_row j) ∙ t)

    crosses : separates l (relative w.cards r (crossed k r l)) ≡ true
    crosses = separates_row (crossed k r l) ∙ rw at x.split

    -- A LINK whose column is open opens none
    opens_none : (o : ℕ) → crossed k r l < o → open_column w l (row_columns o) ≡ row_columns o
    unfolding open_column separated
    opens_none o h =
        rw (in_any (separates l) (row_columns o) (relative w.cards r (crossed k r l)) (in_tabulate o _ (crossed k r l) h) crosses) refl

    -- another opens its own
    opens_own : (o : ℕ) → o ≤ crossed k r l → open_column w l (row_columns o) ≡ row_columns o ++ (relative w.cards r (crossed k r l) ∷ [])
    unfolding open_column separated
    opens_own o h = rw (not_true_false (separated l (row_columns o)) closed, ← own) refl
      where
        own : column w l ≡ relative w.cards r (crossed k r l)
        own = column_crossing w k r m rack l i ∙ ap (relative w.cards r) (sym at)

        closed : separated l (row_columns o) ≡ true → ⊥
        closed t =
            let v = any_in (separates l) (row_columns o) t in
            let j = tabulate_in o (relative w.cards r) v.0 v.1 in
            omega (arith, h, crossed_inside, j.1, separates_only j.0 (omega (arith, h, crossed_inside, j.1)) (rw j.2 v.2))

    opens_next : (o : ℕ) → crossed k r l ≤ o → open_column w l (row_columns o) ≡ row_columns (next k r o l)
    opens_next o h =
        by_eq (crossed k r l) o
        (λ e. rw (eq-eqb (crossed k r l) o e) (opens_own o (omega arith) ∙ ap (λ (j : ℕ). row_columns o ++ (relative w.cards r j ∷ [])) e
        ∙ sym (tabulate_snoc o (relative w.cards r))))
        (λ n. rw (ne_eqb (crossed k r l) o n, add-zero) (opens_none o (omega arith)))

    -- and it is the next one where the columns of the rows come out
    own_next : (ls : List Link) (o : ℕ) → open_columns w ls (open_column w l (row_columns o)) ≡ row_columns k → crossed k r l ≤ o
    own_next ls o h = by_lt (crossed k r l) o (λ t. omega arith) late
      where
        late : o ≤ crossed k r l → crossed k r l ≤ o
        late g =
            let cs = row_columns o ++ (relative w.cards r (crossed k r l) ∷ []) in
            let inside : o < k = omega (arith, crossed_inside) in
            let e : relative w.cards r (crossed k r l) ≡ relative w.cards r o =
            sym (get_or_at (row_columns o) (relative w.cards r (crossed k r l)) [] [] o (length_tabulate o _))
            ∙ sym (opens_keep w ls cs o (omega (arith, length-append (row_columns o) (relative w.cards r (crossed k r l) ∷ []), length_tabulate o (relative w.cards r))))
            ∙ ap (λ (c : List (List Bool)). get_or c o []) (ap (open_columns w ls) (sym (opens_own o g)) ∙ h) ∙ get_or_tabulate k (relative w.cards r) o [] inside in
            omega (arith, separates_only o inside (ap (separates l) (sym e) ∙ crosses))

  -- LINK BY LINK
  order_opens : (ls : List Link) (o : ℕ) → ((l : Link) → In l ls → In l w.links) → columns_in_order k r o ls ≡ true
      → open_columns w ls (row_columns o) ≡ row_columns k
  unfolding open_columns columns_in_order
  order_opens [] o sub h = ap row_columns (eqb-true o k h)
  order_opens (l ∷ ls) o sub h =
      let t = order_parts k r o l ls h in
      ap (open_columns w ls) (opens_next l (sub l (inl refl)) o t.1) ∙ order_opens ls (next k r o l) (λ y i. sub y (inr i)) t.2

  opens_order : (ls : List Link) (o : ℕ) → ((l : Link) → In l ls → In l w.links) → open_columns w ls (row_columns o) ≡ row_columns k
      → columns_in_order k r o ls ≡ true
  unfolding open_columns columns_in_order
  opens_order [] o sub h =
      eq-eqb o k (sym (length_tabulate o (relative w.cards r)) ∙ ap length h ∙ length_tabulate k (relative w.cards r))
  opens_order (l ∷ ls) o sub h =
      let i = sub l (inl refl) in
      let s = link_inside w rack l i in
      let le = own_next l i ls o h in
      parts_order k r o l ls (
        m l.first l.second s.0 s.1 ∙ hops_one w rack l.first l.second (link_joins w l i),
        le,
        opens_order ls (next k r o l) (λ y i. sub y (inr i)) (ap (open_columns w ls) (sym (opens_next l i o le)) ∙ h),
      )

  all_opened : open_columns w w.links [] ≡ columns w
  unfolding columns_opened
  all_opened = rw take-length at (columns_opened_all w rack k r m)

  pub order_columns : columns_in_order k r 0 w.links ≡ true → columns w ≡ row_columns k
  order_columns h = sym all_opened ∙ order_opens w.links 0 (λ l i. i) h

  pub columns_order : columns w ≡ row_columns k → columns_in_order k r 0 w.links ≡ true
  columns_order e = opens_order w.links 0 (λ l i. i) (all_opened ∙ e)
