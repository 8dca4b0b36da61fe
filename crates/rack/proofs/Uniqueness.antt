-- Every embedding has the planner's columns, each once and no other, and so the planner's addresses are an embedding where there is one. Assumes nothing.
use mathlib.Core.Path.{◌≡◌, refl, sym, ap, ◌∙◌, subst}
use mathlib.Core.Bool.{Bool, true, false, ◌&&◌, not, cond}
use mathlib.Core.Logic.{inl, inr, ⊎_elim}
use mathlib.Core.List.{List, map}
use Prim.Native.Nat.{ℕ, ◌<◌}
use native.Mathlib.Omega.{arith}
use lib.ListN.{length, get_or}
use borrow.Author.Tests.{not-false, not-true}
use Rattle.rack.specs.Lists.{differ, count, all, filter, tabulate, range}
use Rattle.rack.specs.Wiring.{Link, Wiring}
use Rattle.rack.specs.Hops.{hops}
use Rattle.rack.specs.Columns.{columns, column_count, address, hamming, Embedding}
use Rattle.rack.specs.Embeddings.{column_of, constant, from_card_zero, reduced_columns}
use Rattle.rack.proofs.Logic.{true_not_false, not_true_false, by_bool, or_cases, nor_left, nor_right, differ_self, differ_sym, differ_false, differ_cancel}
use Rattle.rack.proofs.Lists.{In, Distinct, all_in, all_false, in_filter, filter_in, in_map, map_in, distinct_filter, distinct_map, count_ext, count_map, count_filter, count_le, length_le}
use Rattle.rack.proofs.Tables.{get_or_tabulate, tabulate_ext, map_tabulate, in_tabulate, tabulate_in, in_range, range_in, distinct_range}
use Rattle.rack.proofs.Paths.{Ends, Changes, path_changes, linked_link}
use Rattle.rack.proofs.Hops.{hops_path, connected_all}
use Rattle.rack.proofs.Columns.{link_column, column_link, columns_distinct, address_count}
use Rattle.rack.proofs.Crossing.{Rack, crossing_only, link_inside, link_crossing, column_crossing}

-- A COLUMN of rows, seen from card 0
abbrev pub relative : (n : ℕ) (r : ℕ → ℕ → Bool) (j : ℕ) → List Bool
relative n r j = tabulate n (λ c. differ (r c j) (r 0 j))

from_zero_relative : (n : ℕ) → 0 < n → (r : ℕ → ℕ → Bool) (j : ℕ) → from_card_zero (column_of n r j) ≡ relative n r j
unfolding from_card_zero column_of
from_zero_relative n some r j =
    rw (get_or_tabulate n (λ c. r c j) 0 false some) (by_bool (r 0 j) complement same)
  where
    complement : r 0 j ≡ true → cond (r 0 j) (map not (tabulate n (λ c. r c j))) (tabulate n (λ c. r c j)) ≡ relative n r j
    complement e = rw e (map_tabulate not n (λ c. r c j) ∙ tabulate_ext n (λ c. not (r c j)) (λ c. differ (r c j) true) (λ c h. differ_sym true (r c j)))

    same : r 0 j ≡ false → cond (r 0 j) (map not (tabulate n (λ c. r c j))) (tabulate n (λ c. r c j)) ≡ relative n r j
    same e = rw e (tabulate_ext n (λ c. r c j) (λ c. differ (r c j) false) (λ c h. differ_sym false (r c j)))

-- two cards differ in it
abbrev pub Varies : (n : ℕ) (r : ℕ → ℕ → Bool) (j : ℕ) → Type 0
Varies n r j = (a : ℕ) × (b : ℕ) × (a < n) × (b < n) × (differ (r a j) (r b j) ≡ true)

module _ (n : ℕ) (r : ℕ → ℕ → Bool) (j : ℕ) where
  constant_agrees : constant (column_of n r j) ≡ true → (a b : ℕ) → a < n → b < n → differ (r a j) (r b j) ≡ false
  unfolding constant column_of
  constant_agrees h a b ha hb = ⊎_elim ones zeros (or_cases (all (λ x. x) (tabulate n (λ c. r c j))) (all not (tabulate n (λ c. r c j))) h)
    where
      ones : all (λ x. x) (tabulate n (λ c. r c j)) ≡ true → differ (r a j) (r b j) ≡ false
      ones t =
          rw (
            all_in (λ x. x) (tabulate n (λ c. r c j)) t (r a j) (in_tabulate n (λ c. r c j) a ha),
            all_in (λ x. x) (tabulate n (λ c. r c j)) t (r b j) (in_tabulate n (λ c. r c j) b hb),
          ) refl

      zeros : all not (tabulate n (λ c. r c j)) ≡ true → differ (r a j) (r b j) ≡ false
      zeros t =
          rw (
            not-true (r a j) (all_in not (tabulate n (λ c. r c j)) t (r a j) (in_tabulate n (λ c. r c j) a ha)),
            not-true (r b j) (all_in not (tabulate n (λ c. r c j)) t (r b j) (in_tabulate n (λ c. r c j) b hb)),
          ) refl

  inconstant_varies : constant (column_of n r j) ≡ false → Varies n r j
  unfolding constant column_of
  inconstant_varies h =
      let x = all_false (λ x. x) (tabulate n (λ c. r c j)) (nor_left (all (λ x. x) (tabulate n (λ c. r c j))) (all not (tabulate n (λ c. r c j))) h) in
      let y = all_false not (tabulate n (λ c. r c j)) (nor_right (all (λ x. x) (tabulate n (λ c. r c j))) (all not (tabulate n (λ c. r c j))) h) in
      let a = tabulate_in n (λ c. r c j) x.0 x.1 in
      let b = tabulate_in n (λ c. r c j) y.0 y.1 in
      (a.0, b.0, a.1, b.1, rw (a.2 ∙ x.2, b.2 ∙ not-false y.0 y.2) refl)

  varies_inconstant : Varies n r j → constant (column_of n r j) ≡ false
  varies_inconstant v =
      not_true_false (constant (column_of n r j)) (λ t. true_not_false (differ (r v.0 j) (r v.1 j)) v.4 (constant_agrees t v.0 v.1 v.2 v.3))

  relative_bit : (c : ℕ) → c < n → get_or (relative n r j) c false ≡ differ (r c j) (r 0 j)
  relative_bit c h = get_or_tabulate n (λ c. differ (r c j) (r 0 j)) c false h

module _ (w : Wiring) (rack : Rack w) (k : ℕ) (r : ℕ → ℕ → Bool) (m : Embedding w k r) where
  -- a link that crosses a column that varies
  abbrev Crosser : (j : ℕ) → Type 0
  Crosser j = (l : Link) × (i : In l w.links) × (differ (r l.first j) (r l.second j) ≡ true)

  crosser : (j : ℕ) → Varies w.cards r j → Crosser j
  crosser j (a, b, ha, hb, d) =
      go (path_changes w (λ c. not (differ (r c j) (r a j))) (hops w a b) a b (hops_path w a b (connected_all w rack.whole a b ha hb))
      (ap not (differ_self (r a j))) (ap not (differ_sym (r b j) (r a j) ∙ d)))
    where
      ends : (p q : ℕ) → differ (r p j) (r q j) ≡ true → (l : Link) × In l w.links × Ends p q l → Crosser j
      ends p q h (l, i, inl e) = (l, i, rw (e.0, e.1) h)
      ends p q h (l, i, inr e) = (l, i, rw (e.0, e.1) (differ_sym (r q j) (r p j) ∙ h))

      go : Changes w (λ c. not (differ (r c j) (r a j))) → Crosser j
      go (p, q, e, hp, hq) =
          ends p q (rw (differ_false (r p j) (r a j) (not-true (differ (r p j) (r a j)) hp))
          (differ_sym (r a j) (r q j) ∙ not-false (differ (r q j) (r a j)) hq)) (linked_link w p q e)

  crosses_at : (j : ℕ) → j < k → (c : Crosser j) → (link_crossing w k r m rack c.0 c.1).at ≡ j
  crosses_at j h c = crossing_only (link_crossing w k r m rack c.0 c.1) j h c.2

  -- THE COLUMNS of the links are exactly the columns that vary, seen from card 0
  relative_in : (j : ℕ) → j < k → Varies w.cards r j → In (relative w.cards r j) (columns w)
  relative_in j h v =
      let c = crosser j v in
      subst (λ (y : List Bool). In y (columns w))
      (column_crossing w k r m rack c.0 c.1 ∙ ap (relative w.cards r) (crosses_at j h c))
      (link_column w c.0 c.1)

  in_relative : (y : List Bool) → In y (columns w) → (j : ℕ) × (j < k) × Varies w.cards r j × (relative w.cards r j ≡ y)
  in_relative y i =
      let l = column_link w y i in
      let x = link_crossing w k r m rack l.0 l.1 in
      let e = link_inside w rack l.0 l.1 in
      (x.at, x.inside, (l.0.first, l.0.second, e.0, e.1, x.split), sym (column_crossing w k r m rack l.0 l.1) ∙ l.2)

  -- two columns that vary are different, seen from card 0
  relative_once : (i j : ℕ) → i < k → j < k → Varies w.cards r i → relative w.cards r i ≡ relative w.cards r j → i ≡ j
  relative_once i j hi hj v e = sym (crosses_at i hi c) ∙ crossing_only (link_crossing w k r m rack c.0 c.1) j hj crosses_j
    where
      c : Crosser i
      c = crosser i v

      at_card : (u : ℕ) → u < w.cards → differ (r u i) (r 0 i) ≡ differ (r u j) (r 0 j)
      at_card u h = sym (relative_bit w.cards r i u h) ∙ ap (λ (t : List Bool). get_or t u false) e ∙ relative_bit w.cards r j u h

      crosses_j : differ (r c.0.first j) (r c.0.second j) ≡ true
      crosses_j =
          let s = link_inside w rack c.0 c.1 in
          sym (differ_cancel (r c.0.first j) (r c.0.second j) (r 0 j))
          ∙ rw (← (at_card c.0.first s.0), ← (at_card c.0.second s.1)) (differ_cancel (r c.0.first i) (r c.0.second i) (r 0 i) ∙ c.2)

  -- THE REDUCED COLUMNS are the planner's
  abbrev varying : ℕ → Bool
  varying j = not (constant (column_of w.cards r j))

  abbrev image : ℕ → List Bool
  image j = from_card_zero (column_of w.cards r j)

  image_relative : (j : ℕ) → image j ≡ relative w.cards r j
  image_relative j = from_zero_relative w.cards rack.some r j

  varying_varies : (j : ℕ) → varying j ≡ true → Varies w.cards r j
  varying_varies j h = inconstant_varies w.cards r j (not-true (constant (column_of w.cards r j)) h)

  reduced_in : (y : List Bool) → In y (reduced_columns w.cards k r) → In y (columns w)
  unfolding reduced_columns
  reduced_in y i =
      let f = map_in image (filter varying (range k)) y i in
      let g = filter_in varying (range k) f.0 f.1 in
      subst (λ (y : List Bool). In y (columns w)) (sym (image_relative f.0) ∙ f.2) (relative_in f.0 (range_in k f.0 g.0) (varying_varies f.0 g.1))

  in_reduced : (y : List Bool) → In y (columns w) → In y (reduced_columns w.cards k r)
  unfolding reduced_columns
  in_reduced y i =
      let x = in_relative y i in
      subst (λ (y : List Bool). In y (map image (filter varying (range k)))) (image_relative x.0 ∙ x.3)
      (in_map image (filter varying (range k)) x.0
      (in_filter varying (range k) x.0 (in_range k x.0 x.1) (ap not (varies_inconstant w.cards r x.0 x.2))))

  reduced_distinct : Distinct (reduced_columns w.cards k r)
  unfolding reduced_columns
  reduced_distinct = distinct_map image (filter varying (range k)) (distinct_filter varying (range k) (distinct_range k)) inject
    where
      inject : (i j : ℕ) → In i (filter varying (range k)) → In j (filter varying (range k)) → image i ≡ image j → i ≡ j
      inject i j hi hj e =
          let fi = filter_in varying (range k) i hi in
          let fj = filter_in varying (range k) j hj in
          relative_once i j (range_in k i fi.0) (range_in k j fj.0) (varying_varies i fi.1) (sym (image_relative i) ∙ e ∙ image_relative j)

  -- and so as many of either kind pass any test
  pub reduced_count : (p : List Bool → Bool) → count p (reduced_columns w.cards k r) ≡ count p (columns w)
  reduced_count p =
      omega (
        arith,
        count_le p (reduced_columns w.cards k r) (columns w) reduced_distinct reduced_in,
        count_le p (columns w)
            (reduced_columns w.cards k r) (columns_distinct w) in_reduced,
      )

  pub reduced_length : length (reduced_columns w.cards k r) ≡ length (columns w)
  reduced_length =
      omega (
        arith,
        length_le (reduced_columns w.cards k r) (columns w) reduced_distinct reduced_in,
        length_le (columns w)
            (reduced_columns w.cards k r) (columns_distinct w) in_reduced,
      )

  -- two cards differ in as many reduced columns as places of their rows
  reduced_hamming : (a b : ℕ) → a < w.cards → b < w.cards → count (λ c. differ (get_or c a false) (get_or c b false)) (reduced_columns w.cards k r) ≡ hamming k (r a) (r b)
  unfolding reduced_columns hamming
  reduced_hamming a b ha hb =
      let p : List Bool → Bool = λ c. differ (get_or c a false) (get_or c b false) in
      count_map p image (filter varying (range k))
      ∙ count_filter (λ j. p (image j)) varying (range k)
      ∙ count_ext (λ j. varying j && p (image j)) (λ j. differ (r a j) (r b j)) (range k) (λ j i. at j)
    where
      bits : (j : ℕ) → differ (get_or (image j) a false) (get_or (image j) b false) ≡ differ (r a j) (r b j)
      bits j =
          rw (image_relative j, relative_bit w.cards r j a ha, relative_bit w.cards r j b hb)
          (differ_cancel (r a j) (r b j) (r 0 j))

      at : (j : ℕ) → (varying j && differ (get_or (image j) a false) (get_or (image j) b false)) ≡ differ (r a j) (r b j)
      at j =
          by_bool (constant (column_of w.cards r j))
          (λ (t : constant (column_of w.cards r j) ≡ true). rw t (sym (constant_agrees w.cards r j t a b ha hb)))
          (λ (t : constant (column_of w.cards r j) ≡ false). rw t (bits j))

  pub addresses_embed : Embedding w (column_count w) (address w)
  addresses_embed a b ha hb = address_count w a b ∙ sym (reduced_count (λ c. differ (get_or c a false) (get_or c b false))) ∙ reduced_hamming a b ha hb ∙ m a b ha hb
