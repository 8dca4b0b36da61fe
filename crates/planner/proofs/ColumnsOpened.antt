-- In a rack with an embedding, the columns that the planner opens are the rack's columns. Assumes nothing.
use mathlib.Core.Path.{◌≡◌, refl, sym, ap, ap₂, ◌∙◌}
use mathlib.Core.Bool.{Bool, true, false, cond}
use mathlib.Core.Logic.{inl, inr, ⊎_elim}
use mathlib.Core.List.{List, [], ◌∷◌, ◌++◌}
use Prim.Native.Nat.{ℕ, ◌<◌}
use lib.ListN.{get_or}
use lib.Seq.{take-length}
use Rattle.rack.specs.Lists.{differ, any}
use Rattle.rack.specs.Wiring.{Link, Wiring, link_count}
use Rattle.rack.specs.Columns.{column, same_column, add_column, add_columns, columns, Embedding}
use Rattle.rack.proofs.Logic.{true_not_false, not_true_false, by_bool, differ_cancel}
use Rattle.rack.proofs.Lists.{In, any_ext, in_append}
use Rattle.rack.proofs.Tables.{get_or_tabulate}
use Rattle.rack.proofs.Columns.{same_column_eq, same_column_self}
use Rattle.rack.proofs.Crossing.{Rack, link_inside, crossing_only, link_crossing, column_crossing}
use Rattle.rack.proofs.Uniqueness.{relative}
use Rattle.planner.specs.OpenColumns.{separated, open_column, open_columns, columns_opened}
use Rattle.planner.proofs.AddressWords.{separates}

module _ (w : Wiring) (rack : Rack w) (k : ℕ) (r : ℕ → ℕ → Bool) (m : Embedding w k r) where
  -- where a link crosses
  abbrev crossed : (l : Link) → In l w.links → ℕ
  crossed l i = (link_crossing w k r m rack l i).at

  column_ends : (l y : Link) (i : In l w.links) (j : In y w.links) → separates l (column w y) ≡ differ (r l.first (crossed y j)) (r l.second (crossed y j))
  column_ends l y i j =
      ap₂ differ (bit l.first (link_inside w rack l i).0) (bit l.second (link_inside w rack l i).1)
      ∙ differ_cancel (r l.first (crossed y j)) (r l.second (crossed y j)) (r 0 (crossed y j))
    where
      bit : (c : ℕ) → c < w.cards → get_or (column w y) c false ≡ differ (r c (crossed y j)) (r 0 (crossed y j))
      bit c h =
          ap (λ (x : List Bool). get_or x c false) (column_crossing w k r m rack y j) ∙ get_or_tabulate w.cards
          (λ c. differ (r c (crossed y j)) (r 0 (crossed y j))) c false h

  -- THE COLUMN OF A LINK separates the ends of another exactly if both have the same column
  separates_same : (l y : Link) → In l w.links → In y w.links → separates l (column w y) ≡ same_column (column w l) (column w y)
  separates_same l y i j = by_bool (separates l (column w y)) apart together
    where
      apart : separates l (column w y) ≡ true → separates l (column w y) ≡ same_column (column w l) (column w y)
      apart t =
          let at : crossed l i ≡ crossed y j =
          crossing_only (link_crossing w k r m rack l i) (crossed y j) (link_crossing w k r m rack y j).inside (sym (column_ends l y i j) ∙ t) in
          let e : column w l ≡ column w y = column_crossing w k r m rack l i ∙ ap (relative w.cards r) at ∙ sym (column_crossing w k r m rack y j) in
          t ∙ sym (ap (same_column (column w l)) (sym e) ∙ same_column_self (column w l))

      together : separates l (column w y) ≡ false → separates l (column w y) ≡ same_column (column w l) (column w y)
      together f =
          f ∙ sym (not_true_false (same_column (column w l) (column w y)) (λ t. true_not_false (separates l (column w l))
          (column_ends l l i i ∙ (link_crossing w k r m rack l i).split) (ap (separates l) (same_column_eq (column w l) (column w y) t) ∙ f)))

  -- all of these columns are columns of links
  abbrev OfLinks : List (List Bool) → Type 0
  OfLinks cs = (x : List Bool) → In x cs → (l : Link) × In l w.links × (column w l ≡ x)

  separated_has : (l : Link) (cs : List (List Bool)) → In l w.links → OfLinks cs → separated l cs ≡ any (same_column (column w l)) cs
  unfolding separated
  separated_has l cs i all =
      any_ext (separates l) (same_column (column w l)) cs (λ x h. let y = all x h in rw (← y.2) (separates_same l y.0 i y.1))

  open_adds : (l : Link) (cs : List (List Bool)) → In l w.links → OfLinks cs → open_column w l cs ≡ add_column (column w l) cs
  unfolding open_column add_column
  open_adds l cs i all = ap (λ (b : Bool). cond b cs (cs ++ (column w l ∷ []))) (separated_has l cs i all)

  open_of_links : (l : Link) (cs : List (List Bool)) → In l w.links → OfLinks cs → OfLinks (open_column w l cs)
  unfolding open_column
  open_of_links l cs i all x h = by_bool (separated l cs) (λ (e : separated l cs ≡ true). all x (rw e at h)) more
    where
      more : separated l cs ≡ false → (l : Link) × In l w.links × (column w l ≡ x)
      more e = ⊎_elim (all x) (λ u. ⊎_elim (λ f. (l, i, f)) (λ z. absurd z) u) (in_append x cs (column w l ∷ []) (rw e at h))

  opens_add : (ls : List Link) (cs : List (List Bool)) → ((l : Link) → In l ls → In l w.links) → OfLinks cs → open_columns w ls cs ≡ add_columns w ls cs
  unfolding open_columns add_columns
  opens_add [] cs sub all = refl
  opens_add (l ∷ ls) cs sub all =
      opens_add ls (open_column w l cs) (λ y h. sub y (inr h)) (open_of_links l cs (sub l (inl refl)) all)
      ∙ ap (add_columns w ls) (open_adds l cs (sub l (inl refl)) all)

  pub columns_opened_all : columns_opened w (link_count w) ≡ columns w
  unfolding columns_opened columns
  columns_opened_all = rw take-length (opens_add w.links [] (λ l h. h) (λ x h. absurd h))
