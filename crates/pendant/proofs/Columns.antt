-- The columns with a last card on a last link: those without it, each with the bit of the card that it hangs on, and a last one that is 1 at the
-- new card alone. Assumes nothing.
use mathlib.Core.Path.{◌≡◌, refl, sym, ap, ap₂, ◌∙◌}
use mathlib.Core.Bool.{Bool, true, false, not}
use mathlib.Core.Logic.{inl, inr}
use mathlib.Core.List.{List, [], ◌∷◌, ◌++◌, map, map-append}
use Prim.Native.Nat.{ℕ, suc, ◌+◌, ◌<◌}
use native.Mathlib.Omega.{arith}
use lib.Dec.{ltb, leb-suc-suc}
use lib.ListN.{length, get_or, take, length-append}
use lib.Seq.{take-append_seam, get_or-append_seam}
use borrow.Author.Tests.{lt-ltb, le-ltb}
use Rattle.rack.specs.Lists.{differ, any, tabulate}
use Rattle.rack.specs.Wiring.{Link, Wiring}
use Rattle.rack.specs.Hops.{hops, connected}
use Rattle.rack.specs.Columns.{nearer_first, side, column, same_column, add_column, add_columns, columns}
use Rattle.rack.proofs.Logic.{true_not_false, not_true_false, by_bool, differ_self}
use Rattle.rack.proofs.Lists.{In, any_in, map_in}
use Rattle.rack.proofs.Tables.{get_or_tabulate, tabulate_ext, tabulate_snoc}
use Rattle.rack.proofs.Hops.{hops_self}
use Rattle.rack.proofs.Paths.{Ends}
use Rattle.rack.proofs.Columns.{same_column_eq, same_column_self}
use Rattle.pendant.proofs.Hops.{Pendant, hops_old, hops_from_new, hops_to_new}

-- A COLUMN with one bit more, that of card c; and the column that is 1 at card n alone
abbrev pub longer : (c : ℕ) → List Bool → List Bool
longer c x = x ++ (get_or x c false ∷ [])

abbrev pub last_column : (n : ℕ) → List Bool
last_column n = tabulate n (λ a. false) ++ (true ∷ [])

snoc_parts : {A : Type 0} (xs ys : List A) (x y : A) → xs ++ (x ∷ []) ≡ ys ++ (y ∷ []) → (xs ≡ ys) × (x ≡ y)
snoc_parts {A} xs ys x y e =
    let l : length xs ≡ length ys = omega (arith, ap length e, length-append xs (x ∷ []), length-append ys (y ∷ [])) in (
      sym (take-append_seam xs (x ∷ [])) ∙ ap₂ take l e ∙ take-append_seam ys (y ∷ []),
      sym (get_or-append_seam xs x [] x) ∙ ap₂ (λ (i : ℕ) (t : List A). get_or t i x) l e ∙ get_or-append_seam ys y [] x,
    )

module _ (c : ℕ) where
  longer_same : (x y : List Bool) → same_column (longer c x) (longer c y) ≡ same_column x y
  longer_same x y =
      by_bool (same_column x y)
      (λ t. rw (same_column_eq x y t) (same_column_self (longer c y) ∙ sym (same_column_self y)))
      (λ t. not_true_false (same_column (longer c x) (longer c y)) (λ u.
      let e : x ≡ y = (snoc_parts x y (get_or x c false) (get_or y c false) (same_column_eq (longer c x) (longer c y) u)).0 in
      true_not_false (same_column x y) (rw e (same_column_self y)) t) ∙ sym t)

  longer_any : (x : List Bool) (ys : List (List Bool)) → any (same_column (longer c x)) (map (longer c) ys) ≡ any (same_column x) ys
  longer_any x [] = refl
  longer_any x (y ∷ ys) = rw (longer_same x y, longer_any x ys) refl

  longer_add : (x : List Bool) (ys : List (List Bool)) → add_column (longer c x) (map (longer c) ys) ≡ map (longer c) (add_column x ys)
  unfolding add_column
  longer_add x ys =
      rw (longer_any x ys) (by_bool (any (same_column x) ys)
      (λ (t : any (same_column x) ys ≡ true). rw t refl)
      (λ (t : any (same_column x) ys ≡ false). rw t (sym (map-append (longer c) ys (x ∷ [])))))

differ_not : (x : Bool) → differ (not x) x ≡ true
differ_not true = refl
differ_not false = refl

adds_last : (w : Wiring) (ls : List Link) (l : Link) (cs : List (List Bool))
    → add_columns w (ls ++ (l ∷ [])) cs ≡ add_column (column w l) (add_columns w ls cs)
unfolding add_columns
adds_last w [] l cs = refl
adds_last w (k ∷ ls) l cs = adds_last w ls l (add_column (column w k) cs)

module _ {w : Wiring} {c : ℕ} {v : Wiring} (pd : Pendant w c v) (whole : connected w ≡ true) where
  abbrev n : ℕ
  n = w.cards

  zero_inside : 0 < n
  zero_inside = omega (arith, pd.inside)

  column_snoc : (l : Link) → column v l ≡ tabulate n (side v l) ++ (side v l n ∷ [])
  unfolding column
  column_snoc l =
      let e : v.cards ≡ n + 1 = omega (arith, pd.cards) in
      ap (λ (i : ℕ). tabulate i (side v l)) e ∙ tabulate_snoc n (side v l)

  -- A LINK of w
  nearer_old : (l : Link) → In l w.links → (a : ℕ) → a < n → nearer_first v l a ≡ nearer_first w l a
  unfolding nearer_first
  nearer_old l m a h = let i = pd.joined l m in ap₂ ltb (hops_old pd whole a l.first h i.0) (hops_old pd whole a l.second h i.1)

  nearer_new : (l : Link) → In l w.links → nearer_first v l n ≡ nearer_first w l c
  unfolding nearer_first
  nearer_new l m =
      let i = pd.joined l m in
      ap₂ ltb (hops_from_new pd whole l.first i.0) (hops_from_new pd whole l.second i.1)
      ∙ leb-suc-suc (suc (hops w c l.first)) (hops w c l.second)

  column_old : (l : Link) → In l w.links → column v l ≡ longer c (column w l)
  unfolding column side
  column_old l m =
      column_snoc l
      ∙ ap₂ (λ (xs : List Bool) (b : Bool). xs ++ (b ∷ []))
      (tabulate_ext n (side v l) (side w l) (λ a h. ap₂ differ (nearer_old l m a h) (nearer_old l m 0 zero_inside)))
      (ap₂ differ (nearer_new l m) (nearer_old l m 0 zero_inside) ∙ sym (get_or_tabulate n (side w l) c false pd.inside))

  columns_old : (ls : List Link) → ((l : Link) → In l ls → In l w.links) → (cs : List (List Bool))
      → add_columns v ls (map (longer c) cs) ≡ map (longer c) (add_columns w ls cs)
  unfolding add_columns
  columns_old [] sub cs = refl
  columns_old (l ∷ ls) sub cs =
      ap (add_columns v ls)
      (ap (λ (x : List Bool). add_column x (map (longer c) cs)) (column_old l (sub l (inl refl))) ∙ longer_add c (column w l) cs)
      ∙ columns_old ls (λ k m. sub k (inr m)) (add_column (column w l) cs)

  -- THE LAST LINK parts the last card from all others
  abbrev Parts : Link → Type 0
  Parts l = ((a : ℕ) → a < n → side v l a ≡ false) × (side v l n ≡ true)

  further : (a : ℕ) → a < n → hops v a n ≡ suc (hops v a c)
  further a h = hops_to_new pd whole a h ∙ ap suc (sym (hops_old pd whole a c h pd.inside))

  -- all others are near its one end, and the last card is near the other
  parts_nearer : (l : Link) (near : Bool) → ((a : ℕ) → a < n → nearer_first v l a ≡ near) → nearer_first v l n ≡ not near → Parts l
  unfolding side
  parts_nearer l near others new =
      ((λ a h. rw (others a h, others 0 zero_inside) (differ_self near)), rw (new, others 0 zero_inside) (differ_not near))

  parts : (l : Link) → Ends n c l → Parts l
  unfolding nearer_first
  parts l (inl e) =
      parts_nearer l false (λ a h. rw (e.0, e.1) (le-ltb (hops v a n) (hops v a c) (omega (arith, further a h))))
      (rw (e.0, e.1) (lt-ltb (hops v n n) (hops v n c) (omega (arith, hops_self v n, hops_from_new pd whole c pd.inside))))
  parts l (inr e) =
      parts_nearer l true (λ a h. rw (e.0, e.1) (lt-ltb (hops v a c) (hops v a n) (omega (arith, further a h))))
      (rw (e.0, e.1) (le-ltb (hops v n c) (hops v n n) (omega (arith, hops_self v n))))

  column_last : column v pd.last ≡ last_column n
  column_last =
      let l = pd.last in
      let p = parts l pd.ends in
      column_snoc l ∙ ap₂ (λ (xs : List Bool) (b : Bool). xs ++ (b ∷ [])) (tabulate_ext n (side v l) (λ a. false) p.0) p.1

  last_new : (ys : List (List Bool)) → any (same_column (last_column n)) (map (longer c) ys) ≡ false
  last_new ys = not_true_false (any (same_column (last_column n)) (map (longer c) ys)) (λ t. go (any_in (same_column (last_column n)) (map (longer c) ys) t))
    where
      no_longer : (y : List Bool) → last_column n ≡ longer c y → ⊥
      no_longer y e =
          let s = snoc_parts (tabulate n (λ a. false)) y true (get_or y c false) e in
          true_not_false (get_or y c false) (sym s.1)
          (ap (λ (x : List Bool). get_or x c false) (sym s.0) ∙ get_or_tabulate n (λ a. false) c false pd.inside)

      go : (x : List Bool) × In x (map (longer c) ys) × (same_column (last_column n) x ≡ true) → ⊥
      go (x, m, t) = let r = map_in (longer c) ys x m in no_longer r.0 (same_column_eq (last_column n) x t ∙ sym r.2)

  add_last : (ys : List (List Bool)) → add_column (last_column n) (map (longer c) ys) ≡ map (longer c) ys ++ (last_column n ∷ [])
  unfolding add_column
  add_last ys = rw (last_new ys) refl

  pub columns_pendant : columns v ≡ map (longer c) (columns w) ++ (last_column n ∷ [])
  unfolding columns
  columns_pendant =
      ap (λ (ls : List Link). add_columns v ls []) pd.links ∙ adds_last v w.links pd.last []
      ∙ ap₂ add_column column_last (columns_old w.links (λ l m. m) [])
      ∙ add_last (add_columns w w.links [])
