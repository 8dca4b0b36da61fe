-- The list of columns: it has each link's column, no other, and each once; differing places counted over it. Assumes nothing.
use mathlib.Core.Path.{◌≡◌, refl, sym, ap, ◌∙◌}
use mathlib.Core.Bool.{Bool, true, false, not}
use mathlib.Core.Logic.{◌⊎◌, inl, inr, ⊎_elim}
use mathlib.Core.List.{List, [], ◌∷◌}
use Prim.Native.Nat.{ℕ, ◌≤◌, ◌<◌}
use lib.ListN.{length, get_or, get_or-eq_default}
use borrow.Author.Tests.{not-true}
use Rattle.rack.specs.Lists.{differ, count, any, tabulate}
use Rattle.rack.specs.Wiring.{Link, Wiring}
use Rattle.rack.specs.Columns.{nearer_first, side, column, same_column, add_column, add_columns, columns, column_count, address, hamming}
use Rattle.rack.specs.Embeddings.{column_of}
use Rattle.rack.proofs.Logic.{true_not_false, by_bool, by_lt, differ_self, differ_false}
use Rattle.rack.proofs.Lists.{In, Distinct, any_in, in_any, in_left, in_right, in_append, in_get_or, distinct_snoc, same_eq, same_self}
use Rattle.rack.proofs.Tables.{get_or_tabulate, get_or_tabulate_past, length_tabulate, tabulate_get_or, count_tabulate}

pub same_column_eq : (c d : List Bool) → same_column c d ≡ true → c ≡ d
unfolding same_column
same_column_eq c d h = same_eq (λ x y. not (differ x y)) (λ x y e. differ_false x y (not-true (differ x y) e)) c d h

pub same_column_self : (c : List Bool) → same_column c c ≡ true
unfolding same_column
same_column_self c = same_self (λ x y. not (differ x y)) (λ x. ap not (differ_self x)) c

has_in : (c : List Bool) (cs : List (List Bool)) → any (same_column c) cs ≡ true → In c cs
has_in c cs h = let r = any_in (same_column c) cs h in rw (same_column_eq c r.0 r.2) r.1

in_has : (c : List Bool) (cs : List (List Bool)) → In c cs → any (same_column c) cs ≡ true
in_has c cs m = in_any (same_column c) cs c m (same_column_self c)

-- ONE COLUMN MORE, if it is new
module _ (c : List Bool) (cs : List (List Bool)) where
  add_old : (x : List Bool) → In x cs → In x (add_column c cs)
  unfolding add_column
  add_old x m =
      by_bool (any (same_column c) cs)
      (λ (e : any (same_column c) cs ≡ true). rw e m)
      (λ (e : any (same_column c) cs ≡ false). rw e (in_left x cs (c ∷ []) m))

  add_new : In c (add_column c cs)
  unfolding add_column
  add_new =
      by_bool (any (same_column c) cs)
      (λ (e : any (same_column c) cs ≡ true). rw e (has_in c cs e))
      (λ (e : any (same_column c) cs ≡ false). rw e (in_right c cs (c ∷ []) (inl refl)))

  add_cases : (x : List Bool) → In x (add_column c cs) → In x cs ⊎ (c ≡ x)
  unfolding add_column
  add_cases x m = by_bool (any (same_column c) cs) (λ (e : any (same_column c) cs ≡ true). inl (rw e at m)) new
    where
      new : any (same_column c) cs ≡ false → In x cs ⊎ (c ≡ x)
      new e = ⊎_elim (λ k. inl k) (λ k. ⊎_elim (λ f. inr f) (λ z. absurd z) k) (in_append x cs (c ∷ []) (rw e at m))

  add_distinct : Distinct cs → Distinct (add_column c cs)
  unfolding add_column
  add_distinct d =
      by_bool (any (same_column c) cs)
      (λ (e : any (same_column c) cs ≡ true). rw e d)
      (λ (e : any (same_column c) cs ≡ false). rw e (distinct_snoc c cs d (λ m. true_not_false (any (same_column c) cs) (in_has c cs m) e)))

-- the differing places of two cards' bits in columns are the columns in which they differ
pub hamming_count : (cs : List (List Bool)) (a b : ℕ)
    → hamming (length cs) (λ j. get_or (get_or cs j []) a false) (λ j. get_or (get_or cs j []) b false) ≡ count (λ c. differ (get_or c a false) (get_or c b false)) cs
unfolding hamming
hamming_count cs a b =
    let p : List Bool → Bool = λ c. differ (get_or c a false) (get_or c b false) in
    sym (count_tabulate p (length cs) (λ j. get_or cs j [])) ∙ ap (count p) (tabulate_get_or cs [])

-- THE COLUMNS of links
module _ (w : Wiring) where
  adds_old : (ls : List Link) (cs : List (List Bool)) (x : List Bool) → In x cs → In x (add_columns w ls cs)
  unfolding add_columns
  adds_old [] cs x m = m
  adds_old (l ∷ ls) cs x m = adds_old ls (add_column (column w l) cs) x (add_old (column w l) cs x m)

  adds_new : (ls : List Link) (cs : List (List Bool)) (l : Link) → In l ls → In (column w l) (add_columns w ls cs)
  unfolding add_columns
  adds_new [] cs l m = absurd m
  adds_new (k ∷ ls) cs l (inl e) = adds_old ls (add_column (column w k) cs) (column w l) (rw e (add_new (column w l) cs))
  adds_new (k ∷ ls) cs l (inr m) = adds_new ls (add_column (column w k) cs) l m

  adds_cases : (ls : List Link) (cs : List (List Bool)) (x : List Bool) → In x (add_columns w ls cs) → In x cs ⊎ ((l : Link) × In l ls × (column w l ≡ x))
  unfolding add_columns
  adds_cases [] cs x m = inl m
  adds_cases (k ∷ ls) cs x m = go (adds_cases ls (add_column (column w k) cs) x m)
    where
      go : In x (add_column (column w k) cs) ⊎ ((l : Link) × In l ls × (column w l ≡ x)) → In x cs ⊎ ((l : Link) × In l (k ∷ ls) × (column w l ≡ x))
      go (inl i) = ⊎_elim (λ h. inl h) (λ e. inr (k, inl refl, e)) (add_cases (column w k) cs x i)
      go (inr r) = inr (r.0, inr r.1, r.2)

  adds_distinct : (ls : List Link) (cs : List (List Bool)) → Distinct cs → Distinct (add_columns w ls cs)
  unfolding add_columns
  adds_distinct [] cs d = d
  adds_distinct (k ∷ ls) cs d = adds_distinct ls (add_column (column w k) cs) (add_distinct (column w k) cs d)

  pub link_column : (l : Link) → In l w.links → In (column w l) (columns w)
  unfolding columns
  link_column l m = adds_new w.links [] l m

  pub column_link : (x : List Bool) → In x (columns w) → (l : Link) × In l w.links × (column w l ≡ x)
  unfolding columns
  column_link x m = ⊎_elim (λ z. absurd z) (λ r. r) (adds_cases w.links [] x m)

  pub columns_distinct : Distinct (columns w)
  unfolding columns
  columns_distinct = adds_distinct w.links [] tt

  pub column_bit : (l : Link) (c : ℕ) → c < w.cards → get_or (column w l) c false ≡ side w l c
  unfolding column
  column_bit l c h = get_or_tabulate w.cards (side w l) c false h

  column_zero : (l : Link) → get_or (column w l) 0 false ≡ false
  unfolding column side
  column_zero l =
      by_lt 0 w.cards
      (λ h. column_bit l 0 h ∙ differ_self (nearer_first w l 0))
      (λ h. get_or_tabulate_past w.cards (side w l) 0 false h)

  pub past_columns : (c j : ℕ) → column_count w ≤ j → address w c j ≡ false
  unfolding address column_count
  past_columns c j h = ap (λ (x : List Bool). get_or x c false) (get_or-eq_default (columns w) [] {n = j} h)

  pub address_zero : (j : ℕ) → address w 0 j ≡ false
  unfolding address column_count
  address_zero j =
      by_lt j (length (columns w))
      (λ h. let r = column_link (get_or (columns w) j []) (in_get_or (columns w) j [] h) in rw (← r.2) (column_zero r.0))
      (past_columns 0 j)

  -- column j has the cards' bits j
  pub column_long : (j : ℕ) → j < column_count w → length (get_or (columns w) j []) ≡ w.cards
  unfolding column_count column
  column_long j h =
      let l = column_link (get_or (columns w) j []) (in_get_or (columns w) j [] h) in
      ap length (sym l.2) ∙ length_tabulate w.cards _

  pub column_of_address : (j : ℕ) → j < column_count w → column_of w.cards (address w) j ≡ get_or (columns w) j []
  unfolding column_of address
  column_of_address j h =
      ap (λ (n : ℕ). tabulate n (λ c. get_or (get_or (columns w) j []) c false)) (sym (column_long j h)) ∙ tabulate_get_or (get_or (columns w) j []) false

  -- the differing places of two addresses are the columns in which the two cards differ
  pub address_count : (a b : ℕ) → hamming (column_count w) (address w a) (address w b) ≡ count (λ c. differ (get_or c a false) (get_or c b false)) (columns w)
  unfolding address column_count
  address_count a b = hamming_count (columns w) a b
