-- Twins that stand behind all other links leave the columns as they were, and so every address. Assumes nothing.
use mathlib.Core.Path.{◌≡◌, refl, sym, ap, ◌∙◌}
use mathlib.Core.Bool.{Bool, true, false}
use mathlib.Core.Logic.{inl, inr, ⊎_elim}
use mathlib.Core.List.{List, [], ◌∷◌, ◌++◌}
use Prim.Native.Nat.{ℕ}
use lib.ListN.{get_or}
use Rattle.rack.specs.Lists.{all}
use Rattle.rack.specs.Wiring.{Link, Wiring, wiring, linked}
use Rattle.rack.specs.Columns.{nearer_first, side, column, same_column, add_column, add_columns, columns, address}
use Rattle.rack.specs.Refusals.{parity_refusal}
use Rattle.rack.proofs.Logic.{equal_if_both}
use Rattle.rack.proofs.Lists.{In, in_any, in_left, in_append, all_in}
use Rattle.rack.proofs.Tables.{tabulate_ext}
use Rattle.rack.proofs.Paths.{Ends, linked_link, link_linked, linked_sym}
use Rattle.rack.proofs.Columns.{same_column_self, link_column}
use Rattle.rack.proofs.Crossing.{Rack}
use Rattle.rack.proofs.Refusals.{well_formed_rack}
use Rattle.twins.specs.Promises.{SamePairs, TwinsKeepHops, TwinsBehind}
use Rattle.twins.proofs.Columns.{column_twin}
use Rattle.twins.proofs.SamePairs.{twins_keep_hops}

module _ (w : Wiring) (ls : List Link) (twins : all (λ l. linked w l.first l.second) ls ≡ true) where
  abbrev doubled : Wiring
  doubled = wiring w.cards (w.links ++ ls)

  twin_linked : (l : Link) → In l ls → linked w l.first l.second ≡ true
  twin_linked = all_in (λ l. linked w l.first l.second) ls twins

  -- THE SAME PAIRS are linked
  old_linked : (a b : ℕ) → linked w a b ≡ true → linked doubled a b ≡ true
  old_linked a b h = let r = linked_link w a b h in link_linked doubled a b r.0 (in_left r.0 w.links ls r.1) r.2

  all_linked : (a b : ℕ) → linked doubled a b ≡ true → linked w a b ≡ true
  all_linked a b h = let r = linked_link doubled a b h in ⊎_elim (λ m. link_linked w a b r.0 m r.2) (λ m. twin r.0 m r.2) (in_append r.0 w.links ls r.1)
    where
      twin : (l : Link) → In l ls → Ends a b l → linked w a b ≡ true
      twin l m (inl e) = rw (← e.0, ← e.1) (twin_linked l m)
      twin l m (inr e) = rw (← e.0, ← e.1) (linked_sym w l.first l.second (twin_linked l m))

  same_pairs : SamePairs doubled w
  same_pairs = (refl, λ a b. equal_if_both (linked doubled a b) (linked w a b) (all_linked a b) (old_linked a b))

  -- so a link has the same column in both
  column_alike : (l : Link) → column doubled l ≡ column w l
  unfolding column side nearer_first TwinsKeepHops
  column_alike l =
      let same = twins_keep_hops doubled w same_pairs in
      tabulate_ext w.cards (side doubled l) (side w l)
      (λ c h. rw (same c l.first, same c l.second, same 0 l.first, same 0 l.second) refl)

  adds_alike : (ks : List Link) (cs : List (List Bool)) → add_columns doubled ks cs ≡ add_columns w ks cs
  unfolding add_columns
  adds_alike [] cs = refl
  adds_alike (k ∷ ks) cs = rw (column_alike k) (adds_alike ks (add_column (column w k) cs))

  -- THE COLUMNS of all links but the last ones, and then of these, which are known
  adds_join : (ks : List Link) (cs : List (List Bool)) → add_columns w (ks ++ ls) cs ≡ add_columns w ls (add_columns w ks cs)
  unfolding add_columns
  adds_join [] cs = refl
  adds_join (k ∷ ks) cs = adds_join ks (add_column (column w k) cs)

  adds_known : (ks : List Link) (cs : List (List Bool)) → ((k : Link) → In k ks → In (column w k) cs) → add_columns w ks cs ≡ cs
  unfolding add_columns add_column
  adds_known [] cs known = refl
  adds_known (k ∷ ks) cs known =
      rw (in_any (same_column (column w k)) cs (column w k) (known k (inl refl)) (same_column_self (column w k)))
      (adds_known ks cs (λ l m. known l (inr m)))

  module _ (rack : Rack w) (even : (parity_refusal w).number ≡ 0) where
    twin_known : (l : Link) → In l ls → In (column w l) (columns w)
    twin_known l m = go (linked_link w l.first l.second (twin_linked l m))
      where
        ends_back : (k : Link) → Ends l.first l.second k → Ends k.first k.second l
        ends_back k (inl e) = inl (sym e.0, sym e.1)
        ends_back k (inr e) = inr (sym e.1, sym e.0)

        go : (k : Link) × In k w.links × Ends l.first l.second k → In (column w l) (columns w)
        go (k, n, e) = rw (← column_twin w rack even k l n (ends_back k e)) (link_column w k n)

    columns_behind : columns doubled ≡ columns w
    unfolding columns
    columns_behind =
        adds_alike (w.links ++ ls) [] ∙ adds_join w.links [] ∙ adds_known ls (add_columns w w.links []) twin_known

pub twins_behind : TwinsBehind
unfolding TwinsBehind address
twins_behind w ls f c even twins =
    let e = columns_behind w ls twins (well_formed_rack w f c) even in
    (e, λ a j. ap (λ (cs : List (List Bool)). get_or (get_or cs j []) a false) e)
