-- The addresses with a last card on a last link: one column more, those of the old cards bit for bit, and the new one's. They measure hops with
-- the card exactly if without it. Assumes nothing.
use mathlib.Core.Path.{◌≡◌, refl, sym, ap, ap₂, ◌∙◌}
use mathlib.Core.Bool.{Bool, true, false, cond}
use mathlib.Core.Logic.{◌≢◌}
use mathlib.Core.List.{List, [], ◌∷◌, map}
use Prim.Native.Nat.{ℕ, suc, ◌+◌, ◌≤◌, ◌<◌}
use native.Mathlib.Omega.{arith}
use lib.Dec.{eqb}
use lib.ListN.{length, get_or, length-append, length-map, get_or-append}
use lib.Seq.{get_or_at}
use borrow.Author.Tests.{eq-eqb, ne_eqb}
use Rattle.rack.specs.Lists.{differ, one, count, tabulate, range}
use Rattle.rack.specs.Wiring.{Wiring}
use Rattle.rack.specs.Hops.{hops, connected}
use Rattle.rack.specs.Columns.{columns, column_count, address, hamming, Embedding}
use Rattle.rack.proofs.Logic.{by_eq, by_lt}
use Rattle.rack.proofs.Lists.{count_snoc}
use Rattle.rack.proofs.Tables.{length_tabulate, get_or_tabulate, tabulate_get_or, map_tabulate, tabulate_snoc}
use Rattle.rack.proofs.Hamming.{hamming_ext, hamming_sym, hamming_same}
use Rattle.rack.proofs.Hops.{hops_self, hops_sym}
use Rattle.rack.proofs.Columns.{past_columns, column_long}
use Rattle.pendant.proofs.Hops.{Pendant, hops_old, hops_from_new}
use Rattle.pendant.proofs.Columns.{longer, last_column, columns_pendant}

-- a bit of an address, from the column that it stands in
address_in : (w : Wiring) (a j : ℕ) (x : List Bool) → get_or (columns w) j [] ≡ x → address w a j ≡ get_or x a false
unfolding address
address_in w a j x e = ap (λ (y : List Bool). get_or y a false) e

hamming_snoc : (k : ℕ) (x y : ℕ → Bool) → hamming (k + 1) x y ≡ hamming k x y + one (differ (x k) (y k))
unfolding hamming
hamming_snoc k x y =
    let p : ℕ → Bool = λ j. differ (x j) (y j) in
    ap (count p) (tabulate_snoc k (λ i. i)) ∙ count_snoc p (range k) k

module _ {w : Wiring} {c : ℕ} {v : Wiring} (pd : Pendant w c v) (whole : connected w ≡ true) where
  abbrev n : ℕ
  n = w.cards

  abbrev k : ℕ
  k = column_count w

  -- THE COLUMNS by number
  pub count_pendant : column_count v ≡ suc k
  unfolding column_count
  count_pendant =
      ap length (columns_pendant pd whole)
      ∙ omega (arith, length-append (map (longer c) (columns w)) (last_column n ∷ []), length-map (columns w) (longer c))

  column_below : (j : ℕ) → j < k → get_or (columns v) j [] ≡ longer c (get_or (columns w) j [])
  unfolding column_count
  column_below j h =
      let cs = columns w in
      ap (λ (xs : List (List Bool)). get_or xs j []) (columns_pendant pd whole)
      ∙ get_or-append (map (longer c) cs) (last_column n ∷ []) [] j (omega (arith, length-map cs (longer c)))
      ∙ ap (λ (xs : List (List Bool)). get_or xs j [])
      (ap (map (longer c)) (sym (tabulate_get_or cs [])) ∙ map_tabulate (longer c) (length cs) (λ i. get_or cs i []))
      ∙ get_or_tabulate (length cs) (λ i. longer c (get_or cs i [])) j [] h

  column_at : get_or (columns v) k [] ≡ last_column n
  unfolding column_count
  column_at =
      ap (λ (cs : List (List Bool)). get_or cs (length (columns w)) []) (columns_pendant pd whole)
      ∙ get_or_at (map (longer c) (columns w)) (last_column n) [] [] (length (columns w)) (length-map (columns w) (longer c))

  -- THE ADDRESSES, past the last column too
  pub address_old : (a j : ℕ) → a < n → address v a j ≡ address w a j
  address_old a j h = by_lt j k below (λ l. by_eq j k (λ e. rw e last) (past l))
    where
      below : j < k → address v a j ≡ address w a j
      below l =
          let x = get_or (columns w) j [] in
          address_in v a j (longer c x) (column_below j l)
          ∙ get_or-append x (get_or x c false ∷ []) false a (omega (arith, column_long w j l)) ∙ sym (address_in w a j x refl)

      last : address v a k ≡ address w a k
      last =
          address_in v a k (last_column n) column_at
          ∙ get_or-append (tabulate n (λ b. false)) (true ∷ []) false a (omega (arith, length_tabulate {A = Bool} n (λ b. false)))
          ∙ get_or_tabulate n (λ b. false) a false h ∙ sym (past_columns w a k (omega arith))

      past : k ≤ j → j ≢ k → address v a j ≡ address w a j
      past l d = past_columns v a j (omega (arith, count_pendant)) ∙ sym (past_columns w a j l)

  new_last : address v n k ≡ true
  new_last =
      address_in v n k (last_column n) column_at
      ∙ get_or_at (tabulate n (λ b. false)) true [] false n (length_tabulate n (λ b. false))

  new_other : (j : ℕ) → j ≢ k → address v n j ≡ address w c j
  new_other j d = by_lt j k below (λ l. past_columns v n j (omega (arith, count_pendant)) ∙ sym (past_columns w c j l))
    where
      below : j < k → address v n j ≡ address w c j
      below l =
          let x = get_or (columns w) j [] in
          address_in v n j (longer c x) (column_below j l)
          ∙ get_or_at x (get_or x c false) [] false n (column_long w j l) ∙ sym (address_in w c j x refl)

  pub address_new : (j : ℕ) → address v n j ≡ cond (eqb j k) true (address w c j)
  address_new j = by_eq j k (λ e. rw (eq-eqb j k e, e) new_last) (λ d. rw (ne_eqb j k d) (new_other j d))

  -- THEY MEASURE HOPS with the card exactly if without it
  places_snoc : (x y : ℕ → Bool) → hamming (column_count v) x y ≡ hamming k x y + one (differ (x k) (y k))
  places_snoc x y =
      let e : column_count v ≡ k + 1 = omega (arith, count_pendant) in
      ap (λ (i : ℕ). hamming i x y) e ∙ hamming_snoc k x y

  places_old : (a b : ℕ) → a < n → b < n → hamming (column_count v) (address v a) (address v b) ≡ hamming k (address w a) (address w b)
  places_old a b ha hb =
      places_snoc (address v a) (address v b)
      ∙ ap₂ ◌+◌
      (hamming_ext k (address v a) (address v b) (address w a) (address w b) (λ j l. address_old a j ha) (λ j l. address_old b j hb))
      (ap one (ap₂ differ (address_old a k ha ∙ past_columns w a k (omega arith)) (address_old b k hb ∙ past_columns w b k (omega arith))))
      ∙ omega arith

  places_new : (b : ℕ) → b < n → hamming (column_count v) (address v n) (address v b) ≡ suc (hamming k (address w c) (address w b))
  places_new b hb =
      places_snoc (address v n) (address v b)
      ∙ ap₂ ◌+◌
      (hamming_ext k (address v n) (address v b) (address w c) (address w b)
      (λ j l. new_other j (λ e. omega arith)) (λ j l. address_old b j hb))
      (ap one (ap₂ differ new_last (address_old b k hb ∙ past_columns w b k (omega arith))))
      ∙ omega arith

  pub embedding_added : Embedding w k (address w) → Embedding v (column_count v) (address v)
  embedding_added m a b ha hb =
      by_lt a n
      (λ i. by_lt b n (λ j. places_old a b i j ∙ m a b i j ∙ sym (hops_old pd whole a b i j)) (λ j. rw (at_last b hb j) (to_new a ha i)))
      (λ i. rw (at_last a ha i) (by_lt b n (λ j. from_new b j) (λ j. rw (at_last b hb j) alone)))
    where
      at_last : (d : ℕ) → d < v.cards → n ≤ d → d ≡ n
      at_last d h l = omega (arith, pd.cards)

      from_new : (d : ℕ) → d < n → hamming (column_count v) (address v n) (address v d) ≡ hops v n d
      from_new d h = places_new d h ∙ ap suc (m c d pd.inside h) ∙ sym (hops_from_new pd whole d h)

      to_new : (d : ℕ) → d < v.cards → d < n → hamming (column_count v) (address v d) (address v n) ≡ hops v d n
      to_new d h i = hamming_sym (column_count v) (address v d) (address v n) ∙ from_new d i ∙ hops_sym v n d (omega (arith, pd.cards)) h

      alone : hamming (column_count v) (address v n) (address v n) ≡ hops v n n
      alone = hamming_same (column_count v) (address v n) (address v n) (λ j l. refl) ∙ sym (hops_self v n)

  pub embedding_removed : Embedding v (column_count v) (address v) → Embedding w k (address w)
  embedding_removed m a b ha hb =
      sym (places_old a b ha hb) ∙ m a b (omega (arith, pd.cards)) (omega (arith, pd.cards)) ∙ hops_old pd whole a b ha hb
