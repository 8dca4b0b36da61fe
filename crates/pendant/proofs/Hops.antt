-- A last card on a last link, drawn either way: hops among the other cards are as without it, and it is one hop further than the card that it
-- hangs on. Assumes nothing.
use mathlib.Core.Path.{◌≡◌, refl, sym, ap, ◌∙◌, subst}
use mathlib.Core.Bool.{true, cond}
use mathlib.Core.Logic.{◌⊎◌, inl, inr, ⊎_elim, ◌≢◌}
use mathlib.Core.List.{List, [], ◌∷◌, ◌++◌}
use Prim.Native.Nat.{ℕ, zero, suc, ◌+◌, ◌-◌, ◌≤◌, ◌<◌}
use native.Mathlib.Omega.{arith}
use lib.Dec.{eqb}
use borrow.Author.Tests.{eq-eqb, ne_eqb}
use Rattle.rack.specs.Wiring.{Link, Wiring, linked}
use Rattle.rack.specs.Hops.{has_path, hops, connected}
use Rattle.rack.proofs.Logic.{by_eq, by_lt}
use Rattle.rack.proofs.Lists.{In, in_left, in_right, in_append}
use Rattle.rack.proofs.Paths.{Ends, linked_link, link_linked, linked_sym, path_next, next_path, path_here, path_zero, path_one, path_join}
use Rattle.rack.proofs.Hops.{hops_path, path_hops, path_below, hops_zero, hops_sym, hops_triangle, hops_linked, hops_down}
use Rattle.rack.proofs.Hops.{connected_all, connected_zero, zero_connected}
use Rattle.rack.proofs.Crossing.{Rack}
use Rattle.rack.proofs.Refusals.{JoinsCards, joined_rack}

-- v is w with one card more, on a last link to card c
pub record Pendant (w : Wiring) (c : ℕ) (v : Wiring) : Type 0 where
  pub cards : v.cards ≡ suc w.cards
  pub last : Link
  pub links : v.links ≡ w.links ++ (last ∷ [])
  pub ends : Ends w.cards c last
  pub inside : c < w.cards
  pub joined : (l : Link) → In l w.links → JoinsCards w l

module _ {w : Wiring} {c : ℕ} {v : Wiring} (pd : Pendant w c v) where
  abbrev n : ℕ
  n = w.cards

  -- LINKS of w and the last one
  old_in : (l : Link) → In l w.links → In l v.links
  old_in l m = subst (λ (ls : List Link). In l ls) (sym pd.links) (in_left l w.links (pd.last ∷ []) m)

  last_in : In pd.last v.links
  last_in = subst (λ (ls : List Link). In pd.last ls) (sym pd.links) (in_right pd.last w.links (pd.last ∷ []) (inl refl))

  in_cases : (l : Link) → In l v.links → In l w.links ⊎ (pd.last ≡ l)
  in_cases l m =
      ⊎_elim (λ k. inl k) (λ k. ⊎_elim (λ e. inr e) (λ z. absurd z) k)
      (in_append l w.links (pd.last ∷ []) (subst (λ (ls : List Link). In l ls) pd.links m))

  last_joins : JoinsCards v pd.last
  last_joins = go pd.ends
    where
      go : Ends n c pd.last → JoinsCards v pd.last
      go (inl e) = (omega (arith, e.0, pd.cards), omega (arith, e.1, pd.inside, pd.cards), λ z. omega (arith, e.0, e.1, pd.inside))
      go (inr e) = (omega (arith, e.0, pd.inside, pd.cards), omega (arith, e.1, pd.cards), λ z. omega (arith, e.0, e.1, pd.inside))

  pub all_join : (l : Link) → In l v.links → JoinsCards v l
  all_join l m =
      ⊎_elim (λ k. let j = pd.joined l k in (omega (arith, pd.cards, j.0), omega (arith, pd.cards, j.1), j.2))
      (λ e. subst (JoinsCards v) e last_joins) (in_cases l m)

  -- cards joined by the last link
  abbrev New : (a b : ℕ) → Type 0
  New a b = ((a ≡ n) × (b ≡ c)) ⊎ ((a ≡ c) × (b ≡ n))

  ends_new : (a b : ℕ) (l : Link) → Ends n c l → Ends a b l → New a b
  ends_new a b l (inl e) (inl f) = inl (sym f.0 ∙ e.0, sym f.1 ∙ e.1)
  ends_new a b l (inl e) (inr f) = inr (sym f.1 ∙ e.1, sym f.0 ∙ e.0)
  ends_new a b l (inr e) (inl f) = inr (sym f.0 ∙ e.0, sym f.1 ∙ e.1)
  ends_new a b l (inr e) (inr f) = inl (sym f.1 ∙ e.1, sym f.0 ∙ e.0)

  linked_cases : (a b : ℕ) → linked v a b ≡ true → (linked w a b ≡ true) ⊎ New a b
  linked_cases a b h = go (linked_link v a b h)
    where
      go : (l : Link) × In l v.links × Ends a b l → (linked w a b ≡ true) ⊎ New a b
      go (l, m, e) =
          ⊎_elim (λ k. inl (link_linked w a b l k e))
          (λ f. inr (ends_new a b pd.last pd.ends (subst (λ (k : Link). Ends a b k) (sym f) e))) (in_cases l m)

  linked_inside : (a b : ℕ) → linked w a b ≡ true → (a < n) × (b < n)
  linked_inside a b h = go (linked_link w a b h)
    where
      go : (l : Link) × In l w.links × Ends a b l → (a < n) × (b < n)
      go (l, m, inl e) = let j = pd.joined l m in (omega (arith, e.0, j.0), omega (arith, e.1, j.1))
      go (l, m, inr e) = let j = pd.joined l m in (omega (arith, e.1, j.1), omega (arith, e.0, j.0))

  old_linked : (a b : ℕ) → linked w a b ≡ true → linked v a b ≡ true
  old_linked a b h = let r = linked_link w a b h in link_linked v a b r.0 (old_in r.0 r.1) r.2

  new_linked : linked v n c ≡ true
  new_linked = link_linked v n c pd.last last_in pd.ends

  -- PATHS of w are paths of v; those of v fold into w: with the last card put on c, a link is a link or one card
  path_with : (k a b : ℕ) → has_path w k a b ≡ true → has_path v k a b ≡ true
  path_with zero a b p = rw (path_zero w a b p) (path_here v b)
  path_with (suc k) a b p =
      let r = path_next w k a b p in
      next_path v k a b (r.0, omega (arith, r.1, pd.cards), old_linked a r.0 r.2, path_with k r.0 b r.3)

  fold : ℕ → ℕ
  fold a = cond (eqb a n) c a

  fold_old : (a : ℕ) → a < n → fold a ≡ a
  unfolding fold
  fold_old a h = rw (ne_eqb a n (λ e. omega arith)) refl

  fold_new : (a : ℕ) → a ≡ n → fold a ≡ c
  unfolding fold
  fold_new a e = rw (eq-eqb a n e) refl

  fold_inside : (a : ℕ) → a < v.cards → fold a < n
  fold_inside a h = by_lt a n (λ l. rw (fold_old a l) l) (λ l. rw (fold_new a (omega (arith, pd.cards))) pd.inside)

  fold_link : (a b : ℕ) → linked v a b ≡ true → (linked w (fold a) (fold b) ≡ true) ⊎ (fold a ≡ fold b)
  fold_link a b h =
      ⊎_elim
      (λ k. let i = linked_inside a b k in inl (rw (fold_old a i.0, fold_old b i.1) k))
      (λ k. inr (⊎_elim
      (λ f. fold_new a f.0 ∙ sym (fold_old b (omega (arith, pd.inside, f.1)) ∙ f.1))
      (λ f. fold_old a (omega (arith, pd.inside, f.0)) ∙ f.0 ∙ sym (fold_new b f.1)) k))
      (linked_cases a b h)

  abbrev Folded : (k a b : ℕ) → Type 0
  Folded k a b = (j : ℕ) × (j ≤ k) × (has_path w j (fold a) (fold b) ≡ true)

  fold_path : (k a b : ℕ) → has_path v k a b ≡ true → Folded k a b
  fold_path zero a b p = (0, omega arith, rw (path_zero v a b p) (path_here w (fold b)))
  fold_path (suc k) a b p = let r = path_next v k a b p in go r.0 r.1 (fold_link a r.0 r.2) (fold_path k r.0 b r.3)
    where
      go : (u : ℕ) → u < v.cards → (linked w (fold a) (fold u) ≡ true) ⊎ (fold a ≡ fold u) → Folded k u b → Folded (suc k) a b
      go u h (inl e) (j, le, q) = (suc j, omega arith, next_path w j (fold a) (fold b) (fold u, fold_inside u h, e, q))
      go u h (inr e) (j, le, q) = (j, omega arith, rw e q)

  -- CONNECTED with the card exactly if without it
  old_card : (a : ℕ) → a < n → a < v.cards
  old_card a h = omega (arith, pd.cards)

  new_card : n < v.cards
  new_card = omega (arith, pd.cards)

  connected_added : connected w ≡ true → connected v ≡ true
  connected_added h = zero_connected v (λ a l. by_lt a n (old a) (λ k. let e : a ≡ n = omega (arith, pd.cards) in rw e new))
    where
      zero_path : (a : ℕ) → a < n → has_path v (hops w 0 a) 0 a ≡ true
      zero_path a k = path_with (hops w 0 a) 0 a (hops_path w 0 a (connected_zero w h a k))

      old : (a : ℕ) → a < n → hops v 0 a < v.cards
      old a k = path_below v (hops w 0 a) 0 a (omega (arith, pd.cards)) (zero_path a k)

      new : hops v 0 n < v.cards
      new =
          path_below v (hops w 0 c + 1) 0 n (omega (arith, pd.cards))
          (path_join v (hops w 0 c) 1 0 c n (zero_path c pd.inside) (path_one v c n new_card (linked_sym v n c new_linked)))

  pub connected_removed : connected v ≡ true → connected w ≡ true
  connected_removed h =
      zero_connected w (λ a l. go a l (fold_path (hops v 0 a) 0 a (hops_path v 0 a (connected_zero v h a (old_card a l)))))
    where
      go : (a : ℕ) → a < n → Folded (hops v 0 a) 0 a → hops w 0 a < n
      go a l (j, le, p) = path_below w j 0 a (omega arith) (rw (fold_old 0 (omega arith), fold_old a l) at p)

  pub rack_added : connected w ≡ true → Rack v
  rack_added h = joined_rack v (omega (arith, pd.cards)) all_join (connected_added h)

  pub rack_removed : connected v ≡ true → Rack w
  rack_removed h = joined_rack w (omega (arith, pd.inside)) pd.joined (connected_removed h)

  -- HOPS
  module _ (whole : connected w ≡ true) where
    reached : (a b : ℕ) → a < v.cards → b < v.cards → hops v a b < v.cards
    reached = connected_all v (connected_added whole)

    pub hops_old : (a b : ℕ) → a < n → b < n → hops v a b ≡ hops w a b
    hops_old a b ha hb =
        let up = path_hops v (hops w a b) a b (path_with (hops w a b) a b (hops_path w a b (connected_all w whole a b ha hb))) in
        let f = fold_path (hops v a b) a b (hops_path v a b (reached a b (old_card a ha) (old_card b hb))) in
        let down = path_hops w f.0 a b (rw (fold_old a ha, fold_old b hb) at f.2) in
        omega (arith, f.1)

    -- the last card's one neighbour is c
    pub hops_from_new : (b : ℕ) → b < n → hops v n b ≡ suc (hops w c b)
    hops_from_new b hb =
        let up = hops_triangle v n c b in
        let one = hops_linked v n c (old_card c pd.inside) new_linked in
        by_eq (hops v n b) 0
        (λ z. absurd (let e = hops_zero v n b new_card z in omega arith))
        (λ z. go (hops_down v n b (hops v n b - 1) (omega arith) (omega (arith, reached n b new_card (old_card b hb)))) z)
      where
        go : (u : ℕ) × (u < v.cards) × (linked v n u ≡ true) × (hops v u b ≡ hops v n b - 1) → hops v n b ≢ 0 → hops v n b ≡ suc (hops w c b)
        go (u, hu, l, e) z =
            ⊎_elim (λ k. absurd (let i = linked_inside n u k in omega arith))
            (λ k. ⊎_elim
            (λ f. let q = ap (λ (x : ℕ). hops v x b) f.1 in omega (arith, hops_old c b pd.inside hb))
            (λ f. absurd (omega (arith, f.0, pd.inside))) k)
            (linked_cases n u l)

    pub hops_to_new : (b : ℕ) → b < n → hops v b n ≡ suc (hops w b c)
    hops_to_new b hb =
        hops_sym v b n (old_card b hb) new_card ∙ hops_from_new b hb ∙ ap suc (hops_sym w c b pd.inside hb)
