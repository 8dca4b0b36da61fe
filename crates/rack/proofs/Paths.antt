-- Links as pairs of cards, and paths: their first and last links, joined and reversed. Assumes nothing.
use mathlib.Core.Path.{◌≡◌, refl, sym, ap, ◌∙◌}
use mathlib.Core.Bool.{Bool, true, false, ◌&&◌}
use mathlib.Core.Logic.{◌⊎◌, inl, inr, ⊎_elim, ◌≢◌}
use mathlib.Core.List.{List, [], ◌∷◌}
use Prim.Native.Nat.{ℕ, zero, suc, ◌+◌, ◌<◌}
use native.Mathlib.Nat.{zero-add, suc-add}
use native.Mathlib.Numerals.{add-one}
use lib.Dec.{ltb, eqb}
use lib.ListN.{length}
use borrow.Author.Tests.{eqb-true, eq-eqb, ne_eqb, ltb-true, lt-ltb}
use Rattle.rack.specs.Lists.{range}
use Rattle.rack.specs.Wiring.{Link, Wiring, joins, linked, neighbours, touches, other_end}
use Rattle.rack.specs.Hops.{has_path, is_path}
use Rattle.rack.proofs.Logic.{true_not_false, by_bool, by_eq, or_cases, or_left, or_right, and_left, and_right, and_both, equal_if_both}
use Rattle.rack.proofs.Lists.{In, any_in, in_any, in_filter, filter_in}
use Rattle.rack.proofs.Tables.{in_range, range_in}

-- LINKS
abbrev pub Ends : (a b : ℕ) → Link → Type 0
Ends a b l = ((l.first ≡ a) × (l.second ≡ b)) ⊎ ((l.first ≡ b) × (l.second ≡ a))

pub joins_ends : (a b : ℕ) (l : Link) → joins a b l ≡ true → Ends a b l
unfolding joins
joins_ends a b l h =
    ⊎_elim
    (λ k. inl (eqb-true l.first a (and_left _ _ k), eqb-true l.second b (and_right (eqb l.first a) _ k)))
    (λ k. inr (eqb-true l.first b (and_left _ _ k), eqb-true l.second a (and_right (eqb l.first b) _ k)))
    (or_cases (eqb l.first a && eqb l.second b) (eqb l.first b && eqb l.second a) h)

pub ends_join : (a b : ℕ) (l : Link) → Ends a b l → joins a b l ≡ true
unfolding joins
ends_join a b l (inl e) = or_left _ _ (and_both _ _ (eq-eqb _ _ e.0) (eq-eqb _ _ e.1))
ends_join a b l (inr e) = or_right (eqb l.first a && eqb l.second b) _ (and_both _ _ (eq-eqb _ _ e.0) (eq-eqb _ _ e.1))

ends_sym : (a b : ℕ) (l : Link) → Ends a b l → Ends b a l
ends_sym a b l (inl e) = inr e
ends_sym a b l (inr e) = inl e

pub joins_sym : (a b : ℕ) (l : Link) → joins a b l ≡ joins b a l
joins_sym a b l =
    equal_if_both (joins a b l) (joins b a l)
    (λ t. ends_join b a l (ends_sym a b l (joins_ends a b l t)))
    (λ t. ends_join a b l (ends_sym b a l (joins_ends b a l t)))

-- a link of card a joins it to the other end
pub touches_ends : (a : ℕ) (l : Link) → touches a l ≡ true → Ends a (other_end a l) l
unfolding touches other_end
touches_ends a l h =
    by_eq l.first a
    (λ e. rw (eq-eqb l.first a e) (inl (e, refl)))
    (λ n. rw (ne_eqb l.first a n) (inr (
      refl,
      ⊎_elim (λ k. absurd (n (eqb-true l.first a k))) (λ k. eqb-true l.second a k)
          (or_cases (eqb l.first a) (eqb l.second a) h),
    )))

pub ends_touch : (a c : ℕ) (l : Link) → Ends a c l → c ≢ a → (touches a l ≡ true) × (other_end a l ≡ c)
unfolding touches other_end
ends_touch a c l (inl e) n = (or_left (eqb l.first a) (eqb l.second a) (eq-eqb l.first a e.0), rw (eq-eqb l.first a e.0) e.1)
ends_touch a c l (inr e) n = (or_right (eqb l.first a) (eqb l.second a) (eq-eqb l.second a e.1), rw (ne_eqb l.first a (λ f. n (sym e.0 ∙ f))) e.0)

pub other_end_below : (n a : ℕ) (l : Link) → l.first < n → l.second < n → other_end a l < n
unfolding other_end
other_end_below n a l h k = by_bool (eqb l.first a) (λ (t : eqb l.first a ≡ true). rw t k) (λ (t : eqb l.first a ≡ false). rw t h)

module _ (w : Wiring) where
  pub linked_link : (a b : ℕ) → linked w a b ≡ true → (l : Link) × In l w.links × Ends a b l
  unfolding linked
  linked_link a b h = let r = any_in (joins a b) w.links h in (r.0, r.1, joins_ends a b r.0 r.2)

  pub link_linked : (a b : ℕ) (l : Link) → In l w.links → Ends a b l → linked w a b ≡ true
  unfolding linked
  link_linked a b l m e = in_any (joins a b) w.links l m (ends_join a b l e)

  pub link_joins : (l : Link) → In l w.links → linked w l.first l.second ≡ true
  link_joins l m = link_linked l.first l.second l m (inl (refl, refl))

  pub linked_sym : (a b : ℕ) → linked w a b ≡ true → linked w b a ≡ true
  linked_sym a b h = let r = linked_link a b h in link_linked b a r.0 r.1 (ends_sym a b r.0 r.2)

  -- PATHS
  abbrev pub Next : (k a b : ℕ) → Type 0
  Next k a b = (c : ℕ) × (c < w.cards) × (linked w a c ≡ true) × (has_path w k c b ≡ true)

  pub path_next : (k a b : ℕ) → has_path w (suc k) a b ≡ true → Next k a b
  unfolding has_path neighbours
  path_next k a b h =
      let r = any_in (λ c. has_path w k c b) (neighbours w a) h in
      let i = filter_in (linked w a) (range w.cards) r.0 r.1 in
      (r.0, range_in w.cards r.0 i.0, i.1, r.2)

  pub next_path : (k a b : ℕ) → Next k a b → has_path w (suc k) a b ≡ true
  unfolding has_path neighbours
  next_path k a b (c, h, e, p) =
      in_any (λ c. has_path w k c b) (neighbours w a) c (in_filter (linked w a) (range w.cards) c (in_range w.cards c h) e) p

  pub path_here : (a : ℕ) → has_path w 0 a a ≡ true
  unfolding has_path
  path_here a = eq-eqb a a refl

  pub path_zero : (a b : ℕ) → has_path w 0 a b ≡ true → a ≡ b
  unfolding has_path
  path_zero a b h = eqb-true a b h

  pub path_one : (a b : ℕ) → b < w.cards → linked w a b ≡ true → has_path w 1 a b ≡ true
  path_one a b h e = next_path 0 a b (b, h, e, path_here b)

  pub path_join : (j k a b c : ℕ) → has_path w j a b ≡ true → has_path w k b c ≡ true → has_path w (j + k) a c ≡ true
  path_join zero k a b c p q = rw (zero-add, path_zero a b p) q
  path_join (suc j) k a b c p q =
      let r = path_next j a b p in
      rw suc-add (next_path (j + k) a c (r.0, r.1, r.2, path_join j k r.0 b c r.3 q))

  pub path_reverse : (k a b : ℕ) → a < w.cards → has_path w k a b ≡ true → has_path w k b a ≡ true
  path_reverse zero a b h p = rw (path_zero a b p) (path_here b)
  path_reverse (suc k) a b h p =
      let r = path_next k a b p in
      rw add-one at (path_join k 1 b r.0 a (path_reverse k r.0 b r.1 r.3) (path_one r.0 a h (linked_sym a r.0 r.2)))

  pub path_inside : (k a b : ℕ) → a < w.cards → has_path w k a b ≡ true → b < w.cards
  path_inside zero a b h p = rw (path_zero a b p) at h
  path_inside (suc k) a b h p = let r = path_next k a b p in path_inside k r.0 b r.1 r.3

  -- the last link
  pub path_last : (k a b : ℕ) → a < w.cards → has_path w (suc k) a b ≡ true → (c : ℕ) × (c < w.cards) × (linked w c b ≡ true) × (has_path w k a c ≡ true)
  path_last k a b h p =
      let r = path_next k b a (path_reverse (suc k) a b h p) in
      (r.0, r.1, linked_sym b r.0 r.2, path_reverse k r.0 a r.1 r.3)

  -- a path from where a test holds to where it fails has a link on which it changes
  abbrev pub Changes : (ℕ → Bool) → Type 0
  Changes t = (d : ℕ) × (e : ℕ) × (linked w d e ≡ true) × (t d ≡ true) × (t e ≡ false)

  pub path_changes : (t : ℕ → Bool) (k a b : ℕ) → has_path w k a b ≡ true → t a ≡ true → t b ≡ false → Changes t
  path_changes t zero a b p h i = true_not_false (t b) (rw (path_zero a b p) at h) i
  path_changes t (suc k) a b p h i =
      let r = path_next k a b p in
      by_bool (t r.0) (λ e. path_changes t k r.0 b r.3 e i) (λ e. (a, r.0, r.2, h, e))

  -- the cards of a path
  pub path_cards : (k a b : ℕ) → has_path w k a b ≡ true → (cs : List ℕ) × (is_path w a cs b ≡ true) × (length cs ≡ k)
  unfolding is_path has_path
  path_cards zero a b p = ([], p, refl)
  path_cards (suc k) a b p =
      let r = path_next k a b p in
      let s = path_cards k r.0 b r.3 in
      (r.0 ∷ s.0, and_both _ _ (and_both _ _ (lt-ltb r.0 w.cards r.1) r.2) s.1, ap suc s.2)

  pub cards_path : (cs : List ℕ) (a b : ℕ) → is_path w a cs b ≡ true → has_path w (length cs) a b ≡ true
  unfolding is_path has_path
  cards_path [] a b p = p
  cards_path (c ∷ cs) a b p =
      let h = and_left (ltb c w.cards && linked w a c) (is_path w c cs b) p in
      next_path (length cs) a b (
        c,
        ltb-true c w.cards (and_left (ltb c w.cards) (linked w a c) h),
        and_right (ltb c w.cards) (linked w a c) h,
        cards_path cs c b (and_right (ltb c w.cards && linked w a c) (is_path w c cs b) p),
      )
