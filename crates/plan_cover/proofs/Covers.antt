-- Cards covered, link by link: the far sides of a link are joined to the sets of its ends, and in the end all sets are full exactly if every card
-- covers all. Assumes nothing.
use mathlib.Core.Path.{◌≡◌, refl, sym, ap, subst, ◌∙◌}
use mathlib.Core.Bool.{Bool, true, false, ◌||◌, not, cond}
use mathlib.Core.List.{List, [], ◌∷◌, ◌++◌}
use Prim.Native.Nat.{ℕ, ◌+◌, ◌*◌, ◌-◌, ◌≤◌, ◌<◌}
use lib.Bits.{bit_or}
use lib.Dec.{eqb}
use lib.ListN.{get_or}
use borrow.Author.Tests.{eqb-true, eq-eqb, ne_eqb}
use Rattle.rack.specs.Limits.{most_cards}
use Rattle.rack.specs.Lists.{differ, all, any, range}
use Rattle.rack.specs.Wiring.{Link, Wiring, touches}
use Rattle.rack.proofs.Logic.{by_bool, by_eq, or_right, equal_if_both}
use Rattle.rack.proofs.Tables.{all_below, below_all}
use Rattle.plan_tests.specs.Tests.{crossed, leads, covers, cards_covered}
use Rattle.card_sets.specs.Sets.{set_word}
use Rattle.plan_cover.specs.Covers.{full_word, far_side, CoverWords, SidesJoined, SingleWords, words_full}
use Rattle.plan_cover.proofs.Sets.{set_ext, set_union, set_rest, words_set}

or_none : (x : Bool) → (x || false) ≡ x
or_none true = refl
or_none false = refl

or_assoc : (x y z : Bool) → (x || (y || z)) ≡ ((x || y) || z)
or_assoc true y z = refl
or_assoc false y z = refl

module _ (n k : ℕ) (r : ℕ → ℕ → Bool) where
  -- THE FAR SIDES of a link in words: the crossed column, or the rest of the cards where the end has 1 in it; the other end has the rest
  pub far_column : (a : ℕ) (l : Link) (t : ℕ)
      → set_word n (far_side k r a l) t ≡ cond (r a (crossed k r l)) (full_word n t - set_word n (λ c. r c (crossed k r l)) t) (set_word n (λ c. r c (crossed k r l)) t)
  unfolding far_side
  far_column a l t =
      by_bool (r a (crossed k r l))
      (λ (e : r a (crossed k r l) ≡ true). rw e (same (λ c. not (r c (crossed k r l))) true e (λ b. refl) ∙ set_rest n (λ c. r c (crossed k r l)) t))
      (λ (e : r a (crossed k r l) ≡ false). rw e (same (λ c. r c (crossed k r l)) false e (λ b. refl)))
    where
      same : (s : ℕ → Bool) (x : Bool) → r a (crossed k r l) ≡ x → ((b : ℕ) → differ x (r b (crossed k r l)) ≡ s b) → set_word n (far_side k r a l) t ≡ set_word n s t
      same s x e h = set_ext n (far_side k r a l) s t (λ b _. ap (λ (y : Bool). differ y (r b (crossed k r l))) e ∙ h b)

  pub far_other : (l : Link) (t : ℕ) → differ (r l.first (crossed k r l)) (r l.second (crossed k r l)) ≡ true
      → full_word n t - set_word n (far_side k r l.first l) t ≡ set_word n (far_side k r l.second l) t
  unfolding far_side
  far_other l t h =
      sym (set_rest n (far_side k r l.first l) t)
      ∙ set_ext n (λ b. not (far_side k r l.first l b)) (far_side k r l.second l) t
      (λ b _. rest (r l.first (crossed k r l)) (r l.second (crossed k r l)) (r b (crossed k r l)) h)
    where
      rest : (x y z : Bool) → differ x y ≡ true → not (differ x z) ≡ differ y z
      rest true true z e = cc
      rest true false true e = refl
      rest true false false e = refl
      rest false true true e = refl
      rest false true false e = refl
      rest false false z e = cc

  -- ONE LINK MORE
  any_snoc : (p : Link → Bool) (ls : List Link) (l : Link) → any p (ls ++ (l ∷ [])) ≡ (any p ls || p l)
  any_snoc p [] l = or_none (p l)
  any_snoc p (y ∷ ls) l = rw (any_snoc p ls l) (or_assoc (p y) (any p ls) (p l))

  covers_more : (ls : List Link) (l : Link) (a b : ℕ) → covers k r (ls ++ (l ∷ [])) a b ≡ (covers k r ls a b || leads k r a b l)
  covers_more ls l a b = rw (any_snoc (leads k r a b) ls l) (or_assoc (eqb a b) (any (leads k r a b) ls) (leads k r a b l))

  module _ (ls : List Link) (l : Link) (old new : List ℕ) (c : CoverWords n k r ls old) (s : SidesJoined n k r l old new) where
    abbrev Joined : (t a : ℕ) → Type 0
    Joined t a = get_or new (4 * a + t) 0 ≡ bit_or (get_or old (4 * a + t) 0) (set_word n (far_side k r a l) t)

    -- a card at an end gets the far side, another nothing
    end_word : (a t : ℕ) → a < n → t < 4 → touches a l ≡ true → Joined t a
        → get_or new (4 * a + t) 0 ≡ set_word n (covers k r (ls ++ (l ∷ [])) a) t
    unfolding leads far_side
    end_word a t ha ht e j =
        j ∙ ap (λ (x : ℕ). bit_or x (set_word n (far_side k r a l) t)) (c.is a t ha ht)
        ∙ set_union n (covers k r ls a) (far_side k r a l) t
        ∙ set_ext n (λ b. covers k r ls a b || far_side k r a l b) (covers k r (ls ++ (l ∷ [])) a) t (λ b h. sym (covers_more ls l a b ∙ rw e refl))

    other_word : (a t : ℕ) → a < n → t < 4 → touches a l ≡ false → get_or new (4 * a + t) 0 ≡ get_or old (4 * a + t) 0
        → get_or new (4 * a + t) 0 ≡ set_word n (covers k r (ls ++ (l ∷ [])) a) t
    unfolding leads
    other_word a t ha ht e j =
        j ∙ c.is a t ha ht
        ∙ set_ext n (covers k r ls a) (covers k r (ls ++ (l ∷ [])) a) t (λ b h. sym (covers_more ls l a b ∙ rw e (or_none (covers k r ls a b))))

    pub cover_joined : CoverWords n k r (ls ++ (l ∷ [])) new
    unfolding touches
    cover_joined = record { long = s.long ∙ c.long; is = word }
      where
        word : (a t : ℕ) → a < n → t < 4 → get_or new (4 * a + t) 0 ≡ set_word n (covers k r (ls ++ (l ∷ [])) a) t
        word a t ha ht =
            by_eq l.first a
            (λ e. end_word a t ha ht (rw (eq-eqb l.first a e) refl) (subst (Joined t) e (s.first t ht)))
            (λ p. by_eq l.second a
            (λ e. end_word a t ha ht (or_right (eqb l.first a) (eqb l.second a) (eq-eqb l.second a e)) (subst (Joined t) e (s.second t ht)))
            (λ q. other_word a t ha ht (rw (ne_eqb l.first a p, ne_eqb l.second a q) refl) (s.others a t ht p q)))

  -- THE START: each card covers itself
  pub cover_start : (ws : List ℕ) → SingleWords n ws → CoverWords n k r [] ws
  cover_start ws single =
      record { long = single.long; is = λ a t ha ht. single.is a t ha ht ∙ set_ext n (eqb a) (covers k r [] a) t (λ b h. sym (or_none (eqb a b))) }

-- THE END: all sets are full exactly if every card covers all
module _ (w : Wiring) (k : ℕ) (r : ℕ → ℕ → Bool) (ws : List ℕ) (few : w.cards ≤ most_cards) (c : CoverWords w.cards k r w.links ws) where
  abbrev row_full : ℕ → Bool
  row_full a = all (λ t. eqb (get_or ws (4 * a + t) 0) (full_word w.cards t)) (range 4)

  abbrev row_covered : ℕ → Bool
  row_covered a = all (covers k r w.links a) (range w.cards)

  full_covered : (a : ℕ) → a < w.cards → row_full a ≡ true → row_covered a ≡ true
  unfolding full_word
  full_covered a ha h =
      below_all w.cards (covers k r w.links a) (words_set w.cards (covers k r w.links a) (λ b. true) few (λ t l.
      sym (c.is a t ha l) ∙ eqb-true (get_or ws (4 * a + t) 0) (full_word w.cards t) (all_below 4 (λ t. eqb (get_or ws (4 * a + t) 0) (full_word w.cards t)) h t l)))

  covered_full : (a : ℕ) → a < w.cards → row_covered a ≡ true → row_full a ≡ true
  unfolding full_word
  covered_full a ha h =
      below_all 4 (λ t. eqb (get_or ws (4 * a + t) 0) (full_word w.cards t)) (λ t l. eq-eqb (get_or ws (4 * a + t) 0) (full_word w.cards t)
      (c.is a t ha l ∙ set_ext w.cards (covers k r w.links a) (λ b. true) t (all_below w.cards (covers k r w.links a) h)))

  pub full_exactly : words_full w.cards ws ≡ cards_covered w k r
  unfolding words_full cards_covered
  full_exactly =
      equal_if_both (all row_full (range w.cards)) (all row_covered (range w.cards))
      (λ h. below_all w.cards row_covered (λ a l. full_covered a l (all_below w.cards row_full h a l)))
      (λ h. below_all w.cards row_full (λ a l. covered_full a l (all_below w.cards row_covered h a l)))
