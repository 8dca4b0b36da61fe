-- What the tests of a wiring say: refusals taken apart, the rack behind them, and the test of all pairs. Assumes nothing.
use mathlib.Core.Path.{◌≡◌, refl, sym, ◌∙◌, subst}
use mathlib.Core.Bool.{Bool, true, false, ◌||◌, not, cond}
use mathlib.Core.Logic.{◌⊎◌, inl, inr, ◌≢◌}
use Prim.Native.Nat.{ℕ, ◌≤◌, ◌<◌}
use native.Mathlib.Omega.{arith}
use lib.Dec.{leb, eqb}
use lib.ListN.{take}
use borrow.Author.Tests.{eqb-true, eqb-false, eq-eqb, ne_eqb, lt-ltb, le-ltb, leb-true, leb-false, lt-leb, not-true, not-false}
use Rattle.rack.specs.Lists.{all, count, range, lowest}
use Rattle.rack.specs.Wiring.{Link, Wiring, link, link_count, link_at, joins}
use Rattle.rack.specs.Hops.{hops, connected}
use Rattle.rack.specs.Columns.{hamming, Embedding, embeds}
use Rattle.rack.specs.Refusals.{Refusal, refusal, or_else, lowest_fault, most_parallel, link_fault, links_refusal, well_formed}
use Rattle.rack.proofs.Logic.{by_eq, by_lt, nor_left, nor_right, and_left, and_right}
use Rattle.rack.proofs.Lists.{In, all_in, in_all, get_or_in}
use Rattle.rack.proofs.Tables.{in_range, range_in, lowest_passes, lowest_first, lowest_is}
use Rattle.rack.proofs.Paths.{Ends, linked_link}
use Rattle.rack.proofs.Crossing.{Rack}

-- ONE TEST AFTER ANOTHER
pub cond_zero : (t : Bool) (x y : ℕ) → x ≢ 0 → cond t x y ≡ 0 → (t ≡ false) × (y ≡ 0)
cond_zero true x y n h = absurd (n h)
cond_zero false x y n h = (refl, h)

pub cond_within : (t : Bool) (x y n : ℕ) → x ≤ n → y ≤ n → cond t x y ≤ n
cond_within true x y n h k = h
cond_within false x y n h k = k

pub or_else_clear : (x y : Refusal) → (or_else x y).number ≡ 0 → (x.number ≡ 0) × (y.number ≡ 0)
unfolding or_else
or_else_clear x y h =
    by_eq x.number 0
    (λ e. (e, rw (eq-eqb x.number 0 e) at h))
    (λ n. absurd (n (rw (ne_eqb x.number 0 n) at h)))

pub or_else_second : (x y : Refusal) → x.number ≡ 0 → or_else x y ≡ y
unfolding or_else
or_else_second x y e = rw (eq-eqb x.number 0 e) refl

pub or_else_first : (x y : Refusal) → x.number ≢ 0 → or_else x y ≡ x
unfolding or_else
or_else_first x y n = rw (ne_eqb x.number 0 n) refl

-- THE LOWEST PLACE in fault
module _ (n : ℕ) (f : ℕ → ℕ) where
  pub lowest_fault_none : ((i : ℕ) → i < n → f i ≡ 0) → lowest_fault n f ≡ refusal 0 0
  unfolding lowest_fault
  lowest_fault_none h =
      let e : lowest n (λ i. not (eqb (f i) 0)) ≡ n = lowest_is n (λ i. not (eqb (f i) 0)) n (omega arith) (λ i l. rw (eq-eqb (f i) 0 (h i l)) refl)
      (λ l. absurd (omega arith)) in
      rw (e, le-ltb n n (omega arith)) refl

  pub lowest_fault_is : (i : ℕ) → i < n → ((j : ℕ) → j < i → f j ≡ 0) → f i ≢ 0 → lowest_fault n f ≡ refusal (f i) i
  unfolding lowest_fault
  lowest_fault_is i l before here =
      let e : lowest n (λ i. not (eqb (f i) 0)) ≡ i =
      lowest_is n (λ i. not (eqb (f i) 0)) i (omega arith) (λ j k. rw (eq-eqb (f j) 0 (before j k)) refl) (λ k. rw (ne_eqb (f i) 0 here) refl) in
      rw (e, lt-ltb i n l) refl

  pub lowest_fault_clear : (lowest_fault n f).number ≡ 0 → (i : ℕ) → i < n → f i ≡ 0
  unfolding lowest_fault
  lowest_fault_clear h i l =
      by_lt (lowest n (λ i. not (eqb (f i) 0))) n
      (λ k. absurd (eqb-false (f (lowest n (λ i. not (eqb (f i) 0)))) 0
      (not-true (eqb (f (lowest n (λ i. not (eqb (f i) 0)))) 0) (lowest_passes n (λ i. not (eqb (f i) 0)) k))
      (rw (lt-ltb (lowest n (λ i. not (eqb (f i) 0))) n k) at h)))
      (λ k. eqb-true (f i) 0 (not-false (eqb (f i) 0) (lowest_first n (λ i. not (eqb (f i) 0)) i (omega arith))))

  -- its number is one of those at the places
  pub lowest_fault_number : ((lowest_fault n f).number ≡ 0) ⊎ ((i : ℕ) × (i < n) × ((lowest_fault n f).number ≡ f i) × (f i ≢ 0))
  unfolding lowest_fault
  lowest_fault_number =
      by_lt (lowest n (λ i. not (eqb (f i) 0))) n
      (λ k. inr (
        lowest n (λ i. not (eqb (f i) 0)),
        k,
        rw (lt-ltb (lowest n (λ i. not (eqb (f i) 0))) n k) refl,
        eqb-false (f (lowest n (λ i. not (eqb (f i) 0)))) 0 (not-true (eqb (f (lowest n (λ i. not (eqb (f i) 0)))) 0) (lowest_passes n (λ i. not (eqb (f i) 0)) k)),
      ))
      (λ k. inl (rw (le-ltb (lowest n (λ i. not (eqb (f i) 0))) n k) refl))

-- 6 TO 8: a link joins two different cards, and too few earlier links join them for 8
abbrev pub JoinsCards : Wiring → Link → Type 0
JoinsCards w l = (l.first < w.cards) × (l.second < w.cards) × (l.first ≢ l.second)

pub link_fault_clear : (w : Wiring) (i : ℕ) → link_fault w i ≡ 0 → JoinsCards w (link_at w i)
unfolding link_fault
link_fault_clear w i h =
    let p = (link_at w i).first in
    let q = (link_at w i).second in
    let c₆ = cond_zero (leb w.cards p || leb w.cards q) 6 _ (λ e. omega arith) h in
    let c₇ = cond_zero (eqb p q) 7 _ (λ e. omega arith) c₆.1 in (
      leb-false w.cards p (nor_left (leb w.cards p) (leb w.cards q) c₆.0),
      leb-false w.cards q
          (nor_right (leb w.cards p) (leb w.cards q) c₆.0),
      eqb-false p q c₇.0,
    )

pub link_fault_few : (w : Wiring) (i : ℕ) → link_fault w i ≡ 0 → count (joins (link_at w i).first (link_at w i).second) (take i w.links) < most_parallel
unfolding link_fault
link_fault_few w i h =
    let p = (link_at w i).first in
    let q = (link_at w i).second in
    let earlier = count (joins p q) (take i w.links) in
    let c₆ = cond_zero (leb w.cards p || leb w.cards q) 6 _ (λ e. omega arith) h in
    let c₇ = cond_zero (eqb p q) 7 _ (λ e. omega arith) c₆.1 in
    leb-false most_parallel earlier (cond_zero (leb most_parallel earlier) 8 0 (λ e. omega arith) c₇.1).0

pub clear_link_fault : (w : Wiring) (i : ℕ) → JoinsCards w (link_at w i) → count (joins (link_at w i).first (link_at w i).second) (take i w.links) < most_parallel → link_fault w i ≡ 0
unfolding link_fault
clear_link_fault w i (p, q, apart) few =
    rw (
      lt-leb w.cards (link_at w i).first p,
      lt-leb w.cards (link_at w i).second q,
      ne_eqb (link_at w i).first (link_at w i).second apart,
      lt-leb most_parallel (count (joins (link_at w i).first (link_at w i).second) (take i w.links)) few,
    ) refl

pub links_clear : (w : Wiring) → (links_refusal w).number ≡ 0 → (l : Link) → In l w.links → JoinsCards w l
unfolding links_refusal
links_clear w h l m =
    let r = get_or_in w.links (link 0 0) l m in
    subst (JoinsCards w) r.2 (link_fault_clear w r.0 (lowest_fault_clear (link_count w) (link_fault w) h r.0 r.1))

-- so a connected wiring is a rack
pub joined_rack : (w : Wiring) → 1 ≤ w.cards → ((l : Link) → In l w.links → JoinsCards w l) → connected w ≡ true → Rack w
joined_rack w some joins_cards c =
    record { inside = λ a b e. inside a b (linked_link w a b e); apart = λ a b e. apart a b (linked_link w a b e); some = some; whole = c }
  where
    inside : (a b : ℕ) → (l : Link) × In l w.links × Ends a b l → (a < w.cards) × (b < w.cards)
    inside a b (l, i, inl e) = let f = joins_cards l i in (rw e.0 at f.0, rw e.1 at f.1)
    inside a b (l, i, inr e) = let f = joins_cards l i in (rw e.1 at f.1, rw e.0 at f.0)

    apart : (a b : ℕ) → (l : Link) × In l w.links × Ends a b l → a ≢ b
    apart a b (l, i, inl e) g = (joins_cards l i).2 (e.0 ∙ g ∙ sym e.1)
    apart a b (l, i, inr e) g = (joins_cards l i).2 (e.0 ∙ sym g ∙ sym e.1)

pub well_formed_rack : (w : Wiring) → well_formed w ≡ true → connected w ≡ true → Rack w
unfolding well_formed
well_formed_rack w h c =
    joined_rack w (leb-true 1 w.cards (and_left (leb 1 w.cards) (eqb (links_refusal w).number 0) h))
    (links_clear w (eqb-true (links_refusal w).number 0 (and_right (leb 1 w.cards) (eqb (links_refusal w).number 0) h))) c

-- THE TEST OF ALL PAIRS
module _ (w : Wiring) (k : ℕ) (r : ℕ → ℕ → Bool) where
  abbrev row_test : ℕ → Bool
  row_test a = all (λ b. eqb (hamming k (r a) (r b)) (hops w a b)) (range w.cards)

  pub embeds_embedding : embeds w k r ≡ true → Embedding w k r
  unfolding embeds
  embeds_embedding h a b ha hb =
      eqb-true (hamming k (r a) (r b)) (hops w a b)
      (all_in (λ b. eqb (hamming k (r a) (r b)) (hops w a b)) (range w.cards)
      (all_in row_test (range w.cards) h a (in_range w.cards a ha)) b (in_range w.cards b hb))

  pub embedding_embeds : Embedding w k r → embeds w k r ≡ true
  unfolding embeds
  embedding_embeds m =
      in_all row_test (range w.cards) (λ a i. in_all (λ b. eqb (hamming k (r a) (r b)) (hops w a b)) (range w.cards) (λ b j.
      eq-eqb (hamming k (r a) (r b)) (hops w a b) (m a b (range_in w.cards a i) (range_in w.cards b j))))
