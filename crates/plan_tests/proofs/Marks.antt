-- Marks of links: none at the start, one link more at each step, and the fault of a link from the marks of its ends. Assumes nothing.
use mathlib.Core.Path.{◌≡◌, refl, sym, ap, ◌∙◌}
use mathlib.Core.Bool.{Bool, true, false, not}
use mathlib.Core.Logic.{◌≢◌, inl, inr, ⊎_elim}
use mathlib.Core.List.{List}
use Prim.Native.Nat.{ℕ, suc, ◌+◌, ◌*◌, ◌/◌, ◌%◌, ◌<◌}
use native.Mathlib.Omega.{arith}
use lib.Dec.{eqb}
use lib.ListN.{length, take, replicate}
use borrow.Author.Tests.{not-true, not-false}
use Rattle.rack.specs.Limits.{lent_words, most_cards}
use Rattle.rack.specs.Lists.{one, count}
use Rattle.rack.specs.Wiring.{Wiring, link_count, link_at, joins}
use Rattle.rack.specs.Words.{BitSet, word_bit}
use Rattle.rack.specs.Refusals.{link_fault}
use Rattle.rack.proofs.Logic.{true_not_false, by_bool}
use Rattle.rack.proofs.Lists.{count_ext}
use Rattle.rack.proofs.Paths.{joins_ends, ends_join, joins_sym}
use Rattle.rack.proofs.LinkFaults.{joining_more, fault_parallel, fault_none}
use Rattle.rack.proofs.Zeros.{zeros_long, zeros_at}
use Rattle.rack.proofs.WordBits.{no_bit}
use Rattle.plan_tests.specs.Marks.{LinksMarked}

-- LINK BY LINK
pub none_marked : (w : Wiring) → LinksMarked w 0 (replicate lent_words 0)
unfolding word_bit
none_marked w =
    record {
      long = zeros_long lent_words _ refl;
      is = λ a b ha hb n. rw (zeros_at lent_words _ refl (4 * a + b / 64), zeros_at lent_words _ refl (4 * b + a / 64), no_bit (b % 64), no_bit (a % 64)) refl;
    }

module _ (w : Wiring) (i p q : ℕ) (ep : p ≡ (link_at w i).first) (eq : q ≡ (link_at w i).second) (hp : p < most_cards) (hq : q < most_cards) (apart : p ≢ q)
    (old : List ℕ) (marked : LinksMarked w i old) where
  earlier : count (joins p q) (take i w.links) ≡ one (word_bit old p q) + one (word_bit old q p)
  earlier = marked.is p q hp hq apart

  -- one of them more is one link more
  module _ (inside : i < link_count w) (new : List ℕ) (long : length new ≡ length old)
      (more : one (word_bit new p q) + one (word_bit new q p) ≡ suc (one (word_bit old p q) + one (word_bit old q p)))
      (others : (a b : ℕ) → b < most_cards → (a ≡ p → b ≢ q) → (a ≡ q → b ≢ p) → word_bit new a b ≡ word_bit old a b) where
    abbrev Counted : (a b : ℕ) → Type 0
    Counted a b = count (joins a b) (take (i + 1) w.links) ≡ one (word_bit new a b) + one (word_bit new b a)

    this_pair : Counted p q
    this_pair = omega (arith, joining_more w i inside p q, ap one (ends_join p q (link_at w i) (inl (sym ep, sym eq))), earlier, more)

    turned_pair : Counted q p
    turned_pair =
        count_ext (joins q p) (joins p q) (take (i + 1) w.links) (λ l m. joins_sym q p l)
        ∙ omega (arith, this_pair)

    other_pair : (a b : ℕ) → a < most_cards → b < most_cards → a ≢ b → joins a b (link_at w i) ≡ false → Counted a b
    other_pair a b ha hb n f =
        omega (arith, joining_more w i inside a b, ap one f, marked.is a b ha hb n, ap one (same a b hb f), ap one (same b a ha (joins_sym b a (link_at w i) ∙ f)))
      where
        same : (a b : ℕ) → b < most_cards → joins a b (link_at w i) ≡ false → word_bit new a b ≡ word_bit old a b
        same a b hb f =
            others a b hb (λ e g. true_not_false (joins a b (link_at w i)) (ends_join a b (link_at w i) (inl (sym ep ∙ sym e, sym eq ∙ sym g))) f)
            (λ e g. true_not_false (joins a b (link_at w i)) (ends_join a b (link_at w i) (inr (sym ep ∙ sym g, sym eq ∙ sym e))) f)

    link_marked : LinksMarked w (i + 1) new
    link_marked = record { long = long ∙ marked.long; is = pair }
      where
        pair : (a b : ℕ) → a < most_cards → b < most_cards → a ≢ b → Counted a b
        pair a b ha hb n =
            by_bool (joins a b (link_at w i))
            (λ t. ⊎_elim (λ (e, f). this (ep ∙ e) (eq ∙ f)) (λ (e, f). turned (ep ∙ e) (eq ∙ f)) (joins_ends a b (link_at w i) t))
            (other_pair a b ha hb n)
          where
            this : p ≡ a → q ≡ b → Counted a b
            this e f = rw (← e, ← f) this_pair

            turned : p ≡ b → q ≡ a → Counted a b
            turned e f = rw (← e, ← f) turned_pair

  -- THE ANSWER: a mark of the ends was free, and the link is marked; or both were set, and it is a third one
  module _ (inside : i < link_count w) (cp : p < w.cards) (cq : q < w.cards) where
    abbrev Answer : (r : Bool) (new : List ℕ) → Type 0
    Answer r new = (r ≡ eqb (link_fault w i) 0) × (r ≡ true → LinksMarked w (i + 1) new)

    pub first_free : (new : List ℕ) → true ≡ not (word_bit old p q) → BitSet p q old new → Answer true new
    first_free new was s =
        let e : one (word_bit old p q) ≡ 0 = ap one (not-true (word_bit old p q) (sym was)) in
        let f : one (word_bit new p q) ≡ 1 = ap one s.is in
        let g : one (word_bit new q p) ≡ one (word_bit old q p) = ap one (s.others q p hp (λ e f. apart (sym e))) in (
          sym (ap (λ (x : ℕ). eqb x 0)
              (fault_none w i p q ep eq cp cq apart
              (by_bool (word_bit old q p) (λ t. omega (arith, earlier, ap one t)) (λ t. omega (arith, earlier, ap one t))))),
          λ t. link_marked inside new s.long (omega arith) (λ a b hb n m. s.others a b hb n),
        )

    module _ (mid new : List ℕ) (was : false ≡ not (word_bit old p q)) (s : BitSet p q old mid) where
      first_set : one (word_bit old p q) ≡ 1
      first_set = ap one (not-false (word_bit old p q) (sym was))

      other_same : one (word_bit mid q p) ≡ one (word_bit old q p)
      other_same = ap one (s.others q p hp (λ e f. apart (sym e)))

      second_marked : true ≡ not (word_bit mid q p) → BitSet q p mid new → LinksMarked w (i + 1) new
      second_marked free t =
          let e : one (word_bit mid q p) ≡ 0 = ap one (not-true (word_bit mid q p) (sym free)) in
          let f : one (word_bit new q p) ≡ 1 = ap one t.is in
          let g : one (word_bit new p q) ≡ one (word_bit mid p q) = ap one (t.others p q hq (λ e f. apart e)) in
          link_marked inside new (t.long ∙ s.long) (omega (arith, first_set, other_same, ap one s.is))
          (λ a b hb n m. t.others a b hb m ∙ s.others a b hb n)

      pub second_free : (r : Bool) → r ≡ not (word_bit mid q p) → BitSet q p mid new → Answer r new
      second_free true free t =
          let e : one (word_bit mid q p) ≡ 0 = ap one (not-true (word_bit mid q p) (sym free)) in (
            sym (ap (λ (x : ℕ). eqb x 0) (fault_none w i p q ep eq cp cq apart (omega (arith, earlier, first_set, other_same)))),
            λ r. second_marked free t,
          )
      second_free false taken t =
          let e : one (word_bit mid q p) ≡ 1 = ap one (not-false (word_bit mid q p) (sym taken)) in (
            sym (ap (λ (x : ℕ). eqb x 0) (fault_parallel w i p q ep eq cp cq apart (omega (arith, earlier, first_set, other_same)))),
            λ r. true_not_false false r refl,
          )
