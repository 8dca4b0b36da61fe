-- Marks of linked pairs: none at the start, one link more at each step. Assumes nothing.
use mathlib.Core.Path.{◌≡◌, sym, ap, ◌∙◌}
use mathlib.Core.Bool.{true}
use mathlib.Core.List.{List}
use mathlib.Core.Logic.{inl, inr, ⊎_elim, ◌≢◌}
use Prim.Native.Nat.{ℕ, ◌+◌, ◌*◌, ◌<◌}
use native.Mathlib.Omega.{arith}
use lib.ListN.{set, take, replicate, length-set}
use lib.Seq.{get_or-set_same, get_or-set_other}
use Rattle.rack.specs.Limits.{lent_hops}
use Rattle.rack.specs.Lists.{one, count}
use Rattle.rack.specs.Wiring.{Link, Wiring, link_count, link_at, joins}
use Rattle.rack.proofs.Logic.{true_not_false, not_true_false, by_bool, by_eq}
use Rattle.rack.proofs.Lists.{count_ext}
use Rattle.rack.proofs.Paths.{joins_ends, ends_join}
use Rattle.rack.proofs.LinkFaults.{joining_more}
use Rattle.survey.specs.Tables.{cell}
use Rattle.survey.specs.Marks.{Marked}
use Rattle.rack.proofs.Zeros.{zeros_long, zeros_at}

-- MARKS
pub none_marked : (w : Wiring) (h : List ℕ) → h ≡ replicate lent_hops 0 → Marked w 0 h
none_marked w h e =
    record {
      long = zeros_long lent_hops h e;
      is = λ a b ha hb n. zeros_at lent_hops h e (256 * a + b);
    }

joins_sym : (a b : ℕ) (l : Link) → joins a b l ≡ joins b a l
joins_sym a b l =
    by_bool (joins a b l)
    (λ t. t ∙ sym (ends_join b a l (⊎_elim inr inl (joins_ends a b l t))))
    (λ t. t ∙ sym (not_true_false (joins b a l) (λ u. true_not_false (joins a b l) (ends_join a b l (⊎_elim inr inl (joins_ends b a l u))) t)))

module _ (w : Wiring) (i : ℕ) (inside : i < link_count w) where
  module _ (h : List ℕ) (p q : ℕ) (ep : p ≡ (link_at w i).first) (eq : q ≡ (link_at w i).second) (hp : p < 256) (hq : q < 256) (apart : p ≢ q) (marked : Marked w i h) where
    abbrev pub marks_more : List ℕ
    marks_more = set (set h (256 * p + q) (cell h p q + 1)) (256 * q + p) (cell h p q + 1)

    mark_first : cell marks_more p q ≡ count (joins p q) (take (i + 1) w.links)
    mark_first =
        get_or-set_other (set h (256 * p + q) (cell h p q + 1)) (256 * q + p) (256 * p + q) (cell h p q + 1) 0 (λ e. apart (omega arith))
        ∙ get_or-set_same h (256 * p + q) (cell h p q + 1) 0 (omega (arith, marked.long))
        ∙ omega (arith, marked.is p q hp hq apart, joining_more w i inside p q, ap one (ends_join p q (link_at w i) (inl (sym ep, sym eq))))

    mark_second : cell marks_more q p ≡ count (joins q p) (take (i + 1) w.links)
    mark_second =
        get_or-set_same (set h (256 * p + q) (cell h p q + 1)) (256 * q + p) (cell h p q + 1) 0 (omega (arith, marked.long, length-set h (256 * p + q) (cell h p q + 1)))
        ∙ omega (
          arith,
          marked.is p q hp hq apart,
          count_ext (joins p q) (joins q p) (take i w.links) (λ l m. joins_sym p q l),
          joining_more w i inside q p,
          ap one (ends_join q p (link_at w i) (inr (sym ep, sym eq))),
        )

    mark_other : (a b : ℕ) → a < 256 → b < 256 → a ≢ b → 256 * a + b ≢ 256 * p + q → 256 * a + b ≢ 256 * q + p → cell marks_more a b ≡ count (joins a b) (take (i + 1) w.links)
    mark_other a b ha hb n d e =
        get_or-set_other (set h (256 * p + q) (cell h p q + 1)) (256 * q + p) (256 * a + b) (cell h p q + 1) 0 e
        ∙ get_or-set_other h (256 * p + q) (256 * a + b) (cell h p q + 1) 0 d
        ∙ omega (arith, marked.is a b ha hb n, joining_more w i inside a b, ap one (not_true_false (joins a b (link_at w i)) other_pair))
      where
        other_pair : joins a b (link_at w i) ≡ true → ⊥
        other_pair t = ⊎_elim (λ f. d (omega (arith, f.0, f.1))) (λ f. e (omega (arith, f.0, f.1))) (joins_ends a b (link_at w i) t)

    pub more_marked : Marked w (i + 1) marks_more
    more_marked =
        record {
          long = simp length-set marked.long;
          is = λ a b ha hb n.
              by_eq (256 * a + b) (256 * p + q) (λ d. first a b (omega arith) (omega arith))
              (λ d. by_eq (256 * a + b) (256 * q + p) (λ e. second a b (omega arith) (omega arith)) (mark_other a b ha hb n d));
        }
      where
        first : (a b : ℕ) → a ≡ p → b ≡ q → cell marks_more a b ≡ count (joins a b) (take (i + 1) w.links)
        first a b e f = rw (e, f) mark_first

        second : (a b : ℕ) → a ≡ q → b ≡ p → cell marks_more a b ≡ count (joins a b) (take (i + 1) w.links)
        second a b e f = rw (e, f) mark_second
