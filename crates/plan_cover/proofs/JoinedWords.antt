-- Word by word: the far sides of a link joined to the words of its ends. Assumes nothing.
use mathlib.Core.Path.{◌≡◌, refl, sym, ap, ap₂, ◌∙◌}
use mathlib.Core.Bool.{Bool, true, cond}
use mathlib.Core.Logic.{◌≢◌}
use mathlib.Core.List.{List}
use Prim.Native.Nat.{ℕ, ◌+◌, ◌*◌, ◌-◌, ◌<◌}
use native.Mathlib.Omega.{arith}
use lib.Bits.{bit_or}
use lib.ListN.{length, get_or, set, length-set}
use lib.Seq.{get_or-set_same, get_or-set_other}
use Rattle.rack.specs.Lists.{differ}
use Rattle.rack.specs.Wiring.{Link}
use Rattle.rack.proofs.Logic.{by_eq}
use Rattle.plan_tests.specs.Tests.{crossed}
use Rattle.card_sets.specs.Sets.{set_word}
use Rattle.plan_cover.specs.Covers.{full_word, far_side, far_word, WordsJoined, SidesJoined}
use Rattle.plan_cover.proofs.Covers.{far_column, far_other}

module _ (cs f : List ℕ) (p q j : ℕ) (b : Bool) where
  pub none_joined : (ws : List ℕ) → WordsJoined cs f p q j b ws ws 0
  none_joined ws = record { long = refl; first = λ t h. absurd (omega arith); second = λ t h. absurd (omega arith); others = λ x n m. refl }

  abbrev far : ℕ → ℕ
  far = far_word cs f j b

  joined_next : (old mid : List ℕ) (t : ℕ) → WordsJoined cs f p q j b old mid t → p ≢ q → t < 4 → 4 * p + t < length mid → 4 * q + t < length mid
      → WordsJoined cs f p q j b old
      (set (set mid (4 * p + t) (bit_or (get_or mid (4 * p + t) 0) (far t))) (4 * q + t)
      (bit_or (get_or (set mid (4 * p + t) (bit_or (get_or mid (4 * p + t) 0) (far t))) (4 * q + t) 0) (get_or f t 0 - far t))) (t + 1)
  joined_next old mid t w apart few hp hq = record { long = simp length-set w.long; first = first; second = second; others = others }
    where
      one : List ℕ
      one = set mid (4 * p + t) (bit_or (get_or mid (4 * p + t) 0) (far t))

      new : List ℕ
      new = set one (4 * q + t) (bit_or (get_or one (4 * q + t) 0) (get_or f t 0 - far t))

      at_other : (x : ℕ) → x ≢ 4 * p + t → x ≢ 4 * q + t → get_or new x 0 ≡ get_or mid x 0
      at_other x n m = get_or-set_other one (4 * q + t) x _ 0 m ∙ get_or-set_other mid (4 * p + t) x _ 0 n

      first : (s : ℕ) → s < t + 1 → get_or new (4 * p + s) 0 ≡ bit_or (get_or old (4 * p + s) 0) (far s)
      first s h =
          by_eq s t
          (λ (e : s ≡ t). rw e (get_or-set_other one (4 * q + t) (4 * p + t) _ 0 (λ g. apart (omega arith)) ∙ get_or-set_same mid (4 * p + t) _ 0 hp
          ∙ ap (λ (x : ℕ). bit_or x (far t)) (w.others (4 * p + t) (λ u l g. omega arith) (λ u l g. apart (omega arith)))))
          (λ n. at_other (4 * p + s) (λ g. n (omega arith)) (λ g. apart (omega arith)) ∙ w.first s (omega arith))

      second : (s : ℕ) → s < t + 1 → get_or new (4 * q + s) 0 ≡ bit_or (get_or old (4 * q + s) 0) (get_or f s 0 - far s)
      second s h =
          by_eq s t
          (λ (e : s ≡ t). rw e (get_or-set_same one (4 * q + t) _ 0 (simp length-set hq)
          ∙ ap (λ (x : ℕ). bit_or x (get_or f t 0 - far t)) (get_or-set_other mid (4 * p + t) (4 * q + t) _ 0 (λ g. apart (omega arith))
          ∙ w.others (4 * q + t) (λ u l g. apart (omega arith)) (λ u l g. omega arith))))
          (λ n. at_other (4 * q + s) (λ g. apart (omega arith)) (λ g. n (omega arith)) ∙ w.second s (omega arith))

      others : (x : ℕ) → ((s : ℕ) → s < t + 1 → x ≢ 4 * p + s) → ((s : ℕ) → s < t + 1 → x ≢ 4 * q + s) → get_or new x 0 ≡ get_or old x 0
      others x n m = at_other x (n t (omega arith)) (m t (omega arith)) ∙ w.others x (λ s l. n s (omega arith)) (λ s l. m s (omega arith))

  pub more_joined : (old mid : List ℕ) (t v : ℕ) → v ≡ cond b (get_or f t 0 - get_or cs (4 * j + t) 0) (get_or cs (4 * j + t) 0)
      → WordsJoined cs f p q j b old mid t → p ≢ q → t < 4 → 4 * p + t < length mid → 4 * q + t < length mid
      → WordsJoined cs f p q j b old
      (set (set mid (4 * p + t) (bit_or (get_or mid (4 * p + t) 0) v)) (4 * q + t)
      (bit_or (get_or (set mid (4 * p + t) (bit_or (get_or mid (4 * p + t) 0) v)) (4 * q + t) 0) (get_or f t 0 - v))) (t + 1)
  unfolding far_word
  more_joined old mid t v e w apart few hp hq = rw e (joined_next old mid t w apart few hp hq)

-- THE SIDES, where the words hold the crossed column and the full set
pub words_sides : (n k : ℕ) (r : ℕ → ℕ → Bool) (l : Link) (cs f old new : List ℕ)
    → ((t : ℕ) → t < 4 → get_or cs (4 * crossed k r l + t) 0 ≡ set_word n (λ c. r c (crossed k r l)) t) → ((t : ℕ) → t < 4 → get_or f t 0 ≡ full_word n t)
    → differ (r l.first (crossed k r l)) (r l.second (crossed k r l)) ≡ true
    → WordsJoined cs f l.first l.second (crossed k r l) (r l.first (crossed k r l)) old new 4 → SidesJoined n k r l old new
unfolding far_word
words_sides n k r l cs f old new column full apart w =
    record {
      long = w.long;
      first = λ t h. w.first t h ∙ ap (bit_or (get_or old (4 * l.first + t) 0)) (side t h);
      second = λ t h. w.second t h ∙ ap (bit_or (get_or old (4 * l.second + t) 0)) (ap₂ ◌-◌ (full t h) (side t h) ∙ far_other n k r l t apart);
      others = λ a t h p q. w.others (4 * a + t) (λ u g e. p (omega arith)) (λ u g e. q (omega arith));
    }
  where
    side : (t : ℕ) → t < 4 → far_word cs f (crossed k r l) (r l.first (crossed k r l)) t ≡ set_word n (far_side k r l.first l) t
    side t h = sym (far_column n k r l.first l t ∙ sym (rw (column t h, full t h) refl))
