-- Words of sets: a union is their `or`, the rest of the cards a difference, and equal words are equal sets. Assumes nothing.
use mathlib.Core.Path.{◌≡◌, refl, sym, ap, ◌∙◌}
use mathlib.Core.Bool.{Bool, true, false, ◌&&◌, ◌||◌, not, cond}
use mathlib.Core.Logic.{◌≢◌}
use Prim.Native.Nat.{ℕ, zero, suc, ◌+◌, ◌*◌, ◌-◌, ◌/◌, ◌%◌, ◌^◌, ◌≤◌, ◌<◌, max}
use native.Mathlib.Omega.{arith}
use lib.Bits.{bit_or, or_step, or_zero_l}
use lib.Dec.{eqb, ltb}
use borrow.Author.Tests.{eq-eqb, ne_eqb, lt-ltb, le-ltb, ltb-true}
use Rattle.rack.specs.Limits.{most_cards}
use Rattle.rack.specs.Lists.{one}
use Rattle.rack.specs.Bits.{number_bit, bits_value}
use Rattle.rack.proofs.Logic.{by_bool, by_eq, by_lt}
use Rattle.rack.proofs.Bits.{bits_value_number, bits_value_ext, bits_value_more, bits_value_few}
use Rattle.card_sets.specs.Sets.{set_word}
use Rattle.card_sets.proofs.ColumnWords.{bits_none}
use Rattle.plan_cover.specs.Covers.{full_word}

-- VALUES of bits
value_half : (b : Bool) (x : ℕ) → (one b + 2 * x) / 2 ≡ x
value_half true x = omega arith
value_half false x = omega arith

value_odd : (b : Bool) (x : ℕ) → (one b + 2 * x) % 2 ≡ one b
value_odd true x = omega arith
value_odd false x = omega arith

or_one : (p q : Bool) → max (one p) (one q) ≡ one (p || q)
or_one true true = refl
or_one true false = refl
or_one false true = refl
or_one false false = refl

or_value : (n : ℕ) (f g : ℕ → Bool) → bit_or (bits_value n f) (bits_value n g) ≡ bits_value n (λ i. f i || g i)
unfolding bits_value
or_value zero f g = or_zero_l 0
or_value (suc n) f g =
    let x = bits_value n (λ i. f (suc i)) in
    let y = bits_value n (λ i. g (suc i)) in
    or_step (one (f 0) + 2 * x) (one (g 0) + 2 * y)
    ∙ rw (value_half (f 0) x, value_half (g 0) y, value_odd (f 0) x, value_odd (g 0) y, or_value n (λ i. f (suc i)) (λ i. g (suc i)), or_one (f 0) (g 0))
    (omega arith)

-- the bits that pass a test, and the rest
part_one : (w x : Bool) → one (w && x) + one (w && not x) ≡ one w
part_one true true = refl
part_one true false = refl
part_one false x = refl

parts_value : (n : ℕ) (w s : ℕ → Bool) → bits_value n (λ i. w i && s i) + bits_value n (λ i. w i && not (s i)) ≡ bits_value n (λ i. w i && true)
unfolding bits_value
parts_value zero w s = refl
parts_value (suc n) w s = omega (arith, part_one (w 0) (s 0), whole (w 0), parts_value n (λ i. w (suc i)) (λ i. s (suc i)))
  where
    whole : (x : Bool) → one (x && true) ≡ one x
    whole true = refl
    whole false = refl

-- SETS of cards below n
module _ (n : ℕ) (s u : ℕ → Bool) (t : ℕ) where
  pub set_ext : ((b : ℕ) → b < n → s b ≡ u b) → set_word n s t ≡ set_word n u t
  unfolding set_word
  set_ext h = bits_value_ext 64 _ _ (λ i l. within (64 * t + i))
    where
      within : (b : ℕ) → (ltb b n && s b) ≡ (ltb b n && u b)
      within b = by_bool (ltb b n) (λ (e : ltb b n ≡ true). rw e (h b (ltb-true b n e))) (λ (e : ltb b n ≡ false). rw e refl)

  pub set_union : bit_or (set_word n s t) (set_word n u t) ≡ set_word n (λ b. s b || u b) t
  unfolding set_word
  set_union = or_value 64 _ _ ∙ bits_value_ext 64 _ _ (λ i l. either (ltb (64 * t + i) n) (s (64 * t + i)) (u (64 * t + i)))
    where
      either : (w x y : Bool) → ((w && x) || (w && y)) ≡ (w && (x || y))
      either true x y = refl
      either false x y = refl

-- a set and the rest of the cards
module _ (n : ℕ) (s : ℕ → Bool) (t : ℕ) where
  set_parts : set_word n s t + set_word n (λ b. not (s b)) t ≡ full_word n t
  unfolding full_word set_word
  set_parts = parts_value 64 (λ i. ltb (64 * t + i) n) (λ i. s (64 * t + i))

  pub set_inside : set_word n s t ≤ full_word n t
  set_inside = omega (arith, set_parts)

  pub set_rest : set_word n (λ b. not (s b)) t ≡ full_word n t - set_word n s t
  set_rest = omega (arith, set_parts)

-- EQUAL WORDS are equal sets
pub words_set : (n : ℕ) (s u : ℕ → Bool) → n ≤ most_cards → ((t : ℕ) → t < 4 → set_word n s t ≡ set_word n u t) → (b : ℕ) → b < n → s b ≡ u b
unfolding set_word
words_set n s u few h b l = sym (bit s) ∙ ap (λ (x : ℕ). number_bit x (b % 64)) (h (b / 64) (omega arith)) ∙ bit u
  where
    bit : (v : ℕ → Bool) → number_bit (bits_value 64 (λ i. ltb (64 * (b / 64) + i) n && v (64 * (b / 64) + i))) (b % 64) ≡ v b
    bit v =
        let e : 64 * (b / 64) + b % 64 ≡ b = omega arith in
        bits_value_number 64 (λ i. ltb (64 * (b / 64) + i) n && v (64 * (b / 64) + i)) (b % 64) (omega arith) ∙ rw (e, lt-ltb b n l) refl

and_none : (x : Bool) → (x && false) ≡ false
and_none true = refl
and_none false = refl

-- CARD BY CARD: card n is bit n mod 64 of word n / 64
next_below : (b n : ℕ) → b ≢ n → ltb b (n + 1) ≡ ltb b n
next_below b n h = by_lt b n (λ l. lt-ltb b (n + 1) (omega arith) ∙ sym (lt-ltb b n l)) (λ l. le-ltb b (n + 1) (omega arith) ∙ sym (le-ltb b n l))

pub set_none : (s : ℕ → Bool) (t : ℕ) → set_word 0 s t ≡ 0
unfolding set_word
set_none s t = bits_none 64 (λ i. ltb (64 * t + i) 0 && s (64 * t + i)) (λ i l. rw (le-ltb (64 * t + i) 0 (omega arith)) refl)

module _ (n : ℕ) (s : ℕ → Bool) where
  pub set_still : (t : ℕ) → t ≢ n / 64 → set_word (n + 1) s t ≡ set_word n s t
  unfolding set_word
  set_still t h =
      bits_value_ext 64 (λ i. ltb (64 * t + i) (n + 1) && s (64 * t + i)) (λ i. ltb (64 * t + i) n && s (64 * t + i)) (λ i l.
      ap (λ (w : Bool). w && s (64 * t + i)) (next_below (64 * t + i) n (λ e. h (omega arith))))

  pub set_more : set_word (n + 1) s (n / 64) ≡ set_word n s (n / 64) + one (s n) * 2 ^ (n % 64)
  unfolding set_word
  set_more =
      bits_value_more 64 (λ i. ltb (64 * (n / 64) + i) n && s (64 * (n / 64) + i)) (λ i. ltb (64 * (n / 64) + i) (n + 1) && s (64 * (n / 64) + i)) (n % 64) (omega arith)
      (rw (e, le-ltb n n (omega arith)) refl)
      (λ j l h. sym (ap (λ (w : Bool). w && s (64 * (n / 64) + j)) (next_below (64 * (n / 64) + j) n (λ f. h (omega arith)))))
      ∙ rw (e, lt-ltb n (n + 1) (omega arith)) refl
    where
      e : 64 * (n / 64) + n % 64 ≡ n
      e = omega arith

  pub set_room : set_word n s (n / 64) < 2 ^ (n % 64)
  unfolding set_word
  set_room =
      bits_value_few 64 (λ i. ltb (64 * (n / 64) + i) n && s (64 * (n / 64) + i)) (n % 64) (λ j l. rw (le-ltb (64 * (n / 64) + j) n (omega arith)) refl)

-- the set of one card
pub set_single : (n a t : ℕ) → a < n → set_word n (eqb a) t ≡ cond (eqb t (a / 64)) (2 ^ (a % 64)) 0
unfolding set_word
set_single n a t h = by_eq t (a / 64) here elsewhere
  where
    off : (i : ℕ) → a ≢ 64 * t + i → (ltb (64 * t + i) n && eqb a (64 * t + i)) ≡ false
    off i d = rw (ne_eqb a (64 * t + i) d) (and_none (ltb (64 * t + i) n))

    elsewhere : t ≢ a / 64 → bits_value 64 (λ i. ltb (64 * t + i) n && eqb a (64 * t + i)) ≡ cond (eqb t (a / 64)) (2 ^ (a % 64)) 0
    elsewhere d = rw (ne_eqb t (a / 64) d) (bits_none 64 _ (λ i l. off i (λ e. d (omega arith))))

    here : t ≡ a / 64 → bits_value 64 (λ i. ltb (64 * t + i) n && eqb a (64 * t + i)) ≡ cond (eqb t (a / 64)) (2 ^ (a % 64)) 0
    here e =
        let f : 64 * t + a % 64 ≡ a = omega arith in
        rw (eq-eqb t (a / 64) e)
        (bits_value_more 64 (λ i. false) (λ i. ltb (64 * t + i) n && eqb a (64 * t + i)) (a % 64) (omega arith) refl (λ j l d. sym (off j (λ g. d (omega arith))))
        ∙ rw (f, lt-ltb a n h, eq-eqb a a refl) (omega (arith, bits_none 64 (λ i. false) (λ i l. refl))))
