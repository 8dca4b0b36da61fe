-- The set of all cards and the sets of single cards, card by card, and the test that sets are full, word by word. Assumes nothing.
use mathlib.Core.Path.{◌≡◌, refl, sym, ap, ap₂, ◌∙◌}
use mathlib.Core.Bool.{Bool, true, cond}
use mathlib.Core.List.{List, [], ◌∷◌}
use Prim.Native.Nat.{ℕ, zero, suc, ◌+◌, ◌*◌, ◌/◌, ◌%◌, ◌^◌, ◌≤◌, ◌<◌}
use native.Mathlib.Nat.{one-mul, pow-succ'}
use native.Mathlib.Omega.{arith}
use lib.Dec.{eqb}
use lib.ListN.{length, get_or, set, length-set}
use lib.Pow.{pow_mono}
use lib.Seq.{get_or-set_same, get_or-set_other}
use borrow.Author.Tests.{eqb-true, eq-eqb, ne_eqb}
use Rattle.rack.specs.Limits.{lent_words, most_cards}
use Rattle.rack.specs.Lists.{all, range}
use Rattle.rack.proofs.Logic.{by_bool, by_eq, not_true_false, true_not_false}
use Rattle.rack.proofs.Tables.{all_below, below_all}
use Rattle.rack.proofs.Bits.{word_weight}
use Rattle.card_sets.specs.Sets.{set_word}
use Rattle.plan_cover.specs.Covers.{full_word, FullWords, words_full}
use Rattle.plan_cover.proofs.Sets.{set_none, set_still, set_more, set_room, set_single}

-- THE LAST TEST, word by word
module _ (n : ℕ) (f ws : List ℕ) (full : FullWords n f) where
  abbrev row : ℕ → Bool
  row a = all (λ t. eqb (get_or ws (4 * a + t) 0) (full_word n t)) (range 4)

  words_agree : ((i : ℕ) → i < 4 * n → get_or ws i 0 ≡ get_or f (i % 4) 0) → words_full n ws ≡ true
  unfolding words_full
  words_agree h =
      below_all n row (λ a l. below_all 4 (λ t. eqb (get_or ws (4 * a + t) 0) (full_word n t)) (λ t g.
      let e : (4 * a + t) % 4 ≡ t = omega arith in
      eq-eqb (get_or ws (4 * a + t) 0) (full_word n t) (h (4 * a + t) (omega arith) ∙ ap (λ (u : ℕ). get_or f u 0) e ∙ full t g)))

  agree_words : words_full n ws ≡ true → (i : ℕ) → i < 4 * n → get_or ws i 0 ≡ get_or f (i % 4) 0
  unfolding words_full
  agree_words h i l =
      let e : 4 * (i / 4) + i % 4 ≡ i = omega arith in
      let g : eqb (get_or ws (4 * (i / 4) + i % 4) 0) (full_word n (i % 4)) ≡ true =
      all_below 4 (λ t. eqb (get_or ws (4 * (i / 4) + t) 0) (full_word n t)) (all_below n row h (i / 4) (omega arith)) (i % 4) (omega arith) in
      rw e at (eqb-true (get_or ws (4 * (i / 4) + i % 4) 0) (full_word n (i % 4)) g) ∙ sym (full (i % 4) (omega arith))

  abbrev pub agrees : ℕ → Bool
  agrees i = eqb (get_or ws i 0) (get_or f (i % 4) 0)

  pub words_exactly : all agrees (range (4 * n)) ≡ words_full n ws
  words_exactly =
      by_bool (all agrees (range (4 * n)))
      (λ t. t ∙ sym (words_agree (λ i l. eqb-true (get_or ws i 0) (get_or f (i % 4) 0) (all_below (4 * n) agrees t i l))))
      (λ e. e ∙ sym (not_true_false (words_full n ws) (λ h.
      true_not_false _ (below_all (4 * n) agrees (λ i l. eq-eqb (get_or ws i 0) (get_or f (i % 4) 0) (agree_words h i l))) e)))

-- THE FULL SET, card by card
full_none : (t : ℕ) → 0 ≡ full_word 0 t
unfolding full_word
full_none t = sym (set_none (λ b. true) t)

module _ (c : ℕ) (ws : List ℕ) (few : c < most_cards) (is : FullWords c ws) where
  pub full_fits : get_or ws (c / 64) 0 + 1 * 2 ^ (c % 64) % 2 ^ 64 < 2 ^ 64
  unfolding full_word
  full_fits =
      omega (
        arith,
        word_weight (c % 64) (omega arith),
        is (c / 64) (omega arith),
        set_room c (λ b. true),
        pow-succ' 2 (c % 64),
        pow_mono {i = suc (c % 64)} {j = 64} (omega arith),
      )

  pub full_next : c / 64 < length ws → FullWords (c + 1) (set ws (c / 64) (get_or ws (c / 64) 0 + 1 * 2 ^ (c % 64) % 2 ^ 64))
  unfolding full_word
  full_next inside t l =
      by_eq t (c / 64)
      (λ (f : t ≡ c / 64). rw f (get_or-set_same ws (c / 64) _ 0 inside ∙ ap₂ ◌+◌ (is (c / 64) (omega arith)) (word_weight (c % 64) (omega arith) ∙ sym (one-mul (2 ^ (c % 64)))) ∙ sym (set_more c (λ b. true))))
      (λ n. get_or-set_other ws (c / 64) t _ 0 n ∙ is t l ∙ sym (set_still c (λ b. true) t n))

pub zeros_full : FullWords 0 (0 ∷ 0 ∷ 0 ∷ 0 ∷ [])
zeros_full zero h = full_none 0
zeros_full (suc zero) h = full_none 1
zeros_full (suc (suc zero)) h = full_none 2
zeros_full (suc (suc (suc zero))) h = full_none 3
zeros_full (suc (suc (suc (suc t)))) h = absurd (omega arith)

-- EACH CARD BY ITSELF
abbrev pub Singles : (n : ℕ) (ws : List ℕ) (upto : ℕ) → Type 0
Singles n ws upto =
    (length ws ≡ lent_words)
    × ((a t : ℕ) → a < upto → t < 4 → get_or ws (4 * a + t) 0 ≡ set_word n (eqb a) t)
    × ((x : ℕ) → 4 * upto ≤ x → get_or ws x 0 ≡ 0)

pub single_next : (n a : ℕ) (ws : List ℕ) → a < n → n ≤ most_cards → Singles n ws a → Singles n (set ws (4 * a + a / 64) (1 * 2 ^ (a % 64) % 2 ^ 64)) (a + 1)
single_next n a ws h few (long, single, rest) = (simp length-set long, is, λ x l. get_or-set_other ws (4 * a + a / 64) x _ 0 (λ e. omega arith) ∙ rest x (omega arith))
  where
    here : (t : ℕ) → t < 4 → get_or (set ws (4 * a + a / 64) (1 * 2 ^ (a % 64) % 2 ^ 64)) (4 * a + t) 0 ≡ cond (eqb t (a / 64)) (2 ^ (a % 64)) 0
    here t l =
        by_eq t (a / 64)
        (λ (e : t ≡ a / 64). rw (e, eq-eqb (a / 64) (a / 64) refl) (get_or-set_same ws (4 * a + a / 64) _ 0 (omega arith) ∙ word_weight (a % 64) (omega arith)))
        (λ d. rw (ne_eqb t (a / 64) d) (get_or-set_other ws (4 * a + a / 64) (4 * a + t) _ 0 (λ g. d (omega arith)) ∙ rest (4 * a + t) (omega arith)))

    is : (b t : ℕ) → b < a + 1 → t < 4 → get_or (set ws (4 * a + a / 64) (1 * 2 ^ (a % 64) % 2 ^ 64)) (4 * b + t) 0 ≡ set_word n (eqb b) t
    is b t l g =
        by_eq b a
        (λ (e : b ≡ a). rw e (here t g ∙ sym (set_single n a t h)))
        (λ d. get_or-set_other ws (4 * a + a / 64) (4 * b + t) _ 0 (λ f. d (omega arith)) ∙ single b t (omega arith) g)
