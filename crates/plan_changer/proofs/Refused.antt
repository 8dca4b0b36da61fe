-- What refuses a card more: the number that comes before, 14, 16 or none; and a card less: that number, 17 or none. Assumes nothing.
use mathlib.Core.Path.{◌≡◌, refl, sym, ◌∙◌}
use mathlib.Core.Bool.{Bool, ◌||◌, true, false}
use mathlib.Core.Logic.{◌⊎◌, inl, inr, ⊎_elim, ◌≢◌}
use Prim.Native.Nat.{ℕ, ◌≤◌, ◌<◌}
use native.Mathlib.Omega.{arith}
use lib.Dec.{eqb}
use borrow.Author.Tests.{eq-eqb, ne_eqb, le-leb, lt-leb}
use Rattle.rack.specs.Limits.{most_cards, most_links}
use Rattle.rack.proofs.Logic.{or_left, or_right, by_bool, by_eq, by_lt}
use Rattle.plan_changer.specs.Changing.{add_refusal, off_refusal}

-- no room for a card or a link more
abbrev pub Full : (n m : ℕ) → Type 0
Full n m = (n ≡ most_cards) ⊎ (m ≡ most_links)

-- A CARD MORE
module _ (x n m c : ℕ) where
  pub refused_before : x ≢ 0 → add_refusal x n m c ≡ x
  unfolding add_refusal
  refused_before d = rw (ne_eqb x 0 d) refl

  pub card_outside : x ≡ 0 → n ≤ c → add_refusal x n m c ≡ 14
  unfolding add_refusal
  card_outside e h = rw (eq-eqb x 0 e, le-leb n c h) refl

  full_test : Full n m → (eqb n most_cards || eqb m most_links) ≡ true
  full_test f =
      ⊎_elim (λ e. or_left (eqb n most_cards) (eqb m most_links) (eq-eqb n most_cards e))
      (λ e. or_right (eqb n most_cards) (eqb m most_links) (eq-eqb m most_links e)) f

  pub full_refused : x ≡ 0 → c < n → Full n m → add_refusal x n m c ≡ 16
  unfolding add_refusal
  full_refused e h f = rw (eq-eqb x 0 e, lt-leb n c h, full_test f) refl

  pub card_fits : x ≡ 0 → c < n → (Full n m → ⊥) → add_refusal x n m c ≡ 0
  unfolding add_refusal
  card_fits e h f = rw (eq-eqb x 0 e, lt-leb n c h, ne_eqb n most_cards (λ i. f (inl i)), ne_eqb m most_links (λ i. f (inr i))) refl

  pub by_fitting : {A : Type 0} → (x ≢ 0 → A) → (x ≡ 0 → n ≤ c → A) → (x ≡ 0 → c < n → Full n m → A) → (x ≡ 0 → c < n → (Full n m → ⊥) → A) → A
  by_fitting before outside full fits =
      by_eq x 0
      (λ e. by_lt c n
      (λ l. by_eq n most_cards
      (λ i. full e l (inl i))
      (λ p. by_eq m most_links (λ i. full e l (inr i)) (λ q. fits e l (λ f. ⊎_elim p q f))))
      (outside e))
      before

  pub clear_fits : add_refusal x n m c ≡ 0 → (x ≡ 0) × (c < n) × (Full n m → ⊥)
  clear_fits h =
      by_fitting
      (λ d. absurd (d (sym (refused_before d) ∙ h)))
      (λ e l. absurd (omega (arith, h, card_outside e l)))
      (λ e l f. absurd (omega (arith, h, full_refused e l f)))
      (λ e l f. (e, l, f))

-- A CARD LESS
module _ (x : ℕ) (hangs : Bool) where
  pub off_refused_before : x ≢ 0 → off_refusal x hangs ≡ x
  unfolding off_refusal
  off_refused_before d = rw (ne_eqb x 0 d) refl

  pub not_hanging_refused : x ≡ 0 → hangs ≡ false → off_refusal x hangs ≡ 17
  unfolding off_refusal
  not_hanging_refused e f = rw (eq-eqb x 0 e, f) refl

  pub hanging_clear : x ≡ 0 → hangs ≡ true → off_refusal x hangs ≡ 0
  unfolding off_refusal
  hanging_clear e t = rw (eq-eqb x 0 e, t) refl

  pub by_hanging : {A : Type 0} → (x ≢ 0 → A) → (x ≡ 0 → hangs ≡ true → A) → (x ≡ 0 → hangs ≡ false → A) → A
  by_hanging before hang other = by_eq x 0 (λ e. by_bool hangs (hang e) (other e)) before

  pub clear_hanging : off_refusal x hangs ≡ 0 → (x ≡ 0) × (hangs ≡ true)
  clear_hanging h =
      by_hanging
      (λ d. absurd (d (sym (off_refused_before d) ∙ h)))
      (λ e t. (e, t))
      (λ e t. absurd (omega (arith, h, not_hanging_refused e t)))
