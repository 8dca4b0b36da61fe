-- With which number adding a card and taking the last one off are refused, and what holds where they are not. Assumes nothing.
use mathlib.Core.Path.{◌≡◌, refl, sym, ◌∙◌}
use mathlib.Core.Bool.{Bool, true, false}
use mathlib.Core.Logic.{◌≢◌}
use mathlib.Core.List.{List}
use Prim.Native.Nat.{ℕ, ◌≤◌, ◌<◌}
use native.Mathlib.Omega.{arith}
use borrow.Author.Tests.{eq-eqb, ne_eqb}
use Rattle.rack.specs.Limits.{lent_plan}
use Rattle.rack.specs.PlanFile.{plan_cards, plan_links, plan_wiring}
use Rattle.rack.proofs.Logic.{by_eq}
use Rattle.pendant.specs.Pendant.{last_hangs}
use Rattle.plan_totals.specs.Summed.{total_refusal}
use Rattle.plan_totals.proofs.Refusals.{total_clear, total_refusal_most}
use Rattle.plan_changer.specs.Changing.{add_refusal, off_refusal}
use Rattle.plan_changer.proofs.Refused.{Full, refused_before, card_outside, full_refused, card_fits, by_fitting, clear_fits}
use Rattle.plan_changer.proofs.Refused.{off_refused_before, hanging_clear, by_hanging, clear_hanging}
use Rattle.last_card.specs.Calls.{add_card_refusal, take_off_refusal}
use Rattle.last_card.specs.Promises.{ReadWith}

module _ (ps : List ℕ) (t : ℕ) where
  abbrev x : ℕ
  x = total_refusal ps t

  abbrev n : ℕ
  n = plan_cards ps

  abbrev m : ℕ
  m = plan_links ps

  abbrev hangs : Bool
  hangs = last_hangs (plan_wiring ps)

  -- ADDING
  module _ (c : ℕ) where
    pub add_no_room : (room : ℕ) → room ≢ lent_plan → add_card_refusal ps t c room ≡ 1
    unfolding add_card_refusal
    add_no_room room d = rw (ne_eqb room lent_plan d) refl

    pub add_in_room : (room : ℕ) → room ≡ lent_plan → add_card_refusal ps t c room ≡ add_refusal x n m c
    unfolding add_card_refusal
    add_in_room room e = rw (eq-eqb room lent_plan e) refl

    pub fits_of_0 : add_refusal x n m c ≡ 0 → ReadWith ps t × (c < n) × (Full n m → ⊥)
    fits_of_0 h = let f = clear_fits x n m c h in (total_clear ps t f.0, f.1, f.2)

    pub outside_of_14 : add_refusal x n m c ≡ 14 → ReadWith ps t × (n ≤ c)
    outside_of_14 h =
        by_fitting x n m c
        (λ d. absurd (omega (arith, h, refused_before x n m c d, total_refusal_most ps t)))
        (λ e l. (total_clear ps t e, l))
        (λ e l f. absurd (omega (arith, h, full_refused x n m c e l f)))
        (λ e l f. absurd (omega (arith, h, card_fits x n m c e l f)))

    pub full_of_16 : add_refusal x n m c ≡ 16 → ReadWith ps t × (c < n) × Full n m
    full_of_16 h =
        by_fitting x n m c
        (λ d. absurd (omega (arith, h, refused_before x n m c d, total_refusal_most ps t)))
        (λ e l. absurd (omega (arith, h, card_outside x n m c e l)))
        (λ e l f. (total_clear ps t e, l, f))
        (λ e l f. absurd (omega (arith, h, card_fits x n m c e l f)))

    pub add_clear : (room : ℕ) → add_card_refusal ps t c room ≡ 0 → (room ≡ lent_plan) × ReadWith ps t × (c < n) × (Full n m → ⊥)
    add_clear room h =
        by_eq room lent_plan
        (λ e. let f = fits_of_0 (sym (add_in_room room e) ∙ h) in (e, f.0, f.1, f.2))
        (λ d. absurd (omega (arith, h, add_no_room room d)))

  -- TAKING OFF
  pub take_off_no_room : (room : ℕ) → room ≢ lent_plan → take_off_refusal ps t room ≡ 1
  unfolding take_off_refusal
  take_off_no_room room d = rw (ne_eqb room lent_plan d) refl

  pub take_off_in_room : (room : ℕ) → room ≡ lent_plan → take_off_refusal ps t room ≡ off_refusal x hangs
  unfolding take_off_refusal
  take_off_in_room room e = rw (eq-eqb room lent_plan e) refl

  pub hanging_of_0 : off_refusal x hangs ≡ 0 → ReadWith ps t × (hangs ≡ true)
  hanging_of_0 h = let f = clear_hanging x hangs h in (total_clear ps t f.0, f.1)

  pub not_hanging_of_17 : off_refusal x hangs ≡ 17 → ReadWith ps t × (hangs ≡ false)
  not_hanging_of_17 h =
      by_hanging x hangs
      (λ d. absurd (omega (arith, h, off_refused_before x hangs d, total_refusal_most ps t)))
      (λ e b. absurd (omega (arith, h, hanging_clear x hangs e b)))
      (λ e b. (total_clear ps t e, b))

  pub take_off_clear : (room : ℕ) → take_off_refusal ps t room ≡ 0 → (room ≡ lent_plan) × ReadWith ps t × (hangs ≡ true)
  take_off_clear room h =
      by_eq room lent_plan
      (λ e. let f = hanging_of_0 (sym (take_off_in_room room e) ∙ h) in (e, f.0, f.1))
      (λ d. absurd (omega (arith, h, take_off_no_room room d)))
