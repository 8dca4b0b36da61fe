-- What refuses a frame: the sizes of its plan and its two cards. Assumes nothing.
use mathlib.Core.Path.{◌≡◌, refl, sym, ◌∙◌}
use mathlib.Core.Logic.{◌⊎◌, inl, inr, ◌≢◌}
use mathlib.Core.List.{List}
use Prim.Native.Nat.{ℕ, ◌≤◌, ◌<◌}
use native.Mathlib.Omega.{arith}
use lib.Dec.{leb}
use borrow.Author.Tests.{eq-eqb, ne_eqb, le-leb, lt-leb}
use Rattle.rack.proofs.Logic.{by_eq, by_lt, or_right}
use Rattle.rack.specs.PlanFile.{plan_cards}
use Rattle.reader.specs.Reading.{Sizes, layout_refusal, LayoutSays}
use Rattle.reader.proofs.Reading.{says_laid_out}
use Rattle.forwarder.specs.Calls.{step_refusal}
use Rattle.forwarder.specs.Parts.{FrameSizes}

module _ (ps : List ℕ) (a b : ℕ) where
  -- 12 AND 14
  no_plan : layout_refusal ps ≢ 0 → step_refusal ps a b ≡ layout_refusal ps
  unfolding step_refusal
  no_plan n = rw (ne_eqb (layout_refusal ps) 0 n) refl

  no_card : layout_refusal ps ≡ 0 → (plan_cards ps ≤ a) ⊎ (plan_cards ps ≤ b) → step_refusal ps a b ≡ 14
  unfolding step_refusal
  no_card e (inl h) = rw (eq-eqb (layout_refusal ps) 0 e, le-leb (plan_cards ps) a h) refl
  no_card e (inr h) = rw (eq-eqb (layout_refusal ps) 0 e, or_right (leb (plan_cards ps) a) (leb (plan_cards ps) b) (le-leb (plan_cards ps) b h)) refl

  pub both_cards : layout_refusal ps ≡ 0 → a < plan_cards ps → b < plan_cards ps → step_refusal ps a b ≡ 0
  unfolding step_refusal
  both_cards e h k = rw (eq-eqb (layout_refusal ps) 0 e, lt-leb (plan_cards ps) a h, lt-leb (plan_cards ps) b k) refl

  pub answered_layout : step_refusal ps a b ≡ 0 → layout_refusal ps ≡ 0
  answered_layout e = by_eq (layout_refusal ps) 0 (λ l. l) (λ n. absurd (n (sym (no_plan n) ∙ e)))

  pub answered_cards : step_refusal ps a b ≡ 0 → (a < plan_cards ps) × (b < plan_cards ps)
  answered_cards e =
      by_eq (layout_refusal ps) 0
      (λ l. (below a (λ h. no_card l (inl h)), below b (λ h. no_card l (inr h))))
      (λ n. absurd (n (sym (no_plan n) ∙ e)))
    where
      below : (c : ℕ) → (plan_cards ps ≤ c → step_refusal ps a b ≡ 14) → c < plan_cards ps
      below c fourteen = by_lt c (plan_cards ps) (λ h. h) (λ h. let f = fourteen h in absurd (omega arith))

  -- THE SIZES for a frame
  module _ (r : Sizes) (s : LayoutSays ps r) where
    pub sizes_no_plan : r.number ≢ 0 → FrameSizes ps a b r
    sizes_no_plan n =
        record {
          number = s.number ∙ sym (no_plan (λ e. n (s.number ∙ e)));
          sizes = λ e. absurd (n e);
          from = λ e. absurd (n e);
          goal = λ e. absurd (n e);
        }

    pub sizes_no_card : (q : Sizes) → r.number ≡ 0 → (r.cards ≤ a) ⊎ (r.cards ≤ b) → q.number ≡ 14 → FrameSizes ps a b q
    sizes_no_card q e h f =
        let z = says_laid_out ps r s e in
        record {
          number = f ∙ sym (no_card (sym s.number ∙ e) (rw z.cards at h));
          sizes = λ g. absurd (omega arith);
          from = λ g. absurd (omega arith);
          goal = λ g. absurd (omega arith);
        }

    pub sizes_both_cards : r.number ≡ 0 → a < r.cards → b < r.cards → FrameSizes ps a b r
    sizes_both_cards e h k =
        let z = says_laid_out ps r s e in
        record {
          number = e ∙ sym (both_cards (sym s.number ∙ e) (rw z.cards at h) (rw z.cards at k));
          sizes = λ g. z;
          from = λ g. h;
          goal = λ g. k;
        }
