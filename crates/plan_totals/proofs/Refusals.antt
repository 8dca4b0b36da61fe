-- A plan with a sum: the number that refuses the plan, 13 for another sum, or none. Assumes nothing.
use mathlib.Core.Path.{◌≡◌, refl, sym, ◌∙◌}
use mathlib.Core.Logic.{◌≢◌}
use mathlib.Core.List.{List}
use Prim.Native.Nat.{ℕ, ◌≤◌}
use native.Mathlib.Omega.{arith}
use borrow.Author.Tests.{eq-eqb, ne_eqb}
use Rattle.rack.specs.PlanFile.{plan_wiring}
use Rattle.rack.proofs.Logic.{by_eq}
use Rattle.reader.specs.Plan.{plan_refusal}
use Rattle.reader.proofs.Plan.{plan_refusal_most}
use Rattle.totals.specs.Totals.{total_hops}
use Rattle.plan_totals.specs.Summed.{total_refusal}

module _ (ps : List ℕ) (t : ℕ) where
  pub total_refused_before : plan_refusal ps ≢ 0 → total_refusal ps t ≡ plan_refusal ps
  unfolding total_refusal
  total_refused_before n = rw (ne_eqb (plan_refusal ps) 0 n) refl

  pub other_total : plan_refusal ps ≡ 0 → t ≢ total_hops (plan_wiring ps) → total_refusal ps t ≡ 13
  unfolding total_refusal
  other_total e n = rw (eq-eqb (plan_refusal ps) 0 e, ne_eqb t (total_hops (plan_wiring ps)) n) refl

  pub clear_total : plan_refusal ps ≡ 0 → t ≡ total_hops (plan_wiring ps) → total_refusal ps t ≡ 0
  unfolding total_refusal
  clear_total e f = rw (eq-eqb (plan_refusal ps) 0 e, eq-eqb t (total_hops (plan_wiring ps)) f) refl

  by_refusal : {A : Type 0} → (plan_refusal ps ≢ 0 → A) → (plan_refusal ps ≡ 0 → t ≢ total_hops (plan_wiring ps) → A)
      → (plan_refusal ps ≡ 0 → t ≡ total_hops (plan_wiring ps) → A) → A
  by_refusal before other clear = by_eq (plan_refusal ps) 0 (λ e. by_eq t (total_hops (plan_wiring ps)) (clear e) (other e)) before

  pub total_clear : total_refusal ps t ≡ 0 → (plan_refusal ps ≡ 0) × (t ≡ total_hops (plan_wiring ps))
  total_clear z =
      by_refusal (λ n. absurd (n (sym (total_refused_before n) ∙ z))) (λ e n. absurd (omega (arith, z, other_total e n))) (λ e f. (e, f))

  pub total_refusal_most : total_refusal ps t ≤ 13
  total_refusal_most =
      by_refusal (λ n. omega (arith, total_refused_before n, plan_refusal_most ps)) (λ e n. omega (arith, other_total e n)) (λ e f. omega (arith, clear_total e f))
