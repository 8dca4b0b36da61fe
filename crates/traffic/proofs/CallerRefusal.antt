-- What refuses a caller's number: the plan's sizes, then the number itself. Assumes nothing.
use mathlib.Core.Path.{◌≡◌, refl, sym, ◌∙◌}
use mathlib.Core.Logic.{◌≢◌}
use mathlib.Core.List.{List}
use Prim.Native.Nat.{ℕ, ◌≤◌, ◌<◌}
use native.Mathlib.Omega.{arith}
use lib.Dec.{leb, eqb}
use borrow.Author.Tests.{eq-eqb, ne_eqb, le-leb, lt-leb}
use Rattle.rack.specs.Limits.{most_callers}
use Rattle.rack.proofs.Logic.{by_eq, by_lt}
use Rattle.rack.proofs.Refusals.{cond_within}
use Rattle.reader.specs.Reading.{layout_refusal}
use Rattle.reader.proofs.Reading.{layout_refusal_within}
use Rattle.traffic.specs.Traffic.{caller_refusal}

module _ (ps : List ℕ) (u : ℕ) where
  pub no_plan : layout_refusal ps ≢ 0 → caller_refusal ps u ≡ layout_refusal ps
  unfolding caller_refusal
  no_plan n = rw (ne_eqb (layout_refusal ps) 0 n) refl

  pub no_caller : layout_refusal ps ≡ 0 → most_callers ≤ u → caller_refusal ps u ≡ 18
  unfolding caller_refusal
  no_caller e h = rw (eq-eqb (layout_refusal ps) 0 e, le-leb most_callers u h) refl

  pub caller_passes : layout_refusal ps ≡ 0 → u < most_callers → caller_refusal ps u ≡ 0
  unfolding caller_refusal
  caller_passes e h = rw (eq-eqb (layout_refusal ps) 0 e, lt-leb most_callers u h) refl

  pub answered_layout : caller_refusal ps u ≡ 0 → layout_refusal ps ≡ 0
  answered_layout e = by_eq (layout_refusal ps) 0 (λ l. l) (λ n. absurd (n (sym (no_plan n) ∙ e)))

  pub answered_caller : caller_refusal ps u ≡ 0 → u < most_callers
  answered_caller e = by_lt u most_callers (λ h. h) (λ h. absurd (omega (arith, no_caller (answered_layout e) h)))

pub caller_refusal_within : (ps : List ℕ) (u : ℕ) → caller_refusal ps u ≤ 18
unfolding caller_refusal
caller_refusal_within ps u =
    cond_within (eqb (layout_refusal ps) 0) _ _ 18 (cond_within (leb most_callers u) 18 0 18 (omega arith) (omega arith))
    (omega (arith, layout_refusal_within ps))
