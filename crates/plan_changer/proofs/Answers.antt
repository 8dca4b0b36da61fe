-- The answers of adding a card and of taking one off: a refusal, which leaves the lent bytes, and a plan. Assumes nothing.
use Rattle.std.specs.Prelude.{Ok, Err}
use mathlib.Core.Path.{◌≡◌, refl, sym, ap, ◌∙◌}
use mathlib.Core.Logic.{◌≢◌}
use mathlib.Core.List.{List, ◌++◌}
use Prim.Native.Nat.{ℕ, ◌-◌}
use lib.ListN.{length, replicate}
use borrow.Author.Tests.{eq-eqb, ne_eqb}
use Rattle.rack.specs.Buffers.{Written}
use Rattle.rack.specs.Refused.{refusal_of}
use Rattle.rack.specs.declared.refused.Refused.{Refused}
use Rattle.plan_changer.specs.Changing.{NewPlanIs, new_plan_of}

module _ (refused : ℕ) (plan output : List ℕ) where
  pub plan_refused : (e : Refused) → refused ≡ (refusal_of e).number → (refusal_of e).number ≢ 0 → NewPlanIs refused plan (new_plan_of (Err e)) output output
  plan_refused e f n =
      let t = ne_eqb refused 0 (λ z. n (sym f ∙ z)) in
      record { number = sym f; long = rw t refl; output_left = rw t refl }

  pub plan_left : (size : ℕ) (output_now : List ℕ) → refused ≡ 0 → size ≡ length plan → length output_now ≡ length output → Written output_now plan
      → NewPlanIs refused plan (new_plan_of (Ok size)) output output_now
  plan_left size output_now e long same w =
      let t = eq-eqb refused 0 e in
      record {
        number = sym e;
        long = rw t long;
        output_left = rw t (w.is ∙ ap (λ (i : ℕ). plan ++ replicate (i - length plan) 0) same);
      }
