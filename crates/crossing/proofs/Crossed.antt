-- A step crosses a column exactly if it is over a link, and a walk exactly if it has hops. Assumes nothing.
use mathlib.Core.Path.{◌≡◌, refl, sym, ap, ◌∙◌}
use mathlib.Core.Logic.{◌⊎◌, inl, inr, ⊎_elim, ◌≢◌}
use mathlib.Core.List.{List, [], ◌∷◌}
use Prim.Native.Nat.{ℕ, ◌≤◌, ◌<◌}
use native.Mathlib.Omega.{arith}
use borrow.Author.Tests.{eq-eqb, ne_eqb}
use Rattle.rack.proofs.Logic.{by_eq, by_lt}
use Rattle.rack.proofs.Hamming.{hamming_ext}
use Rattle.rack.specs.PlanFile.{plan_columns, plan_bit, plan_hamming}
use Rattle.forwarder.specs.Forwarding.{step, Walk, walk}
use Rattle.forwarder.specs.Calls.{walk_hops}
use Rattle.forwarder.specs.Promises.{StepsAlong}
use Rattle.forwarder.proofs.Stepping.{step_less}
use Rattle.forwarder.proofs.Walking.{walk_all_runs}
use Rattle.crossing.specs.Differing.{plan_differing}
use Rattle.crossing.specs.Crossing.{step_column, walk_column}
use Rattle.crossing.specs.Promises.{StepCrosses, WalkCrosses}
use Rattle.crossing.proofs.Differing.{agree_below}

module _ (ps : List ℕ) (a b : ℕ) where
  -- A STEP
  pub column_over : (step ps a b).outcome ≡ 2 → step_column ps a b ≡ plan_differing ps a (step ps a b).far
  unfolding step_column
  column_over e = rw (eq-eqb (step ps a b).outcome 2 e) refl

  pub column_none : (step ps a b).outcome ≢ 2 → step_column ps a b ≡ plan_columns ps
  unfolding step_column
  column_none n = rw (ne_eqb (step ps a b).outcome 2 n) refl

  -- equal addresses differ from the goal's in as many places, and a step over a link lessens them
  same_places : (c : ℕ) → plan_columns ps ≤ plan_differing ps a c → plan_hamming ps c b ≡ plan_hamming ps a b
  unfolding plan_hamming plan_differing
  same_places c l =
      hamming_ext (plan_columns ps) (plan_bit ps c) (plan_bit ps b) (plan_bit ps a) (plan_bit ps b)
      (λ j h. sym (agree_below (plan_columns ps) (plan_bit ps a) (plan_bit ps c) j (omega arith))) (λ j h. refl)

  pub over_crosses : (step ps a b).outcome ≡ 2 → step_column ps a b < plan_columns ps
  over_crosses e =
      rw (column_over e) (by_lt (plan_differing ps a (step ps a b).far) (plan_columns ps) (λ l. l)
      (λ l. absurd (omega (arith, step_less ps a b e, same_places (step ps a b).far l))))

  pub crosses_over : step_column ps a b < plan_columns ps → (step ps a b).outcome ≡ 2
  crosses_over h = by_eq (step ps a b).outcome 2 (λ e. e) (λ n. absurd (omega (arith, column_none n)))

  -- A WALK whose first step is over a link, and one that ends where it begins
  pub record GoesOn (v : Walk) : Type 0 where
    pub over : (step ps a b).outcome ≡ 2
    pub behind : List ℕ
    pub met : v.met ≡ a ∷ (step ps a b).far ∷ behind
    pub later : List ℕ
    pub taken : v.taken ≡ (step ps a b).link ∷ later

  record Stays (v : Walk) : Type 0 where
    pub ended : (step ps a b).outcome ≢ 2
    pub met : v.met ≡ a ∷ []

  first_step : (v : Walk) (cs is : List ℕ) → v.met ≡ a ∷ cs → v.taken ≡ is → StepsAlong ps b (a ∷ cs) is → GoesOn v ⊎ Stays v
  first_step v [] [] met taken along = inr (record { ended = along; met = met })
  first_step v [] (i ∷ is) met taken along = absurd along
  first_step v (c ∷ cs) [] met taken along = absurd along
  first_step v (c ∷ cs) (i ∷ is) met taken along =
      inl (record {
        over = along.0;
        behind = cs;
        met = met ∙ ap (λ (d : ℕ). a ∷ d ∷ cs) (sym along.2);
        later = is;
        taken = taken ∙ ap (λ (j : ℕ). j ∷ is) (sym along.1);
      })

  goes_on_or_stays : GoesOn (walk ps a b) ⊎ Stays (walk ps a b)
  goes_on_or_stays = let r = walk_all_runs ps a b in first_step (walk ps a b) r.0 (walk ps a b).taken r.1 refl r.2

  goes_on_hops : GoesOn (walk ps a b) → 1 ≤ walk_hops (walk ps a b)
  unfolding walk_hops
  goes_on_hops g = rw g.met (omega arith)

  stays_hops : Stays (walk ps a b) → walk_hops (walk ps a b) ≡ 0
  unfolding walk_hops
  stays_hops s = rw s.met (omega arith)

  pub walk_first : walk_column ps a b ≡ step_column ps a b
  unfolding walk_column
  walk_first =
      ⊎_elim
      (λ (g : GoesOn (walk ps a b)).
      rw (ne_eqb (walk_hops (walk ps a b)) 0 (λ e. omega (arith, goes_on_hops g)), g.met) (sym (column_over g.over)))
      (λ (s : Stays (walk ps a b)). rw (eq-eqb (walk_hops (walk ps a b)) 0 (stays_hops s)) (sym (column_none s.ended)))
      goes_on_or_stays

  pub over_hops : (step ps a b).outcome ≡ 2 → 1 ≤ walk_hops (walk ps a b)
  over_hops e = ⊎_elim goes_on_hops (λ (s : Stays (walk ps a b)). absurd (s.ended e)) goes_on_or_stays

  pub hops_go_on : 1 ≤ walk_hops (walk ps a b) → GoesOn (walk ps a b)
  hops_go_on h = ⊎_elim (λ (g : GoesOn (walk ps a b)). g) (λ (s : Stays (walk ps a b)). absurd (omega (arith, stays_hops s))) goes_on_or_stays

  pub no_hops : walk_hops (walk ps a b) ≡ 0 → plan_columns ps ≤ walk_column ps a b
  no_hops e = omega (arith, walk_first, column_none (λ o. omega (arith, over_hops o)))

pub step_crosses : StepCrosses
unfolding StepCrosses
step_crosses ps a b = (crosses_over ps a b, over_crosses ps a b)

pub walk_crosses : WalkCrosses
unfolding WalkCrosses
walk_crosses ps a b =
    let e = walk_first ps a b in (
      ((λ h. over_hops ps a b (crosses_over ps a b (omega (arith, e)))), (λ h. omega (arith, e, over_crosses ps a b (hops_go_on ps a b h).over))),
      e,
    )
