-- The promise of specs/Promises.antt, proved. Assumes nothing.
use mathlib.Core.Path.{◌≡◌, refl}
use mathlib.Core.Bool.{Bool, true, ◌&&◌}
use mathlib.Core.List.{List}
use Prim.Native.Nat.{ℕ}
use lib.Dec.{ltb, eqb}
use borrow.Author.Tests.{eqb-true, eq-eqb}
use Rattle.rack.specs.Lists.{all, same}
use Rattle.rack.specs.Refusals.{wiring_refusal}
use Rattle.rack.specs.PlanFile.{Sized, plan_cards, plan_links, plan_columns, plan_wiring}
use Rattle.rack.proofs.Logic.{and_left, and_right, and_both, equal_if_both}
use Rattle.rack.proofs.Lists.{same_eq, same_self}
use Rattle.planner.specs.PlanBytes.{plan_bytes}
use Rattle.plan_tests.specs.Tests.{tests_hold}
use Rattle.tested_plans.specs.Promises.{TestsExactly}
use Rattle.tested_plans.proofs.Tests.{tests_facts, facts_tests}
use Rattle.tested_plans.proofs.Passing.{passing_accepted, passing_plan}
use Rattle.tested_plans.proofs.Planned.{planned_passes}

-- sizes that were read are the plan's own
plan_sized : (ps : List ℕ) (n m k : ℕ) → Sized ps n m k → Sized ps (plan_cards ps) (plan_links ps) (plan_columns ps)
plan_sized ps n m k z = rw (← z.cards, ← z.links, ← z.columns) z

module _ (ps : List ℕ) (bytes : all (λ b. ltb b 256) ps ≡ true) (z : Sized ps (plan_cards ps) (plan_links ps) (plan_columns ps)) where
  abbrev accepted : Bool
  accepted = eqb (wiring_refusal (plan_wiring ps)).number 0

  abbrev planned : Bool
  planned = same eqb (plan_bytes (plan_wiring ps)) ps

  planned_holds : (accepted && planned) ≡ true → tests_hold ps ≡ true
  planned_holds h =
      facts_tests ps (planned_passes ps z (eqb-true (wiring_refusal (plan_wiring ps)).number 0 (and_left accepted planned h))
      (same_eq eqb eqb-true (plan_bytes (plan_wiring ps)) ps (and_right accepted planned h)))

  holds_planned : tests_hold ps ≡ true → (accepted && planned) ≡ true
  holds_planned h =
      let d = tests_facts ps h in
      and_both accepted planned (eq-eqb (wiring_refusal (plan_wiring ps)).number 0 (passing_accepted ps bytes z d))
      (rw (passing_plan ps bytes z d) (same_self eqb (λ x. eq-eqb x x refl) ps))

pub tests_exactly : TestsExactly
unfolding TestsExactly
tests_exactly ps n m k bytes sized =
    let z = plan_sized ps n m k sized in
    equal_if_both (accepted ps bytes z && planned ps bytes z) (tests_hold ps) (planned_holds ps bytes z) (holds_planned ps bytes z)
