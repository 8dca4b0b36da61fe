-- What is promised of the tests of a plan by itself. Proved in proofs/Promises.antt under its name.
use Rattle.std.specs.Prelude.{◌≡◌, true, ◌&&◌, List, ℕ, ltb, eqb}
use Rattle.rack.specs.Lists.{all, same}
use Rattle.rack.specs.Refusals.{wiring_refusal}
use Rattle.rack.specs.PlanFile.{Sized, plan_wiring}
use Rattle.planner.specs.PlanBytes.{plan_bytes}
use Rattle.plan_tests.specs.Tests.{tests_hold}

-- of bytes with a layout: the wiring inside is accepted and they are the bytes that the planner writes for it, exactly if they pass the
-- tests, which plan nothing; the two are equal as tests
unfoldable pub TestsExactly : Type 0
TestsExactly =
    (ps : List ℕ) (n m k : ℕ) → all (λ b. ltb b 256) ps ≡ true → Sized ps n m k →
    (eqb (wiring_refusal (plan_wiring ps)).number 0 && same eqb (plan_bytes (plan_wiring ps)) ps) ≡ tests_hold ps
