-- The tests of a plan by itself, each of which is needed: plans, the test that fails first, and what reading and steps say of them.
-- Assumes nothing: these are definitions.
use Rattle.std.specs.Prelude.{Bool, ◌&&◌, not, cond, List, [], ◌∷◌, ◌++◌, ℕ, eqb, set}
use Prim.Native.String.{String}
use Rattle.rack.specs.Lists.{all}
use Rattle.rack.specs.Refusals.{links_refusal}
use Rattle.rack.specs.PlanFile.{plan_columns, plan_wiring, plan_bit}
use Rattle.plan_tests.specs.Tests.{columns_in_order, first_zero, spare_zero, cards_covered}
use Rattle.promises.specs.Claims.{hex, Claim, read_as, stuck, claim_holds}
use Rattle.promises.specs.Cases.{ring_plan, doubled_plan}

-- the first of the tests that fails: 1 links, 2 the order of the columns, 3 card 0, 4 spare bits, 5 cards covered; 0 for none
unfoldable pub first_failing : List ℕ → ℕ
first_failing ps =
    let w = plan_wiring ps in
    let k = plan_columns ps in
    let r = plan_bit ps in
    cond (not (eqb (links_refusal w).number 0)) 1
    (cond (not (columns_in_order k r 0 w.links)) 2
    (cond (not (first_zero k r)) 3
    (cond (not (spare_zero w.cards k r)) 4
    (cond (not (cards_covered w k r)) 5 0))))

-- a row: a plan, the test that fails first, and claims of the plan
pub data TestCase : Type 0 where
  test_case : (name : String) → (plan : List ℕ) → (fails_at : ℕ) → (claims : List Claim) → TestCase

unfoldable pub test_case_holds : TestCase → Bool
test_case_holds (test_case s ps t cs) = eqb (first_failing ps) t && all (claim_holds [] ps) cs

unfoldable pub test_cases : List TestCase
test_cases =
    test_case "P5's plan passes" ring_plan 0 (read_as 0 ∷ [])
    ∷ test_case "P3's plan passes" doubled_plan 0 (read_as 0 ∷ [])
    ∷ test_case "a third link between two cards" (hex "02 00 03 00 01 00" ++ hex "00 00 01 00 00 00 01 00 00 00 01 00" ++ hex "00 01") 1 (read_as 13 ∷ [])
    ∷ test_case "P4's plan with its two columns in the other order" (hex "03 00 02 00 02 00" ++ hex "00 00 01 00 01 00 02 00" ++ hex "00 02 03") 2 (read_as 13 ∷ [])
    ∷ test_case "a link that crosses two columns" (hex "02 00 01 00 02 00" ++ hex "00 00 01 00" ++ hex "00 03") 2 (read_as 13 ∷ [])
    ∷ test_case "a column that no link crosses" (hex "02 00 01 00 02 00" ++ hex "00 00 01 00" ++ hex "00 01") 2 (read_as 13 ∷ [])
    ∷ test_case "card 0 has 1" (hex "02 00 01 00 01 00" ++ hex "00 00 01 00" ++ hex "01 00") 3 (read_as 13 ∷ [])
    ∷ test_case "P5's plan with a spare bit" (set ring_plan 23 5) 4 (read_as 13 ∷ [])
    ∷ test_case "four in line with P5's addresses: linked cards differ in one place, the ends too" (hex "04 00 03 00 02 00" ++ hex "00 00 01 00 02 00 01 00 02 00 03 00" ++ hex "00 01 03 02")
    5 (read_as 13 ∷ stuck 0 3 ∷ [])
    ∷ test_case "two cards and no link" (hex "02 00 00 00 00 00") 5 (read_as 13 ∷ [])
    ∷ []
