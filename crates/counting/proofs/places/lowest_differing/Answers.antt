-- The bits of the equal bytes agree, and the search goes on from there. Assumes nothing.
use native.Mathlib.Omega.{arith}
use mathlib.Core.Path.{◌≡◌}
use mathlib.Core.Bool.{true, false}
use Prim.Native.Nat.{◌*◌, ◌/◌, ◌≤◌}
use Rattle.std.proofs.Common.{rules, tests}
use Rattle.std.proofs.lemmas.Iterator.{first_from_Range, serves_from_Range}
use Rattle.rack.proofs.PlanFile.{address_size_is}
use Rattle.rack.proofs.Searches.{found_lowest}
use Rattle.counting.proofs.Searching.{bits_apart, bytes_within, bytes_agree}
use Rattle.counting.proofs.places.lowest_differing.Goals as goal
use Rattle.counting.proofs.places.lowest_differing.Goals.{After-equal_bytes}

-- the equal bytes are whole ones
equal_within : (c : After-equal_bytes) → c.equal_bytes.result ≤ c.args.k / 8
equal_within c = let a = c.args in bytes_within a.x.now a.y.now (a.k / 8) _ c.equal_bytes.ensures

pub equal_bytes-requires : goal.equal_bytes-requires
equal_bytes-requires c = (omega (arith, address_size_is c.args.k), omega (arith, address_size_is c.args.k))

pub overflow_mul-equal_bytes : goal.overflow_mul-equal_bytes
overflow_mul-equal_bytes c = omega (arith, equal_within c)

pub find-requires-clause-callable : goal.find-requires-clause-callable
find-requires-clause-callable c =
    let few = address_size_is c.args.k in
    serves_from_Range (λ x q k. search (rules, tests)) (λ x l h. search (rules, tests, few))

pub returns : goal.returns
returns c =
    let a = c.args in
    let tested = bits_apart a.x.now a.y.now in
    found_lowest (8 * c.equal_bytes.result) a.k tested _ (omega (arith, equal_within (goal.at.returns c).After-equal_bytes)) (bytes_agree a.x.now a.y.now (a.k / 8) _ c.equal_bytes.ensures)
    (first_from_Range _ _ _ c.find.result (λ j. tested j ≡ true) (λ j. tested j ≡ false) c.find.ensures.ran
    (λ x q k. search (rules, tests)) (λ x q k. search (rules, tests)))
