-- The search gives the first byte that differs, and where there is none the end. Assumes nothing.
use mathlib.Core.Path.{◌≡◌, ◌∙◌}
use mathlib.Core.Bool.{true, false}
use native.Mathlib.Omega.{arith}
use Rattle.std.proofs.Common.{rules, tests}
use Rattle.std.proofs.lemmas.Iterator.{first_from_Range}
use Rattle.rack.proofs.Searches.{found_lowest}
use Rattle.counting.proofs.Searching.{bytes_differ, bytes_found}
use Rattle.counting.proofs.places.equal_bytes.Goals as goal

pub returns : goal.returns
returns c =
    let a = c.args in
    let tested = bytes_differ a.x.now a.y.now in
    c.unwrap_or.ensures
    ∙ bytes_found a.x.now a.y.now a.count c.find.result
    (found_lowest 0 a.count tested _ (omega arith) (λ j h. absurd (omega arith))
    (first_from_Range _ _ _ c.find.result (λ j. tested j ≡ true) (λ j. tested j ≡ false) c.find.ensures.ran
    (λ x q k. search (rules, tests)) (λ x q k. search (rules, tests))))
