-- The first card found is the lowest median. Assumes nothing.
use Rattle.std.proofs.Common.{◌≡◌, ℕ, Bool, true, false, rules, tests}
use Rattle.std.proofs.lemmas.Iterator.{first_from_Range}
use Rattle.rack.specs.PlanFile.{plan_wiring}
use Rattle.conference.specs.Conference.{median}
use Rattle.conference.proofs.Searching.{lowest_found}
use Rattle.conference.proofs.Callers.lowest_median.Goals as goal

pub returns : goal.returns
returns c =
    let s = c.args.self in
    let tested : ℕ → Bool = median (plan_wiring s.counted.plan.bytes.now) s.a s.b s.c in
    lowest_found _ s.counted.plan.sized s.a s.b s.c c.find.result
    (first_from_Range _ _ _ c.find.result (λ i. tested i ≡ true) (λ i. tested i ≡ false) c.find.ensures.ran
    (λ x q k. search (rules, tests)) (λ x q k. search (rules, tests)))
