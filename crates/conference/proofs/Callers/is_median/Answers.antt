-- The three counts are hops, so their sums are the three tests. Assumes nothing.
use Rattle.std.proofs.Common.{refl, ◌∙◌, ne_eqb, arith}
use Rattle.conference.proofs.Searching.{not_first_second, not_first_third, if_second_third}
use Rattle.conference.proofs.Callers.is_median.Goals as goal

pub returns-then-from_a-to_b : goal.returns-then-from_a-to_b
returns-then-from_a-to_b c =
    let s = c.args.self in
    not_first_second _ s.counted.plan.sized s.hops c.args.x c.requires _ _ _ c.hamming-from_a.ensures c.hamming-to_b.ensures refl
    (λ e. omega arith)

pub returns-then-from_a-to_c : goal.returns-then-from_a-to_c
returns-then-from_a-to_c c =
    let s = c.args.self in
    if_second_third _ s.counted.plan.sized s.hops c.args.x c.requires _ _ _ c.hamming-from_a.ensures c.hamming-to_b.ensures
    c.hamming-to_c.ensures (omega arith) (omega arith)

pub returns-else-from_a-to_c : goal.returns-else-from_a-to_c
returns-else-from_a-to_c c =
    let s = c.args.self in
    ne_eqb _ _ (λ e. omega arith)
    ∙ not_first_third _ s.counted.plan.sized s.hops c.args.x c.requires _ _ _ c.hamming-from_a.ensures c.hamming-to_b.ensures
    c.hamming-to_c.ensures (λ e. omega arith)
