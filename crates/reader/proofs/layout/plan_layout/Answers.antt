-- Each early return leaves a fact of the layout that fails, and at the end all hold: the answer is 12 or the sizes read. Assumes nothing.
use mathlib.Core.Path.{refl}
use native.Mathlib.Omega.{arith}
use Rattle.std.proofs.Common.{rules}
use Rattle.reader.proofs.Plan.{layout_head, layout_read}
use Rattle.reader.proofs.Reading.{layout_refused, layout_passed}
use Rattle.reader.proofs.layout.plan_layout.Goals as goal

pub returns-then-plan-lt6-clause-says : goal.returns-then-plan-lt6-clause-says
returns-then-plan-lt6-clause-says c = layout_refused _ _ (λ z. omega (arith, layout_head _ z)) refl

pub returns-then-n-eq0-clause-says : goal.returns-then-n-eq0-clause-says
returns-then-n-eq0-clause-says c = layout_refused _ _ (λ z. omega (arith, z, c.then-n-eq0.either)) refl

pub returns-then-plan-address_start-clause-says : goal.returns-then-plan-address_start-clause-says
returns-then-plan-address_start-clause-says c =
    layout_refused _ _ (λ z.
    let read = layout_read c.args.plan.now _ _ _ c.number_at-n.ensures.is c.number_at-m.ensures.is c.number_at-k.ensures.is z in
    let start = rw c.address_size.ensures.is at c.address_start.ensures.is in
    omega (arith, read.long, start)) refl

pub returns-clause-says : goal.returns-clause-says
returns-clause-says c = layout_passed _ _ (search rules) refl
