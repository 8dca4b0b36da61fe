-- The row is filled, and then its place on the diagonal is made 0. Assumes nothing.
use native.Mathlib.Omega.{arith}
use Rattle.survey.proofs.FirstBounds.{started_row}
use Rattle.survey.proofs.hops.start_row.Goals as goal

pub returns : goal.returns
returns c =
    let z = c.args in
    started_row z.file.cards z.a z.bounds.now z.file.sizes.few c.requires.0 c.requires.1 _ _ (omega arith) (c.fill.ensures.after (λ y e. e))
