-- A card's side by two comparisons of hops. Assumes nothing.
use Rattle.planner.proofs.AddedColumn.{side_in_is}
use Rattle.planner.proofs.columns.side.Goals as goal

pub returns : goal.returns
returns c =
    rw (c.between.ensures.is, c.between-2.ensures.is, c.between-3.ensures.is, c.between-4.ensures.is)
    (side_in_is c.args.file.hops.now c.args.p c.args.q c.args.c)
