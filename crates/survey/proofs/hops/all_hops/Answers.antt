-- The first bounds are above the hops of a connected rack, and `settle` lowers them to hops. Assumes nothing.
use Rattle.survey.proofs.FirstBounds.{formed_above}
use Rattle.survey.proofs.hops.all_hops.Goals as goal

pub settle-requires : goal.settle-requires
settle-requires c = formed_above _ _ _ _ c.args.file.formed.formed c.requires c.start_bounds.ensures
