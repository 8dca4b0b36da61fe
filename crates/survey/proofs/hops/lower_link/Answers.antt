-- The row of the first end is lowered by that of the second, and then the other way; the larger of what the two took off is the link's. Assumes nothing.
use native.Mathlib.Omega.{arith}
use Rattle.survey.proofs.Passes.{link_passed}
use Rattle.survey.proofs.hops.lower_link.Goals as goal

pub returns : goal.returns
returns c =
    link_passed _ _ _ c.args.file.formed _ _ _ _ _ _ _ _ _ (omega arith) c.requires.1 c.ends-p.ensures.first c.ends-p.ensures.second
    c.lower_row-a.ensures c.lower_row-b.ensures c.max.ensures
