-- A card that gets a flag is linked to a flagged one, so it can be reached. Assumes nothing.
use native.Mathlib.Omega.{arith}
use Rattle.survey.proofs.Flags.{link_first, link_second}
use Rattle.survey.proofs.reach.spread_link.Goals as goal

pub returns-then-flags-p-eq0 : goal.returns-then-flags-p-eq0
returns-then-flags-p-eq0 c =
    link_first _ _ _ c.args.file.formed _ _ _ _ (omega arith) c.requires.1 c.ends-p.ensures.first c.ends-p.ensures.second
    c.if-flags-p.false c.if-flags-p-eq0.true

pub returns-else-flags-p-eq0 : goal.returns-else-flags-p-eq0
returns-else-flags-p-eq0 c =
    link_second _ _ _ c.args.file.formed _ _ _ _ (omega arith) c.requires.1 c.ends-p.ensures.first c.ends-p.ensures.second
    c.if-flags-p.false c.if-flags-p-eq0.false
