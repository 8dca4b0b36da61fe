-- Stage after stage. Assumes nothing.
use mathlib.Core.Path.{◌∙◌}
use Rattle.plan_cover.proofs.JoinedLinks.{covered_exactly}
use Rattle.plan_cover.proofs.cover.cards_covered.Goals as goal

pub returns : goal.returns
returns c =
    let z = c.args.crossed.linked.plan in
    c.words_full.ensures ∙ covered_exactly z.bytes.now z.cards z.links z.columns z.sized _ c.cover_sets.ensures
