-- The far side is joined to the words before t. Assumes nothing.
use mathlib.Core.Path.{◌≡◌}
use native.Mathlib.Omega.{arith}
use Rattle.plan_cover.proofs.JoinedWords.{none_joined, more_joined}
use Rattle.plan_cover.proofs.cover.join_sides.Goals as goal

pub loop-t-init : goal.loop-t-init
loop-t-init c = none_joined _ _ _ _ _ _ _

pub loop-t-preserved : goal.loop-t-preserved
loop-t-preserved c =
    let a = c.args in
    let l = c.loop-t in
    let side = c.far_word-side in
    more_joined a.columns.now a.full.now a.p a.q a.j a.rest a.cover.now l.cover l.t side.result side.ensures.is l.invariant
    c.requires.2 (omega arith) (omega (arith, l.invariant.long, c.told-cover, c.requires)) (omega (arith, l.invariant.long, c.told-cover, c.requires))

pub returns : goal.returns
returns c = let e : c.loop-t.t ≡ 4 = omega arith in rw e at c.loop-t.invariant
