-- The first link whose ends have equal hops from card 0 is refused, and none at the end. Assumes nothing.
use native.Mathlib.Omega.{arith}
use mathlib.Core.Path.{ap}
use borrow.Author.Count.{below_more}
use Rattle.rack.specs.WiringFile.{file_wiring}
use Rattle.rack.specs.Refusals.{Refusal}
use Rattle.survey.proofs.Forms.{formed_count}
use Rattle.survey.proofs.Levels.{Uneven, uneven_none, unequal_uneven, equal_refusal}
use Rattle.survey.proofs.hops.parity_refusal.Goals as goal

pub returns-then-between : goal.returns-then-between
returns-then-between c =
    let e = c.ends-p.ensures in
    let f = c.args.file.formed.formed in
    equal_refusal _ _ _ _ _ _ _ _ f (omega arith) e.first e.second (c.between.ensures.hops f.sizes.some e.cards.0) (c.between-in-loop-i.ensures.hops f.sizes.some e.cards.1)
    c.if-between.true c.loop-i.invariant

pub loop-i-preserved : goal.loop-i-preserved
loop-i-preserved c =
    let e = c.ends-p.ensures in
    let f = c.args.file.formed.formed in
    below_more (Uneven (file_wiring c.args.file.formed.sized.bytes.now)) c.loop-i.i c.loop-i.invariant
    (unequal_uneven _ _ _ _ _ _ _ _ f (omega arith) e.first e.second (c.between.ensures.hops f.sizes.some e.cards.0) (c.between-in-loop-i.ensures.hops f.sizes.some e.cards.1)
    c.if-between.false)

pub returns : goal.returns
returns c =
    ap (λ (f : Refusal). f.number) (uneven_none _ (λ j l. c.loop-i.invariant j (omega (arith, formed_count _ _ _ c.args.file.formed.formed))))
