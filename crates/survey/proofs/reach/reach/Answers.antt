-- A pass adds a flag, of which there are at most 256, or ends the loop: flags that no link moves are those of all cards that can be reached. Assumes nothing.
use native.Mathlib.Omega.{arith}
use Rattle.survey.proofs.Forms.{cards_are}
use Rattle.survey.proofs.Flags.{first_flag, few_flags, spread_reached}
use Rattle.survey.proofs.reach.reach.Goals as goal

pub spread_order-requires : goal.spread_order-requires
spread_order-requires c =
    let sizes = c.args.file.formed.formed.sizes in
    first_flag _ _ (rw c.told-flags at (c.fill.ensures.after (λ y e. e))) (omega (arith, cards_are _ _ _ sizes, sizes.some))

pub returns-then-spread_pass-eq0 : goal.returns-then-spread_pass-eq0
returns-then-spread_pass-eq0 c = spread_reached _ _ _ _ _ _ c.args.file.formed.formed.sizes c.if-spread_pass-eq0.true c.spread_pass.ensures

pub loop-smaller : goal.loop-smaller
loop-smaller c = omega (arith, few_flags c.spread_pass.new.flags)
