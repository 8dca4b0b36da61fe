-- The loop's invariant: the ones counted are those of the first c cards. Assumes nothing.
use mir.Val.{bool_byte}
use Rattle.std.proofs.Common.{◌≡◌, refl, sym, ap, ◌+◌, arith, Bool, true, false}
use Rattle.rack.specs.Lists.{one}
use Rattle.rack.specs.PlanFile.{plan_bit}
use Rattle.totals.specs.Totals.{ones_of}
use Rattle.plan_totals.proofs.Summing.{ones_none, ones_last, ones_few}
use Rattle.plan_totals.proofs.column_ones.Goals as goal
use Rattle.plan_totals.proofs.column_ones.Goals.{After-from-ones}

-- a bit as a number
bit_one : (b : Bool) → bool_byte b ≡ one b
bit_one true = refl
bit_one false = refl

-- one card more
added : (c : After-from-ones) → c.loop-c.ones + c.from-ones.result ≡ ones_of (plan_bit c.args.plan.bytes.now) (c.loop-c.c + 1) c.args.j
added c =
    omega (
      arith,
      c.from-ones.ensures,
      bit_one c.bit.result,
      ap (λ (b : Bool). one b) c.bit.ensures,
      c.loop-c.invariant,
      ones_last (plan_bit c.args.plan.bytes.now) c.args.j c.loop-c.c,
    )

pub loop-c-init : goal.loop-c-init
loop-c-init c = let a = c.args in sym (ones_none (plan_bit a.plan.bytes.now) a.j)

pub overflow_add-ones : goal.overflow_add-ones
overflow_add-ones c = omega (arith, added c, ones_few (plan_bit c.args.plan.bytes.now) c.args.j (c.loop-c.c + 1) _ (added c), c.args.plan.sized.few)

pub loop-c-preserved : goal.loop-c-preserved
loop-c-preserved c = added c
