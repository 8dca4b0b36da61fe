-- The first v words are written. Assumes nothing.
use mathlib.Core.Path.{◌≡◌}
use Prim.Native.Nat.{◌*◌}
use native.Mathlib.Omega.{arith}
use Rattle.rack.specs.PlanFile.{plan_bit}
use Rattle.card_sets.proofs.EightColumns.{columns_none, next_zero, columns_more, columns_all}
use Rattle.card_sets.proofs.columns.column_sets.Goals as goal

pub loop-v-init : goal.loop-v-init
loop-v-init c = let z = c.args.plan in columns_none z.cards (plan_bit z.bytes.now)

pub eight_columns-requires : goal.eight_columns-requires
eight_columns-requires c =
    let z = c.args.plan in
    let l = c.loop-v in (
      omega (arith, c.address_size-v-end.ensures.is),
      omega arith,
      next_zero z.cards (plan_bit z.bytes.now) l.columns l.v l.invariant,
    )

pub loop-v-preserved : goal.loop-v-preserved
loop-v-preserved c =
    let z = c.args.plan in
    let l = c.loop-v in
    columns_more z.cards (plan_bit z.bytes.now) l.columns l.v l.invariant _ c.eight_columns.ensures

pub returns : goal.returns
returns c =
    let z = c.args.plan in
    let size = c.address_size-v-end in
    let e : c.loop-v.v ≡ 4 * size.result = omega arith in
    columns_all z.cards (plan_bit z.bytes.now) _ z.columns size.result size.ensures.is (rw e at c.loop-v.invariant)
