-- The words hold the cards from the eight with number u on. Assumes nothing.
use mathlib.Core.Path.{◌≡◌}
use Prim.Native.Nat.{◌-◌, ◌*◌, ◌+◌, min}
use native.Mathlib.Omega.{arith}
use Rattle.rack.specs.PlanFile.{plan_bit}
use Rattle.rack.proofs.PlanFile.{address_size_is}
use Rattle.card_sets.proofs.EightColumns.{plan_fits, card_inside, column_byte, eight_none, eight_room, eight_next, eight_all}
use Rattle.card_sets.proofs.columns.eight_columns.Goals as goal
use Rattle.card_sets.proofs.columns.eight_columns.Goals.{After-min-count}

-- the cards that there are of these eight
eights : (c : After-min-count) → c.min-count.result ≡ min 8 (c.args.plan.cards - (64 * c.args.t + 8 * (c.loop-u.u - 1)))
eights c = omega (arith, c.saturating_sub.ensures, c.min-count.ensures)

pub loop-u-init : goal.loop-u-init
loop-u-init c =
    let a = c.args in
    eight_none a.plan.cards (plan_bit a.plan.bytes.now) a.b a.t a.columns.now c.requires.2

pub eight_cards-word-requires : goal.eight_cards-word-requires
eight_cards-word-requires c =
    let z = c.args.plan in
    let few = eights (goal.at.eight_cards-word-requires c).After-min-count in (
      omega (arith, few),
      plan_fits z.bytes.now z.cards z.links z.columns z.sized,
      card_inside z.bytes.now z.cards z.links z.columns z.sized _ _ _ _ c.args.b few
          c.address_size-size.ensures.is c.address_start-start.ensures.is c.requires.0,
    )

pub put_bytes-requires : goal.put_bytes-requires
put_bytes-requires c =
    let a = c.args in
    let l = c.loop-u in (
      omega (arith, address_size_is a.plan.columns, a.plan.sized.few_columns, c.requires.0, c.requires.1),
      eight_room a.plan.cards (plan_bit a.plan.bytes.now) a.b a.t a.columns.now l.columns l.u (omega arith) l.invariant,
    )

pub loop-u-preserved : goal.loop-u-preserved
loop-u-preserved c =
    let a = c.args in
    let z = a.plan in
    let l = c.loop-u in
    let word = c.eight_cards-word in
    eight_next z.cards (plan_bit z.bytes.now) a.b a.t a.columns.now l.columns l.u (omega arith) l.invariant word.result _ (omega arith)
    (column_byte z.bytes.now z.cards z.links z.columns z.sized _ _ _ _ a.b (eights (goal.at.loop-u-preserved c).After-min-count)
    c.address_size-size.ensures.is c.address_start-start.ensures.is word.result word.ensures)
    c.put_bytes.ensures

pub returns : goal.returns
returns c =
    let a = c.args in
    let e : c.loop-u.u ≡ 0 = omega arith in
    eight_all a.plan.cards (plan_bit a.plan.bytes.now) a.b a.t a.columns.now _ (rw e at c.loop-u.invariant)
