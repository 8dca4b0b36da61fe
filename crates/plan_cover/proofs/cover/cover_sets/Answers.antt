-- The words hold what the cards cover over the links before i. Assumes nothing.
use mathlib.Core.Path.{◌≡◌, sym, ◌∙◌}
use mathlib.Core.Logic.{◌≢◌}
use Prim.Native.Nat.{◌<◌}
use native.Mathlib.Omega.{arith}
use Rattle.rack.specs.PlanFile.{plan_bit, plan_wiring}
use Rattle.rack.specs.Wiring.{link_at}
use Rattle.plan_tests.specs.Tests.{crossed}
use Rattle.plan_tests.proofs.OrderedLinks.{ends_inside, ends_apart}
use Rattle.plan_cover.proofs.Covers.{cover_start}
use Rattle.plan_cover.proofs.JoinedLinks.{column_inside, column_part, more_covered, all_covered}
use Rattle.plan_cover.proofs.cover.cover_sets.Goals as goal
use Rattle.plan_cover.proofs.cover.cover_sets.Goals.{After-from-j}

-- link i, with its ends p and q and the column j that it crosses
known : (c : After-from-j) → let z = c.args.crossed.linked.plan in
    let p = c.ends-p.result.0 in
    let q = c.ends-p.result.1 in
    let j = c.from-j.result in
    (p < z.cards) × (q < z.cards) × (p ≢ q) × (j < z.columns) × (j ≡ crossed z.columns (plan_bit z.bytes.now) (link_at (plan_wiring z.bytes.now) c.loop-i.i))
known c =
    let z = c.args.crossed.linked.plan in
    let i = c.loop-i.i in
    let ends = ends_inside z.bytes.now z.cards z.links z.columns z.sized i (omega arith) c.args.crossed.linked.links in
    let first = c.ends-p.ensures.first in
    let second = c.ends-p.ensures.second in
    let is = c.from-j.ensures ∙ c.args.crossed.columns.is i (omega arith) in (
      omega (arith, first, ends),
      omega (arith, second, ends),
      (λ e. ends_apart z.bytes.now z.cards z.links z.columns z.sized i (omega arith) c.args.crossed.linked.links (sym first ∙ e ∙ second)),
      column_inside z.bytes.now z.cards z.links z.columns z.sized c.args.crossed.ordered i (omega arith) _ is,
      is,
    )

pub loop-i-init : goal.loop-i-init
loop-i-init c =
    let z = c.args.crossed.linked.plan in
    cover_start z.cards z.columns (plan_bit z.bytes.now) _ c.single_sets-cover.ensures

pub bit-requires : goal.bit-requires
bit-requires c = let k = known (goal.at.bit-requires c).After-from-j in (k.0, k.3)

pub join_sides-requires : goal.join_sides-requires
join_sides-requires c =
    let z = c.args.crossed.linked.plan in
    let k = known (goal.at.join_sides-requires c).After-from-j in (
      omega (arith, k.0, z.sized.few),
      omega (arith, k.1, z.sized.few),
      k.2,
      omega (arith, k.3, z.sized.few_columns),
      column_part z.bytes.now z.cards z.links z.columns z.sized c.args.crossed.ordered c.loop-i.i (omega arith) c.from-j.result k.4
          c.column_sets-columns.result c.full_words-full.result c.column_sets-columns.ensures c.full_words-full.ensures,
    )

pub loop-i-preserved : goal.loop-i-preserved
loop-i-preserved c =
    let z = c.args.crossed.linked.plan in
    let k = known (goal.at.loop-i-preserved c).After-from-j in
    more_covered z.bytes.now z.cards z.links z.columns z.sized c.args.crossed.ordered c.loop-i.i (omega arith) c.from-j.result k.4
    c.ends-p.result.0 c.ends-p.result.1 c.bit.result c.column_sets-columns.result c.full_words-full.result c.loop-i.cover _
    c.ends-p.ensures.first c.ends-p.ensures.second c.bit.ensures
    c.column_sets-columns.ensures c.full_words-full.ensures c.join_sides.ensures c.loop-i.invariant

pub returns : goal.returns
returns c =
    let z = c.args.crossed.linked.plan in
    let e : c.loop-i.i ≡ z.links = omega arith in
    all_covered z.bytes.now z.cards z.links z.columns z.sized c.args.crossed.ordered c.loop-i.cover (rw e at c.loop-i.invariant)
