-- All links are in order exactly if those from i on are, with the columns opened so far; the columns that those before i cross are written. Assumes
-- nothing.
use mathlib.Core.Path.{◌≡◌, sym, ap, ◌∙◌}
use Prim.Native.Nat.{ℕ, ◌+◌}
use native.Mathlib.Omega.{arith}
use Rattle.rack.specs.PlanFile.{plan_bit, plan_wiring}
use Rattle.plan_tests.proofs.OrderedLinks.{NextOpen, opens_one, opens_no, crossed_more, in_order_from, ColumnFound, none_found, column_found, ends_inside, all_seen}
use Rattle.plan_tests.proofs.order.order_holds.Goals as goal
use Rattle.plan_tests.proofs.order.order_holds.Goals.{In-Some, then-j-opened, else-j-opened}

-- what is known of link i, where its column is found
found : (c : In-Some) → ColumnFound c.args.linked.plan.bytes.now c.args.linked.plan.columns c.loop-i.i c.in-Some.j
found c =
    let z = c.args.linked.plan in
    column_found z.bytes.now z.cards z.links z.columns z.sized c.loop-i.i (omega arith) c.ends-p.result.0 c.ends-p.result.1
    c.ends-p.ensures.first c.ends-p.ensures.second c.in-Some.j c.in-Some.ensures

pub only_column-requires : goal.only_column-requires
only_column-requires c =
    let z = c.args.linked.plan in
    let ends = ends_inside z.bytes.now z.cards z.links z.columns z.sized c.loop-i.i (omega arith) c.args.linked.links in
    (omega (arith, c.ends-p.ensures.first, ends), omega (arith, c.ends-p.ensures.second, ends))

pub returns-in_default-clause-is : goal.returns-in_default-clause-is
returns-in_default-clause-is c =
    let z = c.args.linked.plan in
    let l = c.loop-i in
    sym (l.invariant.1 ∙ none_found z.bytes.now z.cards z.links z.columns z.sized l.i (omega arith) c.ends-p.result.0 c.ends-p.result.1
    c.ends-p.ensures.first c.ends-p.ensures.second c.in_default.ensures l.opened)

pub returns-then-opened-j-clause-is : goal.returns-then-opened-j-clause-is
returns-then-opened-j-clause-is c =
    let l = c.loop-i in
    sym (l.invariant.1 ∙ (found (goal.at.returns-then-opened-j-clause-is c).In-Some).late l.opened c.if-opened-j.true)

pub loop-i-preserved : goal.loop-i-preserved
loop-i-preserved c =
    let z = c.args.linked.plan in
    let l = c.loop-i in
    let j = c.in-Some.j in
    let f = found (goal.at.loop-i-preserved c).In-Some in
    let next : NextOpen j l.opened c.if-j-opened.opened =
    elim c.if-j-opened.branch [
      | then-j-opened w ↦ opens_one j l.opened c.if-j-opened.opened w.if-j-opened.true w.opened-is
      | else-j-opened w ↦ opens_no j l.opened c.if-j-opened.opened w.if-j-opened.false w.opened-is
    ] in (
      omega (arith, next.1),
      l.invariant.1 ∙ f.more l.opened c.if-opened-j.false ∙ ap (in_order_from z.bytes.now z.columns (l.i + 1)) (sym next.0),
      crossed_more z.columns (plan_bit z.bytes.now) (plan_wiring z.bytes.now) l.crossed l.i j (omega (arith, z.sized.few_links)) f.is l.invariant.2,
    )

pub returns-clause-is : goal.returns-clause-is
returns-clause-is c =
    let z = c.args.linked.plan in
    let l = c.loop-i in
    let e : l.i ≡ z.links = omega arith in
    sym (l.invariant.1 ∙ ap (λ (i : ℕ). in_order_from z.bytes.now z.columns i l.opened) e
    ∙ all_seen z.bytes.now z.cards z.links z.columns z.sized l.opened)
