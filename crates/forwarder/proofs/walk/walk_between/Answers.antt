-- The loop's invariant: the cards written are those left and the present one, and behind those left stands what is still to be walked.
-- Each step lessens the differing places, so there is room for its card. Assumes nothing.
use native.Mathlib.Omega.{arith}
use mathlib.Core.Path.{refl}
use Prim.Native.Nat.{◌<◌}
use Rattle.std.proofs.Common.{rules}
use Rattle.forwarder.specs.Forwarding.{step_of}
use Rattle.forwarder.proofs.Routes.{OnTheWay, walk_begins, room_left, far_is_card, walk_steps, walk_stops, ended_step}
use Rattle.forwarder.proofs.walk.walk_between.Goals as goal
use Rattle.forwarder.proofs.walk.walk_between.Goals.{In-Over}

module _ (c : In-Over) where
  abbrev Here : Type 0
  Here = OnTheWay c.args.counted.plan.bytes.now c.args.a c.args.b c.loop-next.met c.loop-next.taken (step_of 2 c.in-Over.link c.in-Over.far)

  here : Here
  here = rw c.in-Over.is at c.loop-next.invariant

  -- a step over a link leaves room for its card
  known : (c.loop-next.taken < 255) × (c.in-Over.far < c.args.counted.plan.cards) × (c.args.counted.plan.cards < 257)
  known =
      let p = c.args.counted.plan in
      let room = room_left p.bytes.now c.args.a c.args.b _ _ _ here refl in
      let card = far_is_card p.bytes.now c.args.a c.args.b _ _ _ here refl in
      (omega (arith, p.sized.columns, p.sized.few_columns), omega (arith, p.sized.cards), omega (arith, p.sized.few))

pub loop-next-init : goal.loop-next-init
loop-next-init c = rw c.requires.2 (walk_begins _ _ _ _ c.step_between-next.ensures)

pub overflow_cast-met-in-Over : goal.overflow_cast-met-in-Over
overflow_cast-met-in-Over c = omega (arith, known c)

pub bounds-met-taken : goal.bounds-met-taken
bounds-met-taken c = omega (arith, known (goal.at.bounds-met-taken c).In-Over)

pub step_between-next-requires-in-Over : goal.step_between-next-requires-in-Over
step_between-next-requires-in-Over c = ((known (goal.at.step_between-next-requires-in-Over c).In-Over).1, c.requires.1)

pub loop-next-preserved : goal.loop-next-preserved
loop-next-preserved c =
    let p = c.args.counted.plan in
    walk_steps p.bytes.now c.args.a c.args.b _ _ _ (here (goal.at.loop-next-preserved c).In-Over) refl
    (omega (arith, p.sized.columns, p.sized.few_columns)) _ c.step_between-next-in-Over.ensures

pub returns : goal.returns
returns c =
    let p = c.args.counted.plan in
    let ended = ended_step c.loop-next.next c.eq.result (search rules) c.in_default.not-Over in
    walk_stops p.bytes.now c.args.a c.args.b _ _ _ c.loop-next.invariant c.eq.result ended.0 ended.1 (omega (arith, p.sized.columns, p.sized.few_columns))
