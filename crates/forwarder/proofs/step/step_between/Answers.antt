-- The loop's invariant: no link passed leads nearer. So the first that does is the step's, and where none is left the frame is stuck. Assumes nothing.
use native.Mathlib.Omega.{arith}
use mathlib.Core.Path.{sym}
use Rattle.std.proofs.Common.{rules}
use Rattle.forwarder.proofs.Searching.{no_marks, far_below, passed_none, passed_far, step_found, step_none, step_arrived}
use Rattle.forwarder.proofs.step.step_between.Goals as goal
use Rattle.forwarder.proofs.step.step_between.Goals.{in_default-via-in-None-1, in_default-via-in-Some+else-is_nearer}

pub returns-then-a-b : goal.returns-then-a-b
returns-then-a-b c = step_arrived _ _ _ c.if-a-b.true

pub loop-i-init : goal.loop-i-init
loop-i-init c = ((λ j h. absurd (omega arith)), no_marks _ _ _)

pub is_nearer-requires : goal.is_nearer-requires
is_nearer-requires c =
    let z = c.args in
    (far_below z.counted.plan.bytes.now z.counted.plan.sized z.a z.b c.loop-i.i _ (sym c.in-Some.ensures), c.requires.1, c.loop-i.invariant.1)

pub overflow_cast-result-in-loop-i : goal.overflow_cast-result-in-loop-i
overflow_cast-result-in-loop-i c =
    let z = c.args in
    omega (arith, z.counted.plan.sized.few, far_below z.counted.plan.bytes.now z.counted.plan.sized z.a z.b c.loop-i.i _ (sym c.in-Some.ensures))

pub returns-in-loop-i : goal.returns-in-loop-i
returns-in-loop-i c =
    let z = c.args in
    step_found z.counted.plan.bytes.now z.counted.plan.sized z.a z.b c.loop-i.i c.loop-i.invariant.0 _ _ (sym c.in-Some.ensures)
    c.hamming-left.ensures (λ e. omega arith) c.loop-i-test.true (sym c.if-is_nearer.ensures.is)

pub loop-i-preserved : goal.loop-i-preserved
loop-i-preserved c =
    let z = c.args in
    let passed = c.loop-i.invariant in
    elim c.in_default.branch [
      | in_default-via-in-None-1 w ↦ (passed_none z.counted.plan.bytes.now z.counted.plan.sized z.a z.b c.loop-i.i passed.0 (search rules), rw w.marks-is passed.1)
      | in_default-via-in-Some+else-is_nearer w ↦ (
        passed_far z.counted.plan.bytes.now z.counted.plan.sized z.a z.b c.loop-i.i passed.0 _ _ (sym w.in-Some.ensures) c.hamming-left.ensures (sym w.if-is_nearer.ensures.is),
        rw w.marks-is w.if-is_nearer.ensures.holds,
      )
    ]

pub returns : goal.returns
returns c =
    let z = c.args in
    step_none z.counted.plan.bytes.now z.counted.plan.sized z.a z.b (λ e. omega arith) (λ j h. c.loop-i.invariant.0 j (omega arith))
