-- 1 comes before the plan is looked at; then the plan and its sum decide, its bytes without the last card are the planner's, and the sum falls by
-- that card's hops. Assumes nothing.
use Rattle.std.proofs.Common.{arith}
use Rattle.std.proofs.lemmas.Result.{err_from_is_err_and}
use Rattle.rack.specs.declared.refused.Refused.TheVariants.{Lent}
use Rattle.last_card.proofs.ReadParts.{read_known}
use Rattle.last_card.proofs.Refusals.{take_off_no_room}
use Rattle.last_card.proofs.Answers.{changed_refused, take_off_not_read, taking_off_refused, take_off_sum, take_off_answered}
use Rattle.last_card.proofs.take_card_off.Goals as goal

pub returns-in_default : goal.returns-in_default
returns-in_default c = changed_refused _ _ _ Lent (take_off_no_room _ _ _ c.in_default.ensures.cases)

pub returns-in_err-read : goal.returns-in_err-read
returns-in_err-read c =
    let p = err_from_is_err_and c.from_residual.result c.from_residual.ensures.1 in
    let lent = c.in-Some.ensures.cases in
    rw (p.1, p.2, lent.same) (take_off_not_read c.args.plan.now _ _ c.in_err-read.ensures.says c.args.output.now lent.long)

pub take_off_sized-requires : goal.take_off_sized-requires
take_off_sized-requires c = read_known _ _ _ c.in_ok-read.ensures.says

pub returns-in_err-length : goal.returns-in_err-length
returns-in_err-length c =
    let p = err_from_is_err_and c.from_residual-in_err-length.result c.from_residual-in_err-length.ensures.1 in
    let lent = c.in-Some.ensures.cases in
    let read = c.in_ok-read.ensures in
    rw (p.1, p.2)
    (taking_off_refused c.args.plan.now _ c.in_ok-read.read.plan read.says c.args.output.now _ lent.long _
    (rw (read.bytes, lent.same) at c.in_err-length.ensures.says))

pub hops_from-requires : goal.hops_from-requires
hops_from-requires c = omega (arith, c.in_ok-read.read.plan.sized.some)

pub overflow_sub-result : goal.overflow_sub-result
overflow_sub-result c =
    let lent = c.in-Some.ensures.cases in
    let read = c.in_ok-read.ensures in
    omega (
      arith,
      rw read.bytes at c.hops_from.ensures,
      take_off_sum c.args.plan.now _ c.in_ok-read.read.plan read.says c.args.output.now _ lent.long _ (rw (read.bytes, lent.same) at c.in_ok-length.ensures.says),
    )

pub returns : goal.returns
returns c =
    let lent = c.in-Some.ensures.cases in
    let read = c.in_ok-read.ensures in
    take_off_answered c.args.plan.now _ c.in_ok-read.read.plan read.says c.args.output.now _ lent.long _
    (rw (read.bytes, lent.same) at c.in_ok-length.ensures.says) _ (rw read.bytes at c.hops_from.ensures)
