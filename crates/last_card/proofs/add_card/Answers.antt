-- 1 comes before the plan is looked at; then the plan and its sum decide, its bytes with a card more are the planner's, and the sum rises by n and
-- by the card's hops. Assumes nothing.
use Rattle.std.proofs.Common.{arith}
use Rattle.std.proofs.lemmas.Result.{err_from_is_err_and}
use Rattle.rack.specs.declared.refused.Refused.TheVariants.{Lent}
use Rattle.last_card.proofs.ReadParts.{read_known}
use Rattle.last_card.proofs.Refusals.{add_no_room}
use Rattle.last_card.proofs.Answers.{changed_refused, add_not_read, adding_refused, add_inside, add_answered, total_fits, hops_fit}
use Rattle.last_card.proofs.add_card.Goals as goal

pub returns-in_default : goal.returns-in_default
returns-in_default c = changed_refused _ _ _ Lent (add_no_room _ _ _ _ c.in_default.ensures.cases)

pub returns-in_err-read : goal.returns-in_err-read
returns-in_err-read c =
    let p = err_from_is_err_and c.from_residual.result c.from_residual.ensures.1 in
    let lent = c.in-Some.ensures.cases in
    rw (p.1, p.2, lent.same) (add_not_read c.args.plan.now _ _ c.in_err-read.ensures.says c.args.output.now lent.long _)

pub add_sized-requires : goal.add_sized-requires
add_sized-requires c = read_known _ _ _ c.in_ok-read.ensures.says

pub returns-in_err-length : goal.returns-in_err-length
returns-in_err-length c =
    let p = err_from_is_err_and c.from_residual-in_err-length.result c.from_residual-in_err-length.ensures.1 in
    let lent = c.in-Some.ensures.cases in
    let read = c.in_ok-read.ensures in
    rw (p.1, p.2)
    (adding_refused c.args.plan.now _ c.in_ok-read.read.plan read.says c.args.output.now _ lent.long _ _
    (rw (read.bytes, lent.same) at c.in_err-length.ensures.says))

pub overflow_add-result : goal.overflow_add-result
overflow_add-result c =
    let p = c.in_ok-read.read.plan in
    omega (arith, total_fits _ _ p c.in_ok-read.ensures.says, p.sized.few)

pub hops_from-requires : goal.hops_from-requires
hops_from-requires c =
    let lent = c.in-Some.ensures.cases in
    let read = c.in_ok-read.ensures in
    let inside = add_inside c.args.plan.now _ c.in_ok-read.read.plan read.says c.args.output.now _ lent.long c.args.card _
    (rw (read.bytes, lent.same) at c.in_ok-length.ensures.says) in
    inside

pub overflow_add-result-2 : goal.overflow_add-result-2
overflow_add-result-2 c =
    let p = c.in_ok-read.read.plan in
    let read = c.in_ok-read.ensures in
    omega (
      arith,
      total_fits _ _ p read.says,
      p.sized.few,
      hops_fit _ _ p read.says _ _ (rw read.bytes at c.hops_from.ensures),
    )

pub returns : goal.returns
returns c =
    let lent = c.in-Some.ensures.cases in
    let read = c.in_ok-read.ensures in
    add_answered c.args.plan.now _ c.in_ok-read.read.plan read.says c.args.output.now _ lent.long c.args.card _
    (rw (read.bytes, lent.same) at c.in_ok-length.ensures.says) _ (rw read.bytes at c.hops_from.ensures)
