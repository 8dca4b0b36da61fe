-- The sizes that reading answers are a layout's, and its number comes before 14. Assumes nothing.
use Rattle.std.proofs.lemmas.Result.{err_from_is_err_and}
use Rattle.reader.proofs.AddressPart.{address_read, address_refused}
use Rattle.reader.proofs.read.card_address.Goals as goal

pub returns-in_err-read_plan-clause-refusal : goal.returns-in_err-read_plan-clause-refusal
returns-in_err-read_plan-clause-refusal c =
    let p = err_from_is_err_and c.from_residual.result c.from_residual.ensures.1 in
    rw (p.1, p.2) (address_refused c.args.plan.now c.args.card _ c.in_err-read_plan.ensures.says)

pub returns : goal.returns
returns c =
    let p = c.in_ok-read_plan.field-0.plan in
    let read = c.in_ok-read_plan.ensures in
    let part = rw read.bytes at c.address_sized.ensures.part in
    let holds = address_read c.args.plan.now c.args.plan.ref_ptr c.args.card p read.says _ c.address_sized.ensures.refusal part in
    record {
      part = holds.0;
      refusal = holds.1;
    }
