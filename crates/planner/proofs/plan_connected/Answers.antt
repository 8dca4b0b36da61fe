-- A link with equal hops refuses, too many columns or a pair that fails; else the addresses are an embedding. Assumes nothing.
use Rattle.std.proofs.lemmas.Result.{err_from_is_err_and}
use Rattle.planner.proofs.RackPlanned.{odd_planned, addressed_planned}
use Rattle.planner.proofs.plan_connected.Goals as goal

pub returns-in_err-parity_refusal : goal.returns-in_err-parity_refusal
returns-in_err-parity_refusal c =
    let p = err_from_is_err_and c.from_residual.result c.from_residual.ensures.1 in
    rw (p.1, p.2) (odd_planned _ _ _ c.args.file.connected _ c.in_err-parity_refusal.ensures c.told-words c.args.file.measured.measured.long)

pub returns : goal.returns
returns c =
    rw c.ok_or.ensures.value
    (addressed_planned _ _ _ c.args.file.connected _ c.in_ok-parity_refusal.ensures c.address_cards.ensures c.args.file.measured.measured c.address_cards.array_long)
