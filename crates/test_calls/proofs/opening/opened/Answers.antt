-- The calls see the bytes that the opening left. Assumes nothing.
use mathlib.Core.Path.{refl}
use Rattle.test_calls.proofs.Seen.{opened_seen}
use Rattle.test_calls.proofs.opening.opened.Goals as goal

pub returns : goal.returns
returns c = rw c.unwrap_or.ensures (opened_seen c.args.bytes.now c.args.bytes.ref_ptr c.open_plan.result _ refl c.open_plan.ensures)
