-- The number in the first two bytes, and the third. Assumes nothing.
use Rattle.std.proofs.Common.{arith}
use Rattle.turns.proofs.frames.Frame.read.Goals as goal

pub returns : goal.returns
returns c = (omega arith, c.frame_goal.ensures, c.frame_caller.ensures)
