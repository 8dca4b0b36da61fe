-- The third byte. Assumes nothing.
use Rattle.turns.specs.Turns.{frame_caller}
use Rattle.turns.proofs.frames.frame_caller.Goals as goal

pub returns : goal.returns
unfolding frame_caller
returns c = c.from.ensures
