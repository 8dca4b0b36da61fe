-- The number in the first two bytes. Assumes nothing.
use Rattle.turns.specs.Turns.{frame_goal}
use Rattle.turns.proofs.frames.frame_goal.Goals as goal

pub returns : goal.returns
unfolding frame_goal
returns c = c.number_at.ensures.is
