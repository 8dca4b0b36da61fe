-- The places in which two words differ are the ones of their xor. Assumes nothing.
use mathlib.Core.Path.{◌∙◌}
use Rattle.counting.proofs.TableRule.{ones_xor}
use Rattle.counting.proofs.places.word_hamming.Goals as goal

pub returns-clause-is : goal.returns-clause-is
returns-clause-is c = c.word_ones.ensures.is ∙ ones_xor 64 _ _

pub returns-clause-few : goal.returns-clause-few
returns-clause-few c = c.word_ones.ensures.few
