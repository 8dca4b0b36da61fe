-- No byte has more than eight ones. Assumes nothing.
use native.Mathlib.Omega.{arith}
use Rattle.counting.proofs.TableRule.{ones_le}
use Rattle.counting.proofs.ones.Ones.byte_ones.Goals as goal

pub returns-clause-few : goal.returns-clause-few
returns-clause-few c = omega (arith, c.from-2.ensures, c.args.self.now.counts.ones c.from.result (omega arith), ones_le 8 c.from.result)
