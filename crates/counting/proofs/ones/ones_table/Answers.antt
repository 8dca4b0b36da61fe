-- Every entry is tested once, by computation; the rule follows from the test. Assumes nothing.
use mathlib.Core.Path.{refl}
use Rattle.rack.specs.Bits.{number_bit}
use Rattle.counting.specs.Ones.{ones_in, table_holds}
use Rattle.counting.proofs.TableRule.{holds_counts}
use Rattle.counting.proofs.ones.ones_table.Goals as goal

pub returns-clause-tested : goal.returns-clause-tested
unfolding number_bit ones_in table_holds
returns-clause-tested c = refl

pub returns-clause-counts : goal.returns-clause-counts
unfolding number_bit ones_in table_holds
returns-clause-counts c = holds_counts _ refl

pub invariant_of-result : goal.invariant_of-result
unfolding number_bit ones_in table_holds
invariant_of-result c = record { counts = holds_counts _ refl }
