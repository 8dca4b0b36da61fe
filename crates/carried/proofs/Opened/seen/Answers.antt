-- As the test says. Assumes nothing.
use Rattle.std.proofs.Common.{refl, sym}
use Rattle.carried.proofs.Carrying.{carried_bytes_whole, carried_bytes_none, none_from_start}
use Rattle.carried.proofs.Opened.seen.Goals as goal

pub returns-then-carries : goal.returns-then-carries
returns-then-carries c = record { place = refl; bytes = sym (carried_bytes_whole _ _ _ _ (sym c.if-carries.ensures)) }

pub returns-else-carries : goal.returns-else-carries
returns-else-carries c = record { place = none_from_start _; bytes = sym (carried_bytes_none _ _ _ _ (sym c.if-carries.ensures)) }
