-- What is in the buffer is what was read.
use Rattle.std.proofs.Common.{◌≡◌, ◌-◌, ◌≤◌, length, take}
use Rattle.std.specs.Io.KnownBytes.{Consumes}
use Rattle.listing_io.proofs.read_front.Given as goal

abbrev pub invariant-loop-count : goal.invariant-loop-count
invariant-loop-count g l = (length l.file ≡ length l.initial.file) × (l.count ≤ length l.file) × Consumes (g.R.Read.remaining l.initial.input) (g.R.Read.remaining l.input) (take l.count l.file)

abbrev pub decreases-loop-count : goal.decreases-loop-count
decreases-loop-count g l = length l.initial.file - l.count
