-- Every link before i has ends with different hops from card 0; the first link with equal ones is refused, and none at the end. Assumes nothing.
use Prim.Native.Nat.{ℕ, ◌<◌}
use Rattle.rack.specs.WiringFile.{file_wiring}
use Rattle.survey.proofs.Levels.{Uneven}
use Rattle.survey.proofs.hops.parity_refusal.Given as goal

abbrev pub invariant-loop-i : goal.invariant-loop-i
invariant-loop-i l = ((j : ℕ) → j < l.i → Uneven (file_wiring l.file.formed.sized.bytes.now) j)
