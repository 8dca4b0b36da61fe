-- Invariants: `measured` is true, and every pair of cards before `a`, and of `a` with a card before `b`, has as many differing places as hops. Assumes nothing.
use mathlib.Core.Path.{◌≡◌}
use mathlib.Core.Bool.{true}
use Prim.Native.Nat.{ℕ, ◌<◌}
use Rattle.survey.specs.Tables.{cell}
use Rattle.planner.specs.OpenColumns.{words_hamming, PairsMeasure}
use Rattle.planner.proofs.pairs.CountedWords.pairs_measure.Given as goal

abbrev pub invariant-loop-b : goal.invariant-loop-b
invariant-loop-b l = (l.measured ≡ true) × ((x : ℕ) → x < l.b → words_hamming l.self.words.now l.a x ≡ cell l.hops l.a x)

abbrev pub invariant-pairs : goal.invariant-pairs
invariant-pairs l = (l.measured ≡ true) × PairsMeasure l.self.words.now l.hops l.a
