-- The words hold the cards before c. Assumes nothing.
use mathlib.Core.Path.{◌≡◌}
use lib.ListN.{length}
use Rattle.plan_cover.specs.Covers.{FullWords}
use Rattle.plan_cover.proofs.cover.full_words.Given as goal

abbrev pub invariant-loop-c : goal.invariant-loop-c
invariant-loop-c l = (length l.full ≡ 4) × FullWords l.c l.full
