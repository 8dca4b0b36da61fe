-- The far side is joined to the words before t. Assumes nothing.
use Rattle.plan_cover.specs.Covers.{WordsJoined}
use Rattle.plan_cover.proofs.cover.join_sides.Given as goal

abbrev pub invariant-loop-t : goal.invariant-loop-t
invariant-loop-t l = WordsJoined l.columns l.full l.p l.q l.j l.rest l.initial.cover l.cover l.t
