-- The promises of specs/Promises.antt, proved. Assumes nothing.
use Rattle.turns.specs.Promises.{ChoiceRefused, ChoiceRefusedKeeps, ChoiceHandsBack, ChoiceCountsOne, RunSoFar, TurnsFair}
use Rattle.turns.proofs.Turning
use Rattle.turns.proofs.Fairness

pub choice_refused : ChoiceRefused
choice_refused = Turning.choice_refused

pub choice_refused_keeps : ChoiceRefusedKeeps
choice_refused_keeps = Fairness.choice_refused_keeps

pub choice_hands_back : ChoiceHandsBack
choice_hands_back = Fairness.choice_hands_back

pub choice_counts_one : ChoiceCountsOne
choice_counts_one = Fairness.choice_counts_one

pub run_so_far : RunSoFar
run_so_far = Fairness.run_so_far

pub turns_fair : TurnsFair
turns_fair = Fairness.turns_fair
