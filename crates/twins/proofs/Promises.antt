-- The promises of specs/Promises.antt, proved. Assumes nothing.
use Rattle.twins.specs.Promises.{ThirdRefused, TwoMayJoin, TwinsAlike, TwinsKeepHops, TwinsKeepNumber, TwinsKeepColumns}
use Rattle.twins.specs.Promises.{TwinsBehind, StepLowest, StepAnswerLowest, WalkLowest, DoubledStays, DoubledRefused, AddedSingle}
use Rattle.twins.proofs.Counts
use Rattle.twins.proofs.Columns
use Rattle.twins.proofs.SamePairs
use Rattle.twins.proofs.Behind
use Rattle.twins.proofs.Steps
use Rattle.twins.proofs.LastCard

pub third_refused : ThirdRefused
third_refused = Counts.third_refused

pub two_may_join : TwoMayJoin
two_may_join = Counts.two_may_join

pub twins_alike : TwinsAlike
twins_alike = Columns.twins_alike

pub twins_keep_hops : TwinsKeepHops
twins_keep_hops = SamePairs.twins_keep_hops

pub twins_keep_number : TwinsKeepNumber
twins_keep_number = SamePairs.twins_keep_number

pub twins_keep_columns : TwinsKeepColumns
twins_keep_columns = SamePairs.twins_keep_columns

pub twins_behind : TwinsBehind
twins_behind = Behind.twins_behind

pub step_lowest : StepLowest
step_lowest = Steps.step_lowest

pub step_answer_lowest : StepAnswerLowest
step_answer_lowest = Steps.step_answer_lowest

pub walk_lowest : WalkLowest
walk_lowest = Steps.walk_lowest

pub doubled_stays : DoubledStays
doubled_stays = LastCard.doubled_stays

pub doubled_refused : DoubledRefused
doubled_refused = LastCard.doubled_refused

pub added_single : AddedSingle
added_single = LastCard.added_single
