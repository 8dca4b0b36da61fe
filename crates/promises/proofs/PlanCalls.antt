-- The promises of the calls on a plan besides reading and forwarding, each proved: columns crossed, walks by caller, turns, conference cards. The
-- first part of the list is Promises.antt, the last OpenedPlans.antt. Assumes nothing.
use Rattle.crossing.specs.Promises.{LowestDiffering, StepCrosses, WalkCrosses, LinkCrosses, PlanLinkCrosses}
use Rattle.crossing.specs.Promises.{PlacesFound, PlacesNameColumn, AnswersCross, StepNamesColumn, WalkNamesColumn}
use Rattle.crossing.specs.Promises.{StepColumnLocal, FrameStepLocal}
use Rattle.crossing.proofs.Promises as crossing
use Rattle.turns.specs.Promises.{ChoiceRefused, ChoiceRefusedKeeps, ChoiceHandsBack, ChoiceCountsOne, RunSoFar, TurnsFair}
use Rattle.turns.proofs.Promises as turns
use Rattle.traffic.specs.Promises.{CallerRefused, OthersKept, CallerCounted, NoneCounted}
use Rattle.traffic.proofs.Promises as traffic
use Rattle.callers.specs.Promises.{CallerWalkArrives, CallerWalkFull, LentWalkArrives, LentWalkFull, CallerWalkRefused}
use Rattle.callers.specs.Promises.{ArrivalCounted, OthersUnseen, OthersUncounted, RefusedUncounted, CallerStuckUncounted, LentStuckUncounted}
use Rattle.callers.proofs.Promises as callers
use Rattle.conference.specs.Promises.{BetweenMeans, ConferencePromise, ConferenceRefused, ConferenceRepeated, ConferenceOrder}
use Rattle.conference.proofs.Promises as conference

-- the lowest column in which two addresses differ, or none where they are equal
pub lowest_differing : LowestDiffering
lowest_differing = crossing.lowest_differing

-- on every plan a step crosses a column exactly if it is over a link, and a walk exactly if it has hops
pub step_crosses : StepCrosses
step_crosses = crossing.step_crosses

pub walk_crosses : WalkCrosses
walk_crosses = crossing.walk_crosses

-- a link crosses its own column, in an accepted rack and on a plan that was read
pub link_crosses : LinkCrosses
link_crosses = crossing.link_crosses

pub plan_link_crosses : PlanLinkCrosses
plan_link_crosses = crossing.plan_link_crosses

-- so with the places of two cards a column is found exactly if some differ, and of a linked pair it is that link's
pub places_found : PlacesFound
places_found = crossing.places_found

pub places_name_column : PlacesNameColumn
places_name_column = crossing.places_name_column

-- the calls' answers have a column, or none with any refusal, and on a plan that was read it is that of the link crossed first
pub answers_cross : AnswersCross
answers_cross = crossing.answers_cross

pub step_names_column : StepNamesColumn
step_names_column = crossing.step_names_column

pub walk_names_column : WalkNamesColumn
walk_names_column = crossing.walk_names_column

-- the column of a step depends on nothing but what the step does, and so does the call's answer with it
pub step_column_local : StepColumnLocal
step_column_local = crossing.step_column_local

pub frame_step_local : FrameStepLocal
frame_step_local = crossing.frame_step_local

-- demand 3 by caller: a frame of callers 0 to 15 arrives by the fewest links and is counted to its caller, or a count of that caller is full, and
-- all is as it was; by numbers, and of a lent frame
pub caller_walk_arrives : CallerWalkArrives
caller_walk_arrives = callers.caller_walk_arrives

pub caller_walk_full : CallerWalkFull
caller_walk_full = callers.caller_walk_full

pub lent_walk_arrives : LentWalkArrives
lent_walk_arrives = callers.lent_walk_arrives

pub lent_walk_full : LentWalkFull
lent_walk_full = callers.lent_walk_full

-- with one frame more of its caller, and its hops
pub arrival_counted : ArrivalCounted
arrival_counted = callers.arrival_counted

-- 18 and 19, exactly
pub caller_refused : CallerRefused
caller_refused = traffic.caller_refused

pub caller_walk_refused : CallerWalkRefused
caller_walk_refused = callers.caller_walk_refused

-- another caller's counts refuse no walk, and no walk changes them, nor any turns
pub others_unseen : OthersUnseen
others_unseen = callers.others_unseen

pub others_uncounted : OthersUncounted
others_uncounted = callers.others_uncounted

-- what a walk that arrived raises, and that any other raises nothing: refused, or stuck
pub others_kept : OthersKept
others_kept = traffic.others_kept

pub caller_counted : CallerCounted
caller_counted = traffic.caller_counted

pub none_counted : NoneCounted
none_counted = traffic.none_counted

pub refused_uncounted : RefusedUncounted
refused_uncounted = callers.refused_uncounted

pub caller_stuck_uncounted : CallerStuckUncounted
caller_stuck_uncounted = callers.caller_stuck_uncounted

pub lent_stuck_uncounted : LentStuckUncounted
lent_stuck_uncounted = callers.lent_stuck_uncounted

-- of two waiting frames: 19, 18 and 15, exactly; with a refusal nothing is handed back and no turn is counted
pub choice_refused : ChoiceRefused
choice_refused = turns.choice_refused

pub choice_refused_keeps : ChoiceRefusedKeeps
choice_refused_keeps = turns.choice_refused_keeps

-- else that very frame is handed back whose caller has had fewer turns, the first if level, and one turn is counted, its caller's
pub choice_hands_back : ChoiceHandsBack
choice_hands_back = turns.choice_hands_back

pub choice_counts_one : ChoiceCountsOne
choice_counts_one = turns.choice_counts_one

-- so at no moment of a run of choices is one of two callers ahead by more than one
pub run_so_far : RunSoFar
run_so_far = turns.run_so_far

pub turns_fair : TurnsFair
turns_fair = turns.turns_fair

-- hops that add up mean a shortest path through a card
pub between_means : BetweenMeans
between_means = conference.between_means

-- a conference card is on all three kinds of shortest path, the only one, with the majority's bits; "none" exactly if there is no such card
pub conference_promise : ConferencePromise
conference_promise = conference.conference_promise

-- three cards of a plan that was read get an answer, and a number that is no card is 14
pub conference_refused : ConferenceRefused
conference_refused = conference.conference_refused

-- a card that is named twice is the one
pub conference_repeated : ConferenceRepeated
conference_repeated = conference.conference_repeated

-- the order of the three does not matter
pub conference_order : ConferenceOrder
conference_order = conference.conference_order
