-- The promises of specs/Promises.antt, proved. Assumes nothing.
use Rattle.crossing.specs.Promises.{LowestDiffering, StepCrosses, WalkCrosses, LinkCrosses, PlanLinkCrosses}
use Rattle.crossing.specs.Promises.{PlacesFound, PlacesNameColumn, AnswersCross, StepNamesColumn, WalkNamesColumn, StepColumnLocal, FrameStepLocal}
use Rattle.crossing.proofs.Differing
use Rattle.crossing.proofs.LinkColumns
use Rattle.crossing.proofs.Crossed
use Rattle.crossing.proofs.Named
use Rattle.crossing.proofs.StepLocal

pub lowest_differing : LowestDiffering
lowest_differing = Differing.differing_lowest

pub step_crosses : StepCrosses
step_crosses = Crossed.step_crosses

pub walk_crosses : WalkCrosses
walk_crosses = Crossed.walk_crosses

pub link_crosses : LinkCrosses
link_crosses = LinkColumns.link_crosses

pub plan_link_crosses : PlanLinkCrosses
plan_link_crosses = LinkColumns.plan_link_crosses

pub places_found : PlacesFound
places_found = Named.places_found

pub places_name_column : PlacesNameColumn
places_name_column = Named.places_name_column

pub answers_cross : AnswersCross
answers_cross = Named.answers_cross

pub step_names_column : StepNamesColumn
step_names_column = Named.step_names_column

pub walk_names_column : WalkNamesColumn
walk_names_column = Named.walk_names_column

pub step_column_local : StepColumnLocal
step_column_local = StepLocal.step_column_local

pub frame_step_local : FrameStepLocal
frame_step_local = StepLocal.frame_step_local
