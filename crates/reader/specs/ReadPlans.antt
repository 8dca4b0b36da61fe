-- What a call answers that gives a plan that was read, as what one answers that gives a plan with its sizes. Assumes nothing: these are
-- definitions.
use Rattle.std.specs.Prelude.{Result, Ok, Err}
use Rattle.rack.specs.declared.refused.Refused.{Refused}
use Rattle.rack.specs.declared.views.Plan.{Plan}
use Rattle.reader.specs.declared.views.ReadPlan.{ReadPlan}

abbrev pub plan_of : Result ReadPlan Refused → Result Plan Refused
plan_of (Ok r) = Ok r.plan
plan_of (Err e) = Err e
