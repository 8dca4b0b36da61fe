-- The promises of specs/Promises.antt, proved. Assumes nothing.
use Rattle.planner.specs.Promises.{PlanningFinds, WritingFinds}
use Rattle.planner.proofs.PlanPromise.{addresses_found}
use Rattle.planner.proofs.WritePromise.{plan_found}

pub planning_finds : PlanningFinds
unfolding PlanningFinds
planning_finds bs words words_now hop_bytes hop_bytes_now r says room hop_room formed whole =
    addresses_found bs r words words_now hop_bytes hop_bytes_now (record { room = room; hop_room = hop_room; formed = formed; whole = whole }) says

pub writing_finds : WritingFinds
unfolding WritingFinds
writing_finds bs output output_now r says room formed whole =
    plan_found bs r output output_now (record { room = room; formed = formed; whole = whole }) says
