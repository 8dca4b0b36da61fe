-- The flags are those of the cards that can be reached, and the lowest card without one is said. Assumes nothing.
use mathlib.Core.Path.{ap}
use native.Mathlib.Omega.{arith}
use Rattle.rack.specs.Refusals.{Refusal}
use Rattle.survey.proofs.Forms.{formed_cards}
use Rattle.survey.proofs.Flags.{unflagged_here, unflagged_none}
use Rattle.survey.proofs.reach.reach_refusal.Goals as goal

pub returns-in-Some : goal.returns-in-Some
returns-in-Some c =
    let (inside, none, before) = c.in-Some.ensures in
    unflagged_here _ _ c.reach.ensures _ before (omega (arith, formed_cards _ _ _ c.args.file.formed.formed)) none

pub returns-in-None : goal.returns-in-None
returns-in-None c =
    ap (λ (f : Refusal). f.number)
    (unflagged_none _ _ c.reach.ensures _ c.in-None.ensures (omega (arith, formed_cards _ _ _ c.args.file.formed.formed)))
