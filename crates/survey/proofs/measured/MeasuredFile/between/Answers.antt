-- Between cards the table has the hops. Assumes nothing.
use native.Mathlib.Omega.{arith}
use Rattle.survey.proofs.Forms.{formed_cards}
use Rattle.survey.proofs.measured.MeasuredFile.between.Goals as goal

pub returns-clause-hops : goal.returns-clause-hops
returns-clause-hops c =
    let file = c.args.self in
    let cards = formed_cards _ _ _ file.formed.formed in
    λ a b. file.measured.is c.args.a c.args.b (omega arith) (omega arith)
