-- The guessed plan where there is one, else the planner's; what stood in the buffer before does not matter. Assumes nothing.
use mathlib.Core.Path.{sym, subst}
use mathlib.Core.List.{List}
use Prim.Native.Nat.{ℕ}
use native.Mathlib.Omega.{arith}
use Rattle.planner.proofs.WriteAnswer.{write_says_one}
use Rattle.planner.proofs.WritePromise.{plan_found}
use Rattle.writing.specs.Guessing.{Bytes, GuessIs}
use Rattle.writing.proofs.SaidWritten.{write_says_accepted, write_says_over}
use Rattle.writing.proofs.write_plan.Goals as goal

pub returns-in_default : goal.returns-in_default
returns-in_default c =
    let says = write_says_one c.args.file.now c.args.output.now c.in_default.ensures.cases in
    record { says = says; found = λ a. plan_found _ _ _ _ a says }

pub guess_plan-requires : goal.guess_plan-requires
guess_plan-requires c = subst Bytes (sym c.in-Ok.ensures.same) (λ i. omega (arith, c.type_inv.file i))

pub returns : goal.returns
returns c =
    let out = c.in-Some.ensures.cases in
    let guess = subst (λ (bs : List ℕ). GuessIs bs c.guess_plan.new.output c.in-Some-guess_plan.length) c.in-Ok.ensures.same c.in-Some-guess_plan.ensures in
    let says = write_says_accepted c.args.file.now c.args.output.now _ _ out.long guess.accepted (omega arith) guess.written guess.is in
    record { says = says; found = λ a. plan_found _ _ _ _ a says }

pub returns-2 : goal.returns-2
returns-2 c =
    let out = c.in-Some.ensures.cases in
    let says = write_says_over c.args.file.now _ _ c.args.output.now _ (omega arith) out.long c.write_plan.ensures.says in
    record { says = says; found = λ a. plan_found _ _ _ _ a says }
