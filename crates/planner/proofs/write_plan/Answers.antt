-- The bytes written from the words are the plan of the file's wiring. Assumes nothing.
use mathlib.Core.Path.{ap, subst, ◌∙◌}
use mathlib.Core.List.{List}
use Prim.Native.Nat.{ℕ}
use native.Mathlib.Omega.{arith}
use lib.ListN.{length, replicate}
use Rattle.std.specs.Prelude.{Ok}
use Rattle.std.proofs.lemmas.Result.{err_from_is_err_and}
use Rattle.planner.specs.Answer.{answer_of}
use Rattle.planner.specs.Planning.{WriteSays}
use Rattle.planner.proofs.RackPlanned.{sizes_refusal}
use Rattle.planner.proofs.WriteAnswer.{write_says_one, write_says_refused, planned_refusal, columns_few, write_says_found}
use Rattle.planner.proofs.WritePromise.{plan_found}
use Rattle.planner.proofs.write_plan.Goals as goal

pub returns-in_default : goal.returns-in_default
returns-in_default c =
    let says = write_says_one c.args.file.now c.args.output.now c.in_default.ensures.cases in
    record { says = says; found = λ a. plan_found _ _ _ _ a says }

pub returns-in_err-sized : goal.returns-in_err-sized
returns-in_err-sized c =
    let p = err_from_is_err_and c.from_residual.result c.from_residual.ensures.1 in
    let out = c.in-Some.ensures.cases in
    let zero = c.fill.ensures.after (λ y e. e) ∙ ap (λ (n : ℕ). replicate n 0) (ap length out.same) in
    let says = write_says_refused c.args.file.now c.args.output.now c.fill.new.self _ out.long (sizes_refusal _ _ c.in_err-sized.ensures.refuses) zero in
    rw (p.1, p.2) (record { says = says; found = λ a. plan_found _ _ _ _ a says })

pub returns-in_err-k : goal.returns-in_err-k
returns-in_err-k c =
    let p = err_from_is_err_and c.from_residual-in_err-k.result c.from_residual-in_err-k.ensures.1 in
    let out = c.in-Some.ensures.cases in
    let zero = c.fill.ensures.after (λ y e. e) ∙ ap (λ (n : ℕ). replicate n 0) (ap length out.same) in
    let said = rw c.in_ok-sized.ensures.same at (planned_refusal _ _ _ _ c.in_err-k.ensures) in
    let says = write_says_refused c.args.file.now c.args.output.now c.fill.new.self _ out.long said zero in
    rw (p.1, p.2) (record { says = says; found = λ a. plan_found _ _ _ _ a says })

pub put_plan-requires : goal.put_plan-requires
put_plan-requires c = columns_few _ _ _ _ c.in_ok-k.ensures

pub returns : goal.returns
returns c =
    let out = c.in-Some.ensures.cases in
    let z = c.args in
    let says = subst (λ (bs : List ℕ). WriteSays bs (answer_of (Ok c.put_plan.result)) z.output.now c.put_plan.new.output) c.in_ok-sized.ensures.same
    (write_says_found _ _ _ _ c.in_ok-k.ensures z.output.now c.put_plan.new.output _ out.long
    (omega arith) c.put_plan.ensures.bytes c.put_plan.ensures.long) in
    record { says = says; found = λ a. plan_found _ _ _ _ a says }
