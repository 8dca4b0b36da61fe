-- The buffers are zero after a refusal. Assumes nothing.
use mathlib.Core.Path.{refl}
use mathlib.Core.Bool.{and-false}
use native.Mathlib.Omega.{arith}
use lib.Dec.{eqb}
use lib.ListN.{length}
use borrow.Author.Tests.{ne_eqb}
use Rattle.rack.specs.Limits.{lent_hops, lent_words}
use Rattle.std.specs.Prelude.{Err}
use Rattle.rack.specs.declared.refused.Refused.TheVariants.{Lent}
use Rattle.planner.specs.Answer.{answer_of}
use Rattle.planner.specs.Planning.{PlanSays}
use Rattle.rack.proofs.RefusalNumbers.{refusal_numbered}
use Rattle.planner.proofs.PlanAnswer.{plan_says_one, plan_says_found, plan_says_refused}
use Rattle.planner.proofs.PlanPromise.{addresses_found}
use Rattle.planner.proofs.WriteAnswer.{columns_few}
use Rattle.planner.proofs.plan_rack.Goals as goal

pub returns-in_default : goal.returns-in_default
returns-in_default c =
    let z = c.args in
    let says = plan_says_one z.file.now z.words.now z.hops.now (rw (ne_eqb (length z.words.now) lent_words c.in_default.ensures.cases) refl) in
    record { says = says; found = λ a. addresses_found _ _ _ _ _ _ a says }

pub returns-in_default-as_mut_array : goal.returns-in_default-as_mut_array
returns-in_default-as_mut_array c =
    let z = c.args in
    let says : PlanSays z.file.now (answer_of (Err Lent)) z.words.now c.in-Some.words.now z.hops.now z.hops.now = rw c.in-Some.ensures.cases.same
    (plan_says_one z.file.now z.words.now z.hops.now
    (rw (ne_eqb (length z.hops.now) lent_hops c.in_default-as_mut_array.ensures.cases) (and-false (eqb (length z.words.now) lent_words)))) in
    record { says = says; found = λ a. addresses_found _ _ _ _ _ _ a says }

pub overflow_cast-result : goal.overflow_cast-result
overflow_cast-result c = omega (arith, columns_few _ _ _ _ c.in-Ok.ensures)

pub returns-in-Ok : goal.returns-in-Ok
returns-in-Ok c =
    let z = c.args in
    let says = plan_says_found z.file.now _ z.words.now _ z.hops.now _ c.in-Some.ensures.cases.long c.in-Some-as_mut_array.ensures.cases.long c.in-Ok.ensures refl in
    record { says = says; found = λ a. addresses_found _ _ _ _ _ _ a says }

pub returns-in-Err : goal.returns-in-Err
returns-in-Err c =
    let z = c.args in
    let says = plan_says_refused z.file.now _ z.words.now _ z.hops.now _ c.in-Some.ensures.cases.long c.in-Some-as_mut_array.ensures.cases.long
    c.in-Err.ensures _ _ (refusal_numbered c.in-Err.refused) (c.fill.ensures.after (λ y e. e)) (c.fill-in-Err.ensures.after (λ y e. e)) in
    record { says = says; found = λ a. addresses_found _ _ _ _ _ _ a says }
