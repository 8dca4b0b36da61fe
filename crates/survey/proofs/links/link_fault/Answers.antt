-- Each return stands where the tests before it passed, and these are the tests of `link_fault` in their order. The marks say how many of the first links join the two cards. Assumes nothing.
use mathlib.Core.Path.{ap}
use mathlib.Core.Logic.{⊎_elim}
use Prim.Native.Nat.{ℕ}
use native.Mathlib.Omega.{arith}
use Rattle.rack.specs.Refusals.{refusal}
use Rattle.rack.proofs.LinkFaults.{fault_first, fault_second, fault_same_card, fault_parallel, fault_none}
use Rattle.survey.proofs.Forms.{cards_are, links_are}
use Rattle.survey.proofs.Marks.{more_marked}
use Rattle.survey.proofs.links.link_fault.Goals as goal

pub returns-then-file-p-clause-refuses : goal.returns-then-file-p-clause-refuses
returns-then-file-p-clause-refuses c =
    let f = cards_are _ _ _ c.args.file.sizes in
    ap (λ (x : ℕ). refusal x c.args.i)
    (⊎_elim
    (λ z. fault_first _ _ _ _ c.ends-p.ensures.first c.ends-p.ensures.second (omega arith))
    (λ z. fault_second _ _ _ _ c.ends-p.ensures.first c.ends-p.ensures.second (omega arith)) c.then-file-p.either)

pub returns-then-p-q-clause-refuses : goal.returns-then-p-q-clause-refuses
returns-then-p-q-clause-refuses c =
    let f = cards_are _ _ _ c.args.file.sizes in
    ap (λ (x : ℕ). refusal x c.args.i)
    (fault_same_card _ _ _ _ c.ends-p.ensures.first c.ends-p.ensures.second (omega arith) (omega arith) c.if-p-q.true)

pub returns-then-earlier-ge-MOST_PARALLEL-clause-refuses : goal.returns-then-earlier-ge-MOST_PARALLEL-clause-refuses
returns-then-earlier-ge-MOST_PARALLEL-clause-refuses c =
    let f = cards_are _ _ _ c.args.file.sizes in
    let e = c.ends-p in
    let mark = c.requires.1.is e.result.0 e.result.1 (omega (arith, c.args.file.sizes.few)) (omega (arith, c.args.file.sizes.few)) c.if-p-q.false in
    ap (λ (x : ℕ). refusal x c.args.i)
    (fault_parallel _ _ _ _ e.ensures.first e.ensures.second (omega arith) (omega arith) c.if-p-q.false (omega arith))

pub returns-clause-refuses : goal.returns-clause-refuses
returns-clause-refuses c =
    let f = cards_are _ _ _ c.args.file.sizes in
    let e = c.ends-p in
    let mark = c.requires.1.is e.result.0 e.result.1 (omega (arith, c.args.file.sizes.few)) (omega (arith, c.args.file.sizes.few)) c.if-p-q.false in
    fault_none _ _ _ _ e.ensures.first e.ensures.second (omega arith) (omega arith) c.if-p-q.false (omega arith)

pub returns-clause-marks : goal.returns-clause-marks
returns-clause-marks c =
    more_marked _ _ (omega (arith, links_are _ _ _ c.args.file.sizes)) _ _ _ c.ends-p.ensures.first c.ends-p.ensures.second
    (omega (arith, c.args.file.sizes.few)) (omega (arith, c.args.file.sizes.few)) c.if-p-q.false c.requires.1
