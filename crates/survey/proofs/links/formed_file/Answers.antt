-- The lowest link in fault is said; where none is, every link joins two different cards. Assumes nothing.
use mathlib.Core.Path.{ap, sym, ◌∙◌}
use native.Mathlib.Omega.{arith}
use Rattle.std.proofs.lemmas.Result.{err_from_is_err_and}
use Rattle.rack.specs.Refusals.{Refusal}
use Rattle.rack.proofs.LinkFaults.{clear_none, clear_more, clear_refusal, clear_all}
use Rattle.survey.proofs.Forms.{formed, links_are}
use Rattle.rack.proofs.RefusalNumbers.{refusal_numbered}
use Rattle.survey.proofs.Marks.{none_marked}
use Rattle.survey.proofs.links.formed_file.Goals as goal

pub loop-i-init : goal.loop-i-init
loop-i-init c = (none_marked _ _ (rw c.told-marks at (c.fill.ensures.after (λ y e. e))), clear_none _)

pub loop-i-preserved : goal.loop-i-preserved
loop-i-preserved c = (c.in_ok-link_fault.ensures.marks, clear_more _ _ c.loop-i.invariant.1 c.in_ok-link_fault.ensures.refuses)

pub returns-in_err-link_fault-clause-refuses : goal.returns-in_err-link_fault-clause-refuses
returns-in_err-link_fault-clause-refuses c =
    let p = err_from_is_err_and c.from_residual.result c.from_residual.ensures.1 in
    let e = c.in_err-link_fault.ensures.refuses in
    rw (p.1, p.2)
    (clear_refusal _ _ (omega (arith, links_are _ _ _ c.args.file.sizes)) c.loop-i.invariant.1
    (λ z. refusal_numbered c.in_err-link_fault.field-0.0 (sym (ap (λ (f : Refusal). f.number) e) ∙ z)) ∙ e)

pub invariant_of-result : goal.invariant_of-result
invariant_of-result c =
    record { formed = formed _ _ _ c.args.file.sizes (ap (λ (f : Refusal). f.number) (clear_all _ _ (omega (arith, links_are _ _ _ c.args.file.sizes)) c.loop-i.invariant.1)) }

pub returns-clause-refuses : goal.returns-clause-refuses
returns-clause-refuses c =
    ap (λ (f : Refusal). f.number) (clear_all _ _ (omega (arith, links_are _ _ _ c.args.file.sizes)) c.loop-i.invariant.1)
