-- 12 comes from the layout, 13 from the content; a plan that passes both is measured. Assumes nothing.
use mathlib.Core.Path.{refl, sym}
use Rattle.std.proofs.lemmas.Result.{err_from_is_err_and}
use Rattle.reader.proofs.Reading.{says_layout}
use Rattle.rack.proofs.RefusalNumbers.{refusal_numbered}
use Rattle.reader.proofs.ReadAnswer.{read_says_layout, read_says_sizes, read_says_content, content_measured}
use Rattle.reader.proofs.read.read_plan.Goals as goal

pub returns-in_err-sized-clause-says : goal.returns-in_err-sized-clause-says
returns-in_err-sized-clause-says c =
    let p = err_from_is_err_and c.from_residual.result c.from_residual.ensures.1 in
    rw (p.1, p.2) (read_says_layout _ _ c.in_err-sized.ensures.says (refusal_numbered _))

pub invariant_of-result : goal.invariant_of-result
invariant_of-result c =
    record { measured = content_measured _ c.in_ok-sized.sized.sized (sym (rw c.if-content_holds.true at c.content_holds.ensures)) }

pub returns-then-content_holds : goal.returns-then-content_holds
returns-then-content_holds c =
    let layout = c.in_ok-sized.ensures in
    record {
      says = read_says_sizes c.args.plan.now _ layout.says refl (sym (rw (c.if-content_holds.true, layout.bytes) at c.content_holds.ensures));
      bytes = layout.bytes;
    }

pub returns-else-content_holds-clause-says : goal.returns-else-content_holds-clause-says
returns-else-content_holds-clause-says c =
    let layout = c.in_ok-sized.ensures in
    read_says_content c.args.plan.now _ (says_layout _ _ layout.says refl)
    (sym (rw (c.if-content_holds.false, layout.bytes) at c.content_holds.ensures)) refl
