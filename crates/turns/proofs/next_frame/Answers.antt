-- Each refusal hands back no frame and counts no turn; else the frame goes whose caller has had fewer turns, and that count is raised.
-- Assumes nothing.
use Rattle.std.proofs.Common.{refl, inl, inr, arith}
use Rattle.std.proofs.lemmas.Result.{err_from_is_err_and}
use Rattle.rack.specs.declared.refused.Refused.TheVariants.{NoCaller, Full}
use Rattle.turns.proofs.Turning.{over_refused, both_fit, full_refused, none_refused, Goes, goes_next, goes_first, goes_second, says_refused, says_short, says_chosen}
use Rattle.turns.proofs.next_frame.Goals as goal
use Rattle.turns.proofs.next_frame.Goals.{then-i-ge-MOST_CALLERS-via-then-i-ge-MOST_CALLERS, then-i-ge-MOST_CALLERS-via-else-i-ge-MOST_CALLERS+then-j-ge-MOST_CALLERS, then-turns-j, else-turns-j}

pub returns-in_err-i : goal.returns-in_err-i
returns-in_err-i c =
    let p = err_from_is_err_and c.from_residual.result c.from_residual.ensures.1 in
    let e = c.in_err-i.ensures in
    says_short _ _ _ (inl e.0) _ (rw (p.1, p.2, e.1) refl)

pub returns-in_err-j : goal.returns-in_err-j
returns-in_err-j c =
    let p = err_from_is_err_and c.from_residual-in_err-j.result c.from_residual-in_err-j.ensures.1 in
    let e = c.in_err-j.ensures in
    says_short _ _ _ (inr e.0) _ (rw (p.1, p.2, e.1) refl)

pub returns-then-i-ge-MOST_CALLERS : goal.returns-then-i-ge-MOST_CALLERS
returns-then-i-ge-MOST_CALLERS c =
    let i = c.in_ok-i.ensures in
    let j = c.in_ok-j.ensures in
    says_refused _ _ _ NoCaller
    (over_refused _ _ _ i.0 j.0
    (elim c.then-i-ge-MOST_CALLERS.branch [
      | then-i-ge-MOST_CALLERS-via-then-i-ge-MOST_CALLERS w ↦ inl (omega (arith, i.2))
      | then-i-ge-MOST_CALLERS-via-else-i-ge-MOST_CALLERS+then-j-ge-MOST_CALLERS w ↦ inr (omega (arith, j.2))
    ]))
    (λ e. omega arith)

pub returns-then-turns-next : goal.returns-then-turns-next
returns-then-turns-next c =
    let i = c.in_ok-i.ensures in
    let j = c.in_ok-j.ensures in
    let goes : Goes c.args.first c.args.second c.args.turns.now c.if-turns-j.next.0 c.if-turns-j.next.1 = elim c.if-turns-j.branch [
      | then-turns-j w ↦ goes_second _ _ _ _ i.2 j.2 (omega arith) w.next-is
      | else-turns-j w ↦ goes_first _ _ _ _ i.2 j.2 (omega arith) w.next-is
    ] in
    says_refused _ _ _ Full
    (full_refused _ _ _ (both_fit _ _ _ _ i j (omega arith) (omega arith)) (rw (goes_next _ _ _ _ _ goes) (omega arith)))
    (λ e. omega arith)

pub returns : goal.returns
returns c =
    let i = c.in_ok-i.ensures in
    let j = c.in_ok-j.ensures in
    let goes : Goes c.args.first c.args.second c.args.turns.now c.if-turns-j.next.0 c.if-turns-j.next.1 = elim c.if-turns-j.branch [
      | then-turns-j w ↦ goes_second _ _ _ _ i.2 j.2 (omega arith) w.next-is
      | else-turns-j w ↦ goes_first _ _ _ _ i.2 j.2 (omega arith) w.next-is
    ] in
    says_chosen _ _ _ _ _ goes
    (none_refused _ _ _ (both_fit _ _ _ _ i j (omega arith) (omega arith)) (rw (goes_next _ _ _ _ _ goes) (omega (arith, c.fits-turns))))
