-- What the calls on a plan see that was opened for them. Assumes nothing.
use mathlib.Core.Path.{◌≡◌, refl, sym, ap, ◌∙◌}
use mathlib.Core.List.{List, []}
use Prim.Native.Nat.{ℕ}
use borrow.Author.Tests.{eq-eqb, ne_eqb}
use Rattle.std.specs.Prelude.{Result, Ok, Err}
use Rattle.std.specs.Result.{result_unwrap_or}
use Rattle.rack.specs.declared.refused.Refused.{Refused}
use Rattle.rack.proofs.RefusalNumbers.{refusal_numbered}
use Rattle.reader.specs.Plan.{layout_holds, plan_refusal}
use Rattle.carried.specs.Carried.{carries, carried_bytes, seen}
use Rattle.carried.specs.declared.Opened.{Opened}
use Rattle.opened.specs.Opening.{OpeningSays, opened_of}
use Rattle.opened.specs.Promises.{OpeningWhole}
use Rattle.opened.proofs.Promises.{opening_whole}
use Rattle.test_calls.specs.Answers.{opened_for}

-- of no bytes, none are seen
none_seen : (n m k : ℕ) → carried_bytes [] n m k ≡ []
unfolding carried_bytes carries layout_holds
none_seen n m k = refl

-- the opened plan is seen whole, and where there is none, none of the bytes of another that has none
pub opened_seen : (ps : List ℕ) (at : ℕ × ℕ) (r : Result Opened Refused) (none : Opened) → none.bytes.now ≡ [] → OpeningSays ps at (opened_of at r)
    → seen (result_unwrap_or r none) ≡ opened_for ps
unfolding opened_for OpeningWhole
opened_seen ps at (Ok p) none e s =
    (opening_whole ps at (opened_of at (Ok p)) s refl).3 ∙ sym (rw (eq-eqb (plan_refusal ps) 0 (sym s.number)) refl)
opened_seen ps at (Err refused) none e s =
    let n = ne_eqb (plan_refusal ps) 0 (λ z. refusal_numbered refused (s.number ∙ z)) in
    ap (λ (bs : List ℕ). carried_bytes bs none.cards none.links none.columns) e ∙ none_seen none.cards none.links none.columns ∙ sym (rw n refl)
