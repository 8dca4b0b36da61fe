-- The promises of specs/Promises.antt, proved. Assumes nothing.
use mathlib.Core.Path.{◌≡◌, refl, sym, ap, ◌∙◌}
use mathlib.Core.Bool.{true}
use mathlib.Core.List.{List}
use Prim.Native.Nat.{ℕ, ◌<◌}
use native.Mathlib.Omega.{arith}
use lib.ListN.{length, take}
use Rattle.rack.specs.Limits.{lent_plan}
use Rattle.rack.specs.PlanFile.{plan_cards, plan_links, plan_wiring}
use Rattle.rack.proofs.Logic.{not_true_false}
use Rattle.rack.proofs.WiringFile.{wiring_at_cards}
use Rattle.planner.specs.PlanBytes.{plan_bytes}
use Rattle.reader.proofs.Plan.{plan_clear}
use Rattle.pendant.specs.Pendant.{with_card, without_card, last_hangs}
use Rattle.pendant.proofs.Hanging.{pendant_hangs, pendant_without}
use Rattle.totals.specs.Totals.{total_hops}
use Rattle.plan_totals.specs.Summed.{total_refusal}
use Rattle.plan_totals.proofs.Refusals.{total_refused_before, other_total, clear_total, total_clear}
use Rattle.plan_changer.specs.Changing.{off_refusal}
use Rattle.plan_changer.proofs.Refused.{Full, refused_before, card_outside, full_refused, card_fits}
use Rattle.plan_changer.proofs.Refused.{off_refused_before, not_hanging_refused, hanging_clear}
use Rattle.last_card.specs.Calls.{SummedPlan, AddSays, TakeOffSays}
use Rattle.last_card.specs.Promises.{ReadWith, AddRefused, TakeOffRefused, RefusalsKeep, AddedIsRead, TakenOffIsRead}
use Rattle.last_card.specs.Promises.{AddedAsWritten, TakenOffAsWritten, AddedTotal, TakenOffTotal, TakingOffUndoes}
use Rattle.last_card.proofs.ChangedPlans.{pendant_more, pendant_less}
use Rattle.last_card.proofs.ChangedSums.{total_more, total_left}
use Rattle.last_card.proofs.Refusals.{add_no_room, add_in_room, fits_of_0, outside_of_14, full_of_16, add_clear}
use Rattle.last_card.proofs.Refusals.{take_off_no_room, take_off_in_room, hanging_of_0, not_hanging_of_17, take_off_clear}
use Rattle.last_card.proofs.Planned.{Planned, added_planned, taken_off_planned}
use Rattle.last_card.proofs.Planned.{refused_keeps, refused_sum_zero, not_refused, length_left, part_left, sum_left, part_read, as_written}

-- THE NUMBERS
read_clear : (ps : List ℕ) (t : ℕ) → ReadWith ps t → total_refusal ps t ≡ 0
read_clear ps t read = clear_total ps t read.0 read.1

pub add_refused : AddRefused
unfolding AddRefused
add_refused ps t c =
    let x = total_refusal ps t in
    let n = plan_cards ps in
    let m = plan_links ps in
    rw (add_in_room ps t c lent_plan refl) (
      (fits_of_0 ps t c, λ (read, l, f). card_fits x n m c (read_clear ps t read) l f),
      (outside_of_14 ps t c, λ (read, l). card_outside x n m c (read_clear ps t read) l),
      (full_of_16 ps t c, λ (read, l, f). full_refused x n m c (read_clear ps t read) l f),
      (λ d. refused_before x n m c (λ z. d (total_clear ps t z).0) ∙ total_refused_before ps t d),
      (λ e d. refused_before x n m c (λ z. d (total_clear ps t z).1) ∙ other_total ps t e d),
      add_no_room ps t c,
    )

pub take_off_refused : TakeOffRefused
unfolding TakeOffRefused
take_off_refused ps t =
    let x = total_refusal ps t in
    let hangs = last_hangs (plan_wiring ps) in
    rw (take_off_in_room ps t lent_plan refl) (
      (hanging_of_0 ps t, λ (read, b). hanging_clear x hangs (read_clear ps t read) b),
      (not_hanging_of_17 ps t, λ (read, b). not_hanging_refused x hangs (read_clear ps t read) b),
      only_card,
      (λ d. off_refused_before x hangs (λ z. d (total_clear ps t z).0) ∙ total_refused_before ps t d),
      (λ e d. off_refused_before x hangs (λ z. d (total_clear ps t z).1) ∙ other_total ps t e d),
      take_off_no_room ps t,
    )
  where
    only_card : ReadWith ps t → plan_cards ps ≡ 1 → off_refusal (total_refusal ps t) (last_hangs (plan_wiring ps)) ≡ 17
    only_card read one =
        let hangs = last_hangs (plan_wiring ps) in
        not_hanging_refused (total_refusal ps t) hangs (read_clear ps t read) (not_true_false hangs (λ b.
        let pd = pendant_less ps read.0 b in
        omega (arith, pd.inside, pd.cards, wiring_at_cards 6 ps)))

pub refusals_keep : RefusalsKeep
unfolding RefusalsKeep
refusals_keep ps t r output output_now d = (
  (λ c says. let k = refused_keeps says.plan d in (k.0, refused_sum_zero says d, k.1)),
  (λ says. let k = refused_keeps says.plan d in (k.0, refused_sum_zero says d, k.1)),
)

-- A CARD ADDED
module _ (ps : List ℕ) (t c : ℕ) (r : SummedPlan) (output output_now : List ℕ) (says : AddSays ps t c r output output_now) (z : r.number ≡ 0) where
  clear : (length output ≡ lent_plan) × ReadWith ps t × (c < plan_cards ps) × (Full (plan_cards ps) (plan_links ps) → ⊥)
  clear = add_clear ps t c (length output) (not_refused says.plan z)

  added : Planned (with_card (plan_wiring ps) c)
  added = added_planned ps clear.1.0 c clear.2 clear.3

pub added_is_read : AddedIsRead
unfolding AddedIsRead
added_is_read ps t c r s output output_now says z reads =
    let p = part_read says z (added ps t c r output output_now says z) in
    (reads.number ∙ p.0, p.1, p.2)

pub added_as_written : AddedAsWritten
unfolding AddedAsWritten
added_as_written ps t c r a output output_now other other_now says z lent writes =
    as_written says z (added ps t c r output output_now says z) (clear ps t c r output output_now says z).0 a other other_now lent writes

pub added_total : AddedTotal
unfolding AddedTotal
added_total ps t c r output output_now says z =
    let h = clear ps t c r output output_now says z in
    sum_left says z ∙ sym (total_more ps t h.1 c h.2)

-- THE LAST CARD TAKEN OFF
module _ (ps : List ℕ) (t : ℕ) (r : SummedPlan) (output output_now : List ℕ) (says : TakeOffSays ps t r output output_now) (z : r.number ≡ 0) where
  hanging : (length output ≡ lent_plan) × ReadWith ps t × (last_hangs (plan_wiring ps) ≡ true)
  hanging = take_off_clear ps t (length output) (not_refused says.plan z)

  taken_off : Planned (without_card (plan_wiring ps))
  taken_off = taken_off_planned ps hanging.1.0 hanging.2

pub taken_off_is_read : TakenOffIsRead
unfolding TakenOffIsRead
taken_off_is_read ps t r s output output_now says z reads =
    let p = part_read says z (taken_off ps t r output output_now says z) in
    (reads.number ∙ p.0, p.1, p.2)

pub taken_off_as_written : TakenOffAsWritten
unfolding TakenOffAsWritten
taken_off_as_written ps t r a output output_now other other_now says z lent writes =
    as_written says z (taken_off ps t r output output_now says z) (hanging ps t r output output_now says z).0 a other other_now lent writes

pub taken_off_total : TakenOffTotal
unfolding TakenOffTotal
taken_off_total ps t r output output_now says z =
    let h = hanging ps t r output output_now says z in
    rw (sum_left says z) (total_left ps t h.1 h.2)

-- TAKING OFF what was added
pub taking_off_undoes : TakingOffUndoes
unfolding TakingOffUndoes
taking_off_undoes ps t c r s output output_now other other_now says z lent off =
    let new = take r.length output_now in
    let h = clear ps t c r output output_now says z in
    let pd = pendant_more ps h.1.0 c h.2 in
    let p = part_read says z (added ps t c r output output_now says z) in
    let number : s.number ≡ 0 =
    off.plan.number ∙ take_off_in_room new r.total (length other) lent
    ∙ hanging_clear _ _ (clear_total new r.total p.0 p.2) (ap last_hangs p.1 ∙ pendant_hangs pd) in
    let rack : without_card (plan_wiring new) ≡ plan_wiring ps = ap without_card p.1 ∙ pendant_without pd in
    let back : plan_bytes (without_card (plan_wiring new)) ≡ ps = ap plan_bytes rack ∙ (plan_clear ps h.1.0).2 in (
      number,
      length_left off.plan number ∙ ap length back,
      part_left off.plan number ∙ back,
      sum_left off number ∙ ap total_hops rack ∙ sym h.1.1,
    )
