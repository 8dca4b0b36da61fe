-- The promises of specs/Promises.antt, proved. Assumes nothing.
use mathlib.Core.Path.{◌≡◌, refl, sym, ap, ◌∙◌, subst}
use mathlib.Core.Bool.{true, false, cond}
use mathlib.Core.List.{List, []}
use mathlib.Core.Logic.{◌≢◌}
use Prim.Native.Nat.{ℕ, ◌≤◌, ◌<◌}
use native.Mathlib.Omega.{arith}
use lib.Dec.{eqb}
use lib.ListN.{take}
use borrow.Author.Tests.{eq-eqb, ne_eqb}
use Rattle.rack.specs.PlanFile.{plan_cards, plan_links, plan_columns, plan_wiring}
use Rattle.rack.proofs.Logic.{not_true_false, by_eq, by_lt}
use Rattle.reader.specs.Plan.{layout_holds, plan_refusal}
use Rattle.reader.specs.Reading.{Sizes, card_refusal, address_refusal, PartIs, ReadSays}
use Rattle.reader.proofs.AddressPart.{refused_before as card_refused_before, card_outside, card_inside, refused_part}
use Rattle.forwarder.specs.Calls.{step_refusal}
use Rattle.totals.specs.Totals.{total_hops}
use Rattle.plan_totals.specs.Summed.{total_refusal}
use Rattle.plan_totals.proofs.Refusals.{other_total, clear_total, total_clear, total_refusal_most}
use Rattle.last_card.specs.Calls.{AddSays, TakeOffSays}
use Rattle.last_card.specs.Promises.{AddedIsRead, TakenOffIsRead}
use Rattle.last_card.proofs.Promises.{added_is_read, taken_off_is_read}
use Rattle.crossing.specs.Crossing.{FrameStepSays}
use Rattle.callers.specs.Walking.{caller_walk_refusal, CallerWalkSays}
use Rattle.conference.specs.Conference.{three_refusal, conference_refusal, ConferenceIs}
use Rattle.carried.specs.Carried.{carries, address_refusal_with, WalkWithArrival}
use Rattle.opened.specs.Opening.{Opened, opened_bytes, OpeningSays}
use Rattle.opened.specs.Promises.{SizesCarried, SumCarried, CarriesExactly, OpeningWhole, RefusedOpeningEmpty}
use Rattle.opened.specs.Promises.{RefusedOpening, OtherSizes, OtherSum, SumUnseen}
use Rattle.opened.specs.Promises.{OpenedFrameArrives, OpenedStepAsBytes, OpenedWalkAsBytes, OpenedConferenceAsBytes, OpenedChangeAsBytes, ChangedOpens}
use Rattle.opened.specs.Promises.{OpenedAddressAsBytes, OpenedAddressRefused}
use Rattle.opened.proofs.Seen.{ps, carried, refused_where_13_is_tested, sizes_carry, carry_sizes, carried_twelve, layout_whole, read_whole, whole_read}

-- THE TEST of the sizes carried
pub carries_exactly : CarriesExactly
unfolding CarriesExactly
carries_exactly p = (carry_sizes p, λ z. sizes_carry p z.0 z.1)

pub other_sizes : OtherSizes
unfolding OtherSizes
other_sizes p h = carried_twelve p (not_true_false (carried p) (λ t. h (carry_sizes p t).1))

-- THE SUM carried
pub other_sum : OtherSum
unfolding OtherSum
other_sum p h z n =
    let whole = read_whole p h z in
    record {
      reading =
          refused_where_13_is_tested p 13 (λ e. omega arith)
          (ap (λ (qs : List ℕ). total_refusal qs p.total) whole ∙ other_total (ps p) p.total h n);
      step = λ a b. ap (λ (qs : List ℕ). step_refusal qs a b) whole;
      walk = λ a b u t room. ap (λ (qs : List ℕ). caller_walk_refusal qs a b u t room) whole;
    }

pub sum_unseen : SumUnseen
unfolding SumUnseen
sum_unseen p q bytes cards links columns = (
  λ a b r says. subst (λ (bs : List ℕ). FrameStepSays bs a b r) seen says,
  λ a b u t r old new says. subst (λ (bs : List ℕ). WalkWithArrival bs a b u t r old new) seen says,
)
  where
    seen : opened_bytes p ≡ opened_bytes q
    seen = rw (bytes, cards, links, columns) refl

-- AN OPENING has the bytes, their sizes and their sum, or none and 0
module _ (qs : List ℕ) (at : ℕ × ℕ) (p : Opened) (s : OpeningSays qs at p) where
  module _ (e : p.number ≡ 0) where
    read : plan_refusal qs ≡ 0
    read = sym s.number ∙ e

    clear : eqb (plan_refusal qs) 0 ≡ true
    clear = eq-eqb (plan_refusal qs) 0 read

    opened_holds_bytes : p.bytes.now ≡ qs
    opened_holds_bytes = s.bytes.bytes ∙ rw clear refl

    opened_sizes : SizesCarried p
    opened_sizes =
        record {
          cards = s.cards ∙ rw (clear, opened_holds_bytes) refl;
          links = s.links ∙ rw (clear, opened_holds_bytes) refl;
          columns = s.columns ∙ rw (clear, opened_holds_bytes) refl;
        }

    opened_sum : p.total ≡ total_hops (plan_wiring qs)
    opened_sum = s.total ∙ rw clear refl

    opened_whole : opened_bytes p ≡ qs
    opened_whole = read_whole p (ap plan_refusal opened_holds_bytes ∙ read) opened_sizes ∙ opened_holds_bytes

  module _ (n : p.number ≢ 0) where
    refused : eqb (plan_refusal qs) 0 ≡ false
    refused = ne_eqb (plan_refusal qs) 0 (λ e. n (s.number ∙ e))

    refused_none : p.bytes.now ≡ []
    refused_none = s.bytes.bytes ∙ rw refused refl

    refused_numbers : (p.cards ≡ 0) × (p.links ≡ 0) × (p.columns ≡ 0) × (p.total ≡ 0)
    refused_numbers = (s.cards ∙ rw refused refl, s.links ∙ rw refused refl, s.columns ∙ rw refused refl, s.total ∙ rw refused refl)

    refused_carries : carried p ≡ false
    unfolding carries layout_holds
    refused_carries = rw refused_none refl

pub opening_whole : OpeningWhole
unfolding OpeningWhole
opening_whole qs at p s e =
    let bytes = opened_holds_bytes qs at p s e in
    (record { place = s.bytes.place; bytes = bytes }, opened_sizes qs at p s e, opened_sum qs at p s e ∙ rw bytes refl, opened_whole qs at p s e)

pub refused_opening_empty : RefusedOpeningEmpty
unfolding RefusedOpeningEmpty
refused_opening_empty qs at p s n =
    let z = refused_numbers qs at p s n in
    (s.number, refused_none qs at p s n, z.0, z.1, z.2, z.3)

pub refused_opening : RefusedOpening
unfolding RefusedOpening
refused_opening qs at p s n = carried_twelve p (refused_carries qs at p s n)

-- THE PLAN'S OWN BYTES
pub opened_frame_arrives : OpenedFrameArrives
unfolding OpenedFrameArrives
opened_frame_arrives p a b u t r old new z f c w =
    (subst (λ (qs : List ℕ). WalkWithArrival qs a b u t r old new) (read_whole p f.frame.read z) w).arrives f c

pub opened_step_as_bytes : OpenedStepAsBytes
unfolding OpenedStepAsBytes
opened_step_as_bytes p a b r l z says = subst (λ (qs : List ℕ). FrameStepSays qs a b r) (layout_whole p l z) says

pub opened_walk_as_bytes : OpenedWalkAsBytes
unfolding OpenedWalkAsBytes
opened_walk_as_bytes p a b u t r old new l z w = subst (λ (qs : List ℕ). CallerWalkSays qs a b u t r old new) (layout_whole p l z) w.says

pub opened_conference_as_bytes : OpenedConferenceAsBytes
unfolding OpenedConferenceAsBytes conference_refusal
opened_conference_as_bytes p a b c r h z m says =
    let own = rw (read_whole p h z) at says in
    subst (λ (x : ℕ). ConferenceIs (three_refusal x (plan_cards (ps p)) a b c) (ps p) a b c r) (clear_total (ps p) p.total h m ∙ sym h) own

pub opened_change_as_bytes : OpenedChangeAsBytes
unfolding OpenedChangeAsBytes
opened_change_as_bytes p r old new h z = (
  λ c says. subst (λ (qs : List ℕ). AddSays qs p.total c r old new) (read_whole p h z) says,
  λ says. subst (λ (qs : List ℕ). TakeOffSays qs p.total r old new) (read_whole p h z) says,
)

-- A CHANGED PLAN, opened: reading it has an answer, and opening it finds the sum of the wiring inside
as_read : List ℕ → Sizes
as_read qs =
    let given : ℕ → ℕ = λ x. cond (eqb (plan_refusal qs) 0) x 0 in
    record { number = plan_refusal qs; cards = given (plan_cards qs); links = given (plan_links qs); columns = given (plan_columns qs) }

reading_says : (qs : List ℕ) → ReadSays qs (as_read qs)
unfolding as_read
reading_says qs = record { number = refl; cards = refl; links = refl; columns = refl }

opens_with : (qs : List ℕ) (at : ℕ × ℕ) (q : Opened) (x t : ℕ) → OpeningSays qs at q → x ≡ plan_refusal qs → x ≡ 0 → t ≡ total_hops (plan_wiring qs)
    → (q.number ≡ 0) × (q.total ≡ t)
opens_with qs at q x t opens read e sum =
    (opens.number ∙ sym read ∙ e, opens.total ∙ rw (eq-eqb (plan_refusal qs) 0 (sym read ∙ e)) (sym sum))

pub changed_opens : ChangedOpens
unfolding ChangedOpens AddedIsRead TakenOffIsRead
changed_opens p q at r old new z opens =
    let qs = take r.length new in
    let s = as_read qs in
    let reads = reading_says qs in (
      λ c says. let a = added_is_read (opened_bytes p) p.total c r s old new says z reads in
          opens_with qs at q s.number r.total opens reads.number a.0 a.2,
      λ says. let a = taken_off_is_read (opened_bytes p) p.total r s old new says z reads in
          opens_with qs at q s.number r.total opens reads.number a.0 a.2,
    )

-- AN ADDRESS of an opened plan
pub opened_address_as_bytes : OpenedAddressAsBytes
unfolding OpenedAddressAsBytes address_refusal
opened_address_as_bytes qs at p c r s e z =
    let own = rw (opened_whole qs at p s e, s.bytes.place) at z in
    subst (λ (x : ℕ). PartIs (card_refusal x (plan_cards qs) c) qs at c r)
    (clear_total qs p.total (read qs at p s e) (opened_sum qs at p s e) ∙ sym (read qs at p s e)) own

module _ (p : Opened) (c : ℕ) where
  abbrev seen : List ℕ
  seen = opened_bytes p

  abbrev read_as : ℕ
  read_as = total_refusal seen p.total

  -- 14 is said of a card number that is n or more, and of a plan that was read with its sum
  outside_of_14 : card_refusal read_as (plan_cards seen) c ≡ 14 → (read_as ≡ 0) × (plan_cards seen ≤ c)
  outside_of_14 h =
      by_eq read_as 0
      (λ e. (e, by_lt c (plan_cards seen) (λ (l : c < plan_cards seen). absurd (omega (arith, h, card_inside read_as (plan_cards seen) c e l))) (λ l. l)))
      (λ n. absurd (omega (arith, h, card_refused_before read_as (plan_cards seen) c n, total_refusal_most seen p.total)))

  outside : card_refusal read_as (plan_cards seen) c ≡ 14 → (plan_refusal (ps p) ≡ 0) × SizesCarried p × SumCarried p × (p.cards ≤ c)
  outside h =
      let z = outside_of_14 h in
      let clear = total_clear seen p.total z.0 in
      let whole = whole_read p clear.0 in (
        ap plan_refusal (sym whole.0) ∙ clear.0,
        whole.1,
        clear.1 ∙ ap (λ (bs : List ℕ). total_hops (plan_wiring bs)) whole.0,
        omega (arith, z.1, whole.1.cards, ap plan_cards whole.0),
      )

  no_card : (plan_refusal (ps p) ≡ 0) × SizesCarried p × SumCarried p × (p.cards ≤ c) → card_refusal read_as (plan_cards seen) c ≡ 14
  no_card (h, sizes, sum, l) =
      rw (read_whole p h sizes)
      (card_outside (total_refusal (ps p) p.total) (plan_cards (ps p)) c (clear_total (ps p) p.total h sum) (omega (arith, sizes.cards)))

pub opened_address_refused : OpenedAddressRefused
unfolding OpenedAddressRefused
opened_address_refused p c = (λ n. (refused_part (opened_bytes p) c (address_refusal_with (opened_bytes p) p.total c) n).1, (outside p c, no_card p c))
