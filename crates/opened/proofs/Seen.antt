-- Which bytes a call on an opened plan sees, and by which number the calls are refused. Assumes nothing.
use mathlib.Core.Path.{◌≡◌, refl, sym, ap, ◌∙◌}
use mathlib.Core.Bool.{Bool, true, false, ◌&&◌}
use mathlib.Core.List.{List, []}
use mathlib.Core.Logic.{◌≢◌}
use Prim.Native.Nat.{ℕ}
use native.Mathlib.Omega.{arith}
use lib.Dec.{eqb}
use borrow.Author.Tests.{eqb-true, eq-eqb}
use Rattle.rack.specs.Limits.{lent_plan}
use Rattle.rack.specs.PlanFile.{plan_cards, plan_links, plan_columns}
use Rattle.rack.proofs.Logic.{and_left, and_right, by_bool}
use Rattle.reader.specs.Plan.{layout_holds, plan_refusal}
use Rattle.reader.specs.Reading.{layout_refusal}
use Rattle.reader.proofs.AddressPart.{refused_before as card_refused_before, refused_part}
use Rattle.reader.proofs.Promises.{read_measured}
use Rattle.forwarder.specs.Calls.{step_refusal}
use Rattle.plan_totals.specs.Summed.{total_refusal}
use Rattle.plan_totals.proofs.Refusals.{total_refused_before}
use Rattle.plan_changer.proofs.Refused.{refused_before as add_refused_before, off_refused_before}
use Rattle.last_card.proofs.Refusals.{add_in_room, take_off_in_room}
use Rattle.traffic.specs.Traffic.{caller_refusal}
use Rattle.callers.specs.Walking.{caller_walk_refusal}
use Rattle.conference.proofs.Answers.{refused_before as three_refused_before}
use Rattle.carried.specs.Carried.{carries, address_refusal_with}
use Rattle.carried.proofs.Carrying.{carried_bytes_whole, carried_bytes_none}
use Rattle.opened.specs.Opening.{Opened, opened_bytes}
use Rattle.opened.specs.Promises.{SizesCarried}
use Rattle.opened.specs.Promises.{Where13IsTested, TwelveInEveryCall}

-- REFUSED by what reading with the sum says: so is every call that tests 13
module _ (p : Opened) (x : ℕ) (n : x ≢ 0) (e : total_refusal (opened_bytes p) p.total ≡ x) where
  abbrev qs : List ℕ
  qs = opened_bytes p

  abbrev said : ℕ
  said = total_refusal qs p.total

  refused_before : said ≢ 0
  refused_before z = n (sym e ∙ z)

  address_refused : (c : ℕ) → address_refusal_with qs p.total c ≡ x
  address_refused c = card_refused_before said (plan_cards qs) c refused_before ∙ e

  pub refused_where_13_is_tested : Where13IsTested x p
  refused_where_13_is_tested =
      record {
        read = e;
        address = address_refused;
        part = λ c. (refused_part qs c (address_refusal_with qs p.total c) (λ z. n (sym (address_refused c) ∙ z))).1;
        conference = λ a b c. three_refused_before said (plan_cards qs) a b c refused_before ∙ e;
        add = λ c. add_in_room qs p.total c lent_plan refl ∙ add_refused_before said (plan_cards qs) (plan_links qs) c refused_before ∙ e;
        take_off = take_off_in_room qs p.total lent_plan refl ∙ off_refused_before said _ refused_before ∙ e;
      }

-- NO BYTES are 12 in every call
no_bytes_read : plan_refusal [] ≡ 12
unfolding plan_refusal layout_holds
no_bytes_read = refl

no_bytes_stepped : (a b : ℕ) → step_refusal [] a b ≡ 12
unfolding layout_refusal layout_holds step_refusal
no_bytes_stepped a b = refl

-- THE TEST of the sizes carried
module _ (p : Opened) where
  abbrev pub ps : List ℕ
  ps = p.bytes.now

  abbrev pub carried : Bool
  carried = carries ps p.cards p.links p.columns

  pub sizes_carry : layout_holds ps ≡ true → SizesCarried p → carried ≡ true
  unfolding carries
  sizes_carry l z =
      rw (
        l,
        eq-eqb p.cards (plan_cards ps) z.cards,
        eq-eqb p.links (plan_links ps) z.links,
        eq-eqb p.columns (plan_columns ps) z.columns,
      ) refl

  pub carry_sizes : carried ≡ true → (layout_holds ps ≡ true) × SizesCarried p
  unfolding carries
  carry_sizes t =
      let l = layout_holds ps in
      let n = eqb p.cards (plan_cards ps) in
      let m = eqb p.links (plan_links ps) in
      let k = eqb p.columns (plan_columns ps) in
      let links = and_left (l && n && m) k t in
      let cards = and_left (l && n) m links in (
        and_left l n cards,
        record {
          cards = eqb-true p.cards (plan_cards ps) (and_right l n cards);
          links = eqb-true p.links (plan_links ps) (and_right (l && n) m links);
          columns = eqb-true p.columns (plan_columns ps) (and_right (l && n && m) k t);
        },
      )

  seen_none : carried ≡ false → opened_bytes p ≡ []
  seen_none t = carried_bytes_none ps p.cards p.links p.columns t

  unread : carried ≡ false → plan_refusal (opened_bytes p) ≡ 12
  unread t = ap plan_refusal (seen_none t) ∙ no_bytes_read

  pub carried_twelve : carried ≡ false → TwelveInEveryCall p
  unfolding layout_refusal layout_holds caller_refusal caller_walk_refusal
  carried_twelve t =
      let none = seen_none t in
      let e = unread t in
      record {
        reading =
            refused_where_13_is_tested p 12 (λ z. omega arith) (total_refused_before (opened_bytes p) p.total (λ z. omega (arith, e, z)) ∙ e);
        step = λ a b. ap (λ (qs : List ℕ). step_refusal qs a b) none ∙ no_bytes_stepped a b;
        walk = λ a b u f. rw none refl;
      }

  pub layout_whole : layout_holds ps ≡ true → SizesCarried p → opened_bytes p ≡ ps
  layout_whole l z = carried_bytes_whole ps p.cards p.links p.columns (sizes_carry l z)

  pub read_whole : plan_refusal ps ≡ 0 → SizesCarried p → opened_bytes p ≡ ps
  read_whole h = layout_whole (read_measured ps h).layout

  -- what is seen and read is the plan's own bytes, with their sizes
  pub whole_read : plan_refusal (opened_bytes p) ≡ 0 → (opened_bytes p ≡ ps) × SizesCarried p
  whole_read h =
      by_bool carried
      (λ (t : carried ≡ true). (carried_bytes_whole ps p.cards p.links p.columns t, (carry_sizes t).1))
      (λ (t : carried ≡ false). absurd (omega (arith, h, unread t)))
