-- The order of the three callers: no test depends on it, so no answer does. Assumes nothing.
use mathlib.Core.Path.{◌≡◌, refl, sym, ap₂, ◌∙◌}
use mathlib.Core.Bool.{Bool, true, false, ◌&&◌, ◌||◌, cond, and_comm, or_comm}
use mathlib.Core.Logic.{◌≢◌}
use mathlib.Core.List.{List}
use Prim.Native.Nat.{ℕ, ◌<◌}
use native.Mathlib.Nat.{add_comm}
use native.Mathlib.Omega.{arith}
use lib.Dec.{eqb, leb, ltb}
use borrow.Author.Tests.{ne_eqb}
use Rattle.rack.specs.Lists.{one}
use Rattle.rack.specs.Wiring.{Wiring}
use Rattle.rack.specs.Hops.{hops}
use Rattle.rack.specs.PlanFile.{plan_cards, plan_wiring}
use Rattle.rack.proofs.Logic.{by_eq}
use Rattle.rack.proofs.Tables.{lowest_ext}
use Rattle.rack.proofs.Hops.{hops_sym}
use Rattle.rack.proofs.WiringFile.{wiring_at_cards}
use Rattle.conference.specs.Conference.{between, median, conference, three_refusal, conference_refusal, Conference, ConferenceSays}
use Rattle.conference.proofs.Answers.{answered_inside}

and_exchange : (x y z : Bool) → (x && y && z) ≡ (x && z && y)
and_exchange true y z = and_comm y z
and_exchange false y z = refl

or_exchange : (x y z : Bool) → (x || y || z) ≡ (x || z || y)
or_exchange true y z = refl
or_exchange false y z = or_comm y z

-- THE CARD
module _ (w : Wiring) where
  between_sym : (a x b : ℕ) → a < w.cards → x < w.cards → b < w.cards → between w a x b ≡ between w b x a
  unfolding between
  between_sym a x b ha hx hb =
      rw (hops_sym w b x hb hx, hops_sym w x a hx ha, hops_sym w b a hb ha, add_comm (hops w x b) (hops w a x)) refl

  module _ (a b c : ℕ) (ha : a < w.cards) (hb : b < w.cards) (hc : c < w.cards) where
    first_second : conference w a b c ≡ conference w b a c
    unfolding conference median
    first_second =
        lowest_ext w.cards (median w a b c) (median w b a c)
        (λ x hx. rw (between_sym a x b ha hx hb) (and_exchange (between w b x a) (between w a x c) (between w b x c)))

    second_third : conference w a b c ≡ conference w a c b
    unfolding conference median
    second_third =
        lowest_ext w.cards (median w a b c) (median w a c b)
        (λ x hx. ap₂ ◌&&◌ (and_comm (between w a x b) (between w a x c)) (between_sym b x c hb hx hc))

-- THE ANSWER
answer : (number found card : ℕ) → Conference
answer x f y = record { number = x; found = f; card = y }

module _ (r s : Conference) (number : r.number ≡ s.number) (found : r.found ≡ s.found) (card : r.card ≡ s.card) where
  same_fields : answer r.number r.found r.card ≡ answer s.number s.found s.card
  same_fields = cc (number, found, card)

  same_answer : r ≡ s
  unfolding answer
  same_answer = same_fields

refused_zeros : (ps : List ℕ) (a b c : ℕ) (r : Conference) → ConferenceSays ps a b c r → r.number ≢ 0
    → (r.found ≡ 0) × (r.card ≡ 0)
refused_zeros ps a b c r says n =
    let found : r.found ≡ 0 = says.found ∙ rw (ne_eqb r.number 0 n) refl in
    (found, says.card ∙ rw found refl)

-- two answers are the same where the refusals are, and the cards behind them
module _ (ps : List ℕ) (a b c d e f : ℕ) (r s : Conference) (hr : ConferenceSays ps a b c r) (hs : ConferenceSays ps d e f s)
    (refusals : conference_refusal ps a b c ≡ conference_refusal ps d e f) where
  numbers : r.number ≡ s.number
  numbers = hr.number ∙ refusals ∙ sym hs.number

  alike_answered : conference (plan_wiring ps) a b c ≡ conference (plan_wiring ps) d e f → r ≡ s
  alike_answered g =
      let found = hr.found ∙ ap₂ (λ (x y : ℕ). cond (eqb x 0) (one (ltb y (plan_cards ps))) 0) numbers g ∙ sym hs.found in
      same_answer r s numbers found (hr.card ∙ ap₂ (λ (x y : ℕ). cond (eqb x 1) y 0) found g ∙ sym hs.card)

  alike_refused : r.number ≢ 0 → r ≡ s
  alike_refused n =
      let x = refused_zeros ps a b c r hr n in
      let y = refused_zeros ps d e f s hs (λ z. n (numbers ∙ z)) in
      same_answer r s numbers (x.0 ∙ sym y.0) (x.1 ∙ sym y.1)

  alike : (a < plan_cards ps → b < plan_cards ps → c < plan_cards ps
      → conference (plan_wiring ps) a b c ≡ conference (plan_wiring ps) d e f) → r ≡ s
  alike g =
      by_eq r.number 0
      (λ z. let i = answered_inside ps a b c (sym hr.number ∙ z) in alike_answered (g i.1 i.2 i.3))
      alike_refused

module _ (ps : List ℕ) (a b c : ℕ) (r s : Conference) (hr : ConferenceSays ps a b c r) where
  pub first_two_exchanged : ConferenceSays ps b a c s → r ≡ s
  unfolding conference_refusal three_refusal
  first_two_exchanged hs =
      let n = plan_cards ps in
      let cards = wiring_at_cards 6 ps in
      alike ps a b c b a c r s hr hs (rw (or_comm (leb n a) (leb n b)) refl)
      (λ ha hb hc. first_second (plan_wiring ps) a b c (omega arith) (omega arith) (omega arith))

  pub last_two_exchanged : ConferenceSays ps a c b s → r ≡ s
  unfolding conference_refusal three_refusal
  last_two_exchanged hs =
      let n = plan_cards ps in
      let cards = wiring_at_cards 6 ps in
      alike ps a b c a c b r s hr hs (rw (or_exchange (leb n a) (leb n b) (leb n c)) refl)
      (λ ha hb hc. second_third (plan_wiring ps) a b c (omega arith) (omega arith) (omega arith))
