-- The promises of specs/Promises.antt, proved. Assumes nothing.
use mathlib.Core.Path.{◌≡◌, refl, sym, ap, ◌∙◌, subst}
use mathlib.Core.Bool.{true, false}
use mathlib.Core.Logic.{inl, inr, ⊎_elim}
use mathlib.Core.List.{List}
use Prim.Native.Nat.{ℕ, ◌+◌, ◌≤◌, ◌<◌}
use native.Mathlib.Omega.{arith}
use lib.Dec.{ltb}
use borrow.Author.Tests.{eq-eqb, le-ltb, lt-ltb}
use Rattle.rack.specs.Lists.{one}
use Rattle.rack.specs.Wiring.{Wiring}
use Rattle.rack.specs.Hops.{hops}
use Rattle.rack.specs.PlanFile.{plan_cards, plan_columns, plan_wiring, plan_bit}
use Rattle.rack.proofs.Logic.{true_not_false, by_eq, by_lt}
use Rattle.rack.proofs.Tables.{lowest_passes, lowest_first}
use Rattle.rack.proofs.Hops.{hops_self}
use Rattle.rack.proofs.WiringFile.{wiring_at_cards}
use Rattle.reader.specs.Plan.{plan_refusal}
use Rattle.reader.specs.Promises.{Measured}
use Rattle.reader.proofs.Plan.{plan_refusal_most}
use Rattle.reader.proofs.Promises.{read_measured}
use Rattle.reader.proofs.Measured.{plan_embedding, plan_connected}
use Rattle.conference.specs.Conference.{OnAllThree, between, median, conference, majority}
use Rattle.conference.specs.Conference.{Conference, three_refusal, conference_refusal, ConferenceIs, CardOrNone}
use Rattle.conference.specs.Promises.{BetweenMeans, ConferencePromise, ConferenceRefused, ConferenceOrder, ConferenceRepeated}
use Rattle.conference.proofs.Answers.{SomeOutside, refused_before, some_outside, all_inside, inside_or_outside, clear_inside, answered_inside}
use Rattle.conference.proofs.Medians.{median_tests, tests_median, median_bits, median_once}
use Rattle.conference.proofs.Order.{first_two_exchanged, last_two_exchanged}
use Rattle.conference.proofs.ShortestPaths.{between_on_shortest, on_shortest_between}

pub between_means : BetweenMeans
unfolding BetweenMeans
between_means w a x b whole ha hx hb = (between_on_shortest w a x b whole ha hx hb, on_shortest_between w a x b)

-- AN ANSWER that is no refusal, on a plan whose bits measure its wiring
module _ (ps : List ℕ) (measured : Measured ps) (a b c : ℕ) (ha : a < plan_cards ps) (hb : b < plan_cards ps) (hc : c < plan_cards ps) where
  abbrev w : Wiring
  w = plan_wiring ps

  abbrev lowest_median : ℕ
  lowest_median = conference w a b c

  abbrev n : ℕ
  n = plan_cards ps

  card : (x : ℕ) → x < n → x < w.cards
  card x h = omega (arith, wiring_at_cards 6 ps)

  -- the test and its meaning
  on_all : (x : ℕ) → x < n → median w a b c x ≡ true → OnAllThree w a b c x
  on_all x h e =
      let whole = plan_connected ps measured in
      let t = median_tests w a b c x e in (
        between_on_shortest w a x b whole (card a ha) (card x h) (card b hb) t.0,
        between_on_shortest w a x c whole (card a ha) (card x h) (card c hc) t.1,
        between_on_shortest w b x c whole (card b hb) (card x h) (card c hc) t.2,
      )

  passes : (x : ℕ) → OnAllThree w a b c x → median w a b c x ≡ true
  passes x (p, q, t) = tests_median w a b c x (on_shortest_between w a x b p, on_shortest_between w a x c q, on_shortest_between w b x c t)

  -- from the plan's bits, which embed the wiring inside
  only_median : (x y : ℕ) → x < n → y < n → median w a b c x ≡ true → median w a b c y ≡ true → x ≡ y
  only_median x y hx hy =
      median_once w (plan_columns ps) (plan_bit ps) (plan_embedding ps measured) a b c (card a ha) (card b hb) (card c hc)
      x y (card x hx) (card y hy)

  majority_bits : (x : ℕ) → x < n → median w a b c x ≡ true → (j : ℕ) → j < plan_columns ps
      → plan_bit ps x j ≡ majority (plan_bit ps a j) (plan_bit ps b j) (plan_bit ps c j)
  majority_bits x hx =
      median_bits w (plan_columns ps) (plan_bit ps) (plan_embedding ps measured) a b c (card a ha) (card b hb) (card c hc)
      x (card x hx)

  module _ (r : Conference) (s : ConferenceIs 0 ps a b c r) where
    found : r.found ≡ one (ltb lowest_median n)
    found = s.found ∙ rw s.number refl

    module _ (l : lowest_median < n) where
      is_found : r.found ≡ 1
      is_found = found ∙ ap one (lt-ltb lowest_median n l)

      is_lowest : r.card ≡ lowest_median
      is_lowest = s.card ∙ rw is_found refl

      lowest_tested : median w a b c lowest_median ≡ true
      unfolding conference
      lowest_tested = lowest_passes w.cards (median w a b c) (card lowest_median l)

      card_answered : CardOrNone ps a b c r
      card_answered =
          let all = on_all lowest_median l lowest_tested in
          record {
            either = inr is_found;
            inside = λ e. omega (arith, is_lowest);
            on_all = λ e. subst (OnAllThree w a b c) (sym is_lowest) all;
            only = λ e x hx o. only_median x lowest_median hx l (passes x o) lowest_tested ∙ sym is_lowest;
            bits = λ e. rw is_lowest (majority_bits lowest_median l lowest_tested);
            none = ((λ e. absurd (omega (arith, is_found))), λ never. absurd (never lowest_median l all));
          }

    module _ (l : n ≤ lowest_median) where
      not_found : r.found ≡ 0
      not_found = found ∙ ap one (le-ltb lowest_median n l)

      no_median : (x : ℕ) → x < n → median w a b c x ≡ false
      unfolding conference
      no_median x h = lowest_first w.cards (median w a b c) x (omega arith)

      never : {C : Type 0} → r.found ≡ 1 → C
      never e = absurd (omega (arith, not_found))

      none_answered : CardOrNone ps a b c r
      none_answered =
          record {
            either = inl not_found;
            inside = λ e. never e;
            on_all = λ e. never e;
            only = λ e. never e;
            bits = λ e. never e;
            none = ((λ e x h o. true_not_false (median w a b c x) (passes x o) (no_median x h)), λ _. not_found);
          }

    pub card_or_none : CardOrNone ps a b c r
    card_or_none = by_lt lowest_median n card_answered none_answered

-- what was said with the number x before it, together with what follows of it
pub with_promise : (ps : List ℕ) (a b c x : ℕ) → (x ≡ 0 → Measured ps) → (r : Conference) → ConferenceIs (three_refusal x (plan_cards ps) a b c) ps a b c r
    → ConferenceIs (three_refusal x (plan_cards ps) a b c) ps a b c r × (r.number ≡ 0 → CardOrNone ps a b c r)
with_promise ps a b c x read r s = (s, promised)
  where
    promised : r.number ≡ 0 → CardOrNone ps a b c r
    promised z =
        let clear = sym s.number ∙ z in
        let (e, ha, hb, hc) = clear_inside x (plan_cards ps) a b c clear in
        card_or_none ps (read e) a b c ha hb hc r (rw clear at s)

pub conference_promise : ConferencePromise
unfolding ConferencePromise conference_refusal
conference_promise ps a b c r s = (with_promise ps a b c (plan_refusal ps) (read_measured ps) r s).1

-- THE REFUSALS
pub conference_refused : ConferenceRefused
unfolding ConferenceRefused conference_refusal
conference_refused ps a b c =
    let x = plan_refusal ps in
    let n = plan_cards ps in (
      (clear_inside x n a b c, λ (e, ha, hb, hc). all_inside x n a b c e ha hb hc),
      (outside, λ (e, o). some_outside x n a b c e o),
      refused_before x n a b c,
    )
  where
    outside : three_refusal (plan_refusal ps) (plan_cards ps) a b c ≡ 14 → (plan_refusal ps ≡ 0) × SomeOutside (plan_cards ps) a b c
    outside h =
        let x = plan_refusal ps in
        let n = plan_cards ps in
        by_eq x 0
        (λ e. (e, inside_or_outside n a b c (λ ha hb hc. absurd (omega (arith, h, all_inside x n a b c e ha hb hc))) (λ o. o)))
        (λ d. absurd (omega (arith, h, refused_before x n a b c d, plan_refusal_most ps)))

-- A CARD NAMED TWICE is on the path of no links from it to itself, and at the end of every other
named_twice : (w : Wiring) (a b : ℕ) → median w a a b a ≡ true
unfolding between
named_twice w a b =
    let self = hops_self w a in
    let ends : between w a a b ≡ true = eq-eqb (hops w a a + hops w a b) (hops w a b) (omega arith) in
    tests_median w a a b a (eq-eqb (hops w a a + hops w a a) (hops w a a) (omega arith), ends, ends)

pub conference_repeated : ConferenceRepeated
unfolding ConferenceRepeated ConferencePromise
conference_repeated ps a b r s z =
    let p = conference_promise ps a a b r s z in
    let (e, h, _, hb) = answered_inside ps a a b (sym s.number ∙ z) in
    let all = on_all ps (read_measured ps e) a a b h h hb a h (named_twice (plan_wiring ps) a b) in
    ⊎_elim (λ e. absurd (p.none.0 e a h all)) (λ e. (e, sym (p.only e a h all))) p.either

pub conference_order : ConferenceOrder
unfolding ConferenceOrder
conference_order ps a b c r s h = (first_two_exchanged ps a b c r s h, last_two_exchanged ps a b c r s h)
