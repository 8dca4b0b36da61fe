-- A step over a link takes the lowest that joins its card and the far card: a lower one would lead as near, and come first. Assumes nothing.
use mathlib.Core.Path.{◌≡◌, refl}
use mathlib.Core.Bool.{true, false}
use mathlib.Core.Logic.{inl, inr, ◌≢◌}
use mathlib.Core.List.{List, [], ◌∷◌}
use Prim.Native.Nat.{ℕ, ◌<◌}
use native.Mathlib.Omega.{arith}
use borrow.Author.Tests.{eq-eqb, ne_eqb}
use Rattle.rack.specs.Wiring.{Link, link_count, link_at, joins, other_end}
use Rattle.rack.specs.PlanFile.{plan_cards, plan_wiring}
use Rattle.rack.proofs.Logic.{true_not_false, not_true_false, by_eq, by_lt}
use Rattle.rack.proofs.Tables.{lowest_first, lowest_is}
use Rattle.rack.proofs.Paths.{Ends, joins_ends, ends_join, touches_ends, ends_touch, other_end_below}
use Rattle.forwarder.specs.Forwarding.{leads_nearer, step, walk}
use Rattle.forwarder.specs.Calls.{step_refusal}
use Rattle.forwarder.specs.Promises.{StepsAlong, WalkEnds}
use Rattle.forwarder.proofs.Stepping.{Nearer, facts_nearer, next_link, step_here, step_over, step_stuck, Over, step_two}
use Rattle.forwarder.proofs.Promises.{walk_ends}
use Rattle.twins.specs.Promises.{StepLowest, StepAnswerLowest, LowestAlong, WalkLowest}

module _ (ps : List ℕ) (a b : ℕ) where
  -- A TWIN of a link that leads nearer does too
  twin_nearer : (k l : Link) → Nearer ps a b k → Ends a (other_end a k) l → Nearer ps a b l
  twin_nearer k l n ends =
      let far_other : other_end a k ≢ a = λ e. let less = rw e at n.less in omega arith in
      let t = ends_touch a (other_end a k) l ends far_other in
      let far_inside = other_end_below (plan_cards ps) a k n.first n.second in
      let inside = ends_inside (other_end a k) l ends (card_inside (touches_ends a k n.of_a)) far_inside in
      record { first = inside.0; second = inside.1; of_a = t.0; less = rw t.1 n.less }
    where
      card_inside : Ends a (other_end a k) k → a < plan_cards ps
      card_inside (inl e) = omega (arith, e.0, n.first)
      card_inside (inr e) = omega (arith, e.1, n.second)

      ends_inside : (c : ℕ) (l : Link) → Ends a c l → a < plan_cards ps → c < plan_cards ps → (l.first < plan_cards ps) × (l.second < plan_cards ps)
      ends_inside c l (inl e) ha hc = (omega (arith, e.0), omega (arith, e.1))
      ends_inside c l (inr e) ha hc = (omega (arith, e.0), omega (arith, e.1))

  -- THE STEP takes the first that leads nearer
  step_next : (step ps a b).outcome ≡ 2 → (step ps a b).link ≡ next_link ps a b
  step_next e =
      by_eq a b
      (λ z. let k : (step ps a b).outcome ≡ 1 = rw (z, step_here ps b) refl in absurd (omega arith))
      (λ n. by_lt (next_link ps a b) (link_count (plan_wiring ps)) (λ l. rw (step_over ps a b n l) refl)
      (λ l. let k : (step ps a b).outcome ≡ 0 = rw (step_stuck ps a b n l) refl in absurd (omega arith)))

  module _ (e : (step ps a b).outcome ≡ 2) where
    abbrev i : ℕ
    i = (step ps a b).link

    abbrev far : ℕ
    far = (step ps a b).far

    abbrev at : (j : ℕ) → Link
    at j = link_at (plan_wiring ps) j

    over : Over ps a b
    over = step_two ps a b e

    link_joins : joins a far (at i) ≡ true
    link_joins = rw over.far (ends_join a (other_end a (at i)) (at i) (touches_ends a (at i) over.nearer.of_a))

    twin_leads : (j : ℕ) → joins a far (at j) ≡ true → leads_nearer ps a b (at j) ≡ true
    twin_leads j t = facts_nearer ps a b (at j) (twin_nearer (at i) (at j) over.nearer (rw over.far at (joins_ends a far (at j) t)))

    lower_apart : (j : ℕ) → j < i → joins a far (at j) ≡ false
    lower_apart j h =
        not_true_false (joins a far (at j)) (λ t. true_not_false (leads_nearer ps a b (at j)) (twin_leads j t)
        (lowest_first (link_count (plan_wiring ps)) (λ j. leads_nearer ps a b (at j)) j (omega (arith, step_next e))))

pub step_lowest : StepLowest
unfolding StepLowest
step_lowest ps a b e =
    let inside = (over ps a b e).inside in (
      inside,
      lowest_is (link_count (plan_wiring ps)) _ (step ps a b).link (omega arith) (lower_apart ps a b e) (λ h. link_joins ps a b e),
    )

pub step_answer_lowest : StepAnswerLowest
unfolding StepAnswerLowest StepLowest
step_answer_lowest ps a b r says e =
    by_eq (step_refusal ps a b) 0
    (λ z. let t = eq-eqb (step_refusal ps a b) 0 z in
    let o : (step ps a b).outcome ≡ 2 = rw (says.outcome, t) at e in
    rw (says.link, says.far, t) (step_lowest ps a b o))
    (λ n. let z = rw (says.outcome, ne_eqb (step_refusal ps a b) 0 n) at e in absurd (omega arith))

-- A WALK repeats steps
along_lowest : (ps : List ℕ) (b : ℕ) (met taken : List ℕ) → StepsAlong ps b met taken → LowestAlong (plan_wiring ps) met taken
unfolding StepLowest
along_lowest ps b [] is s = s
along_lowest ps b (c ∷ []) [] s = tt
along_lowest ps b (c ∷ []) (i ∷ is) s = s
along_lowest ps b (c ∷ d ∷ cs) [] s = s
along_lowest ps b (c ∷ d ∷ cs) (i ∷ is) (over, link, far, rest) =
    (rw (link, far) at (step_lowest ps c b over), along_lowest ps b (d ∷ cs) is rest)

pub walk_lowest : WalkLowest
unfolding WalkLowest WalkEnds
walk_lowest ps a b h =
    let w = walk_ends ps a b h in
    rw w.1 (along_lowest ps b (a ∷ w.0) (walk ps a b).taken w.2)
