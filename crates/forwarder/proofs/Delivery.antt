-- Delivery, from the reader's promise alone: a step leads one hop nearer, and a walk arrives by the fewest links. Assumes nothing.
use mathlib.Core.Path.{◌≡◌, refl, sym, ap}
use mathlib.Core.Bool.{true}
use mathlib.Core.Logic.{◌≢◌}
use mathlib.Core.List.{List, [], ◌∷◌}
use Prim.Native.Nat.{ℕ, zero, suc, ◌-◌, ◌<◌}
use native.Mathlib.Omega.{arith}
use lib.ListN.{length}
use borrow.Author.Tests.{eq-eqb, lt-ltb}
use Rattle.rack.specs.Wiring.{Link, Wiring, link, link_count, link_at, linked, other_end}
use Rattle.rack.specs.Hops.{hops, is_path}
use Rattle.rack.proofs.Logic.{by_eq, and_both}
use Rattle.rack.proofs.Lists.{In, in_get_or, get_or_in}
use Rattle.rack.proofs.Paths.{Ends, touches_ends, ends_touch, other_end_below, linked_link, link_linked}
use Rattle.rack.proofs.Hops.{hops_self, hops_zero, hops_triangle, hops_linked, hops_down}
use Rattle.rack.proofs.WiringFile.{wiring_at_cards}
use Rattle.rack.specs.PlanFile.{plan_cards, plan_columns, plan_wiring}
use Rattle.reader.specs.Promises.{Measured}
use Rattle.reader.proofs.Addresses.{hamming_columns}
use Rattle.forwarder.specs.Forwarding.{Walk, walk_of, step, walk_from, walk}
use Rattle.forwarder.proofs.Stepping.{facts_nearer, step_here, step_two, nearer_two}
use Rattle.forwarder.proofs.Walking.{walk_ended, after, walk_goes_on}

module _ (ps : List ℕ) (m : Measured ps) where
  abbrev inner : Wiring
  inner = plan_wiring ps

  same_cards : inner.cards ≡ plan_cards ps
  same_cards = wiring_at_cards 6 ps

  -- A STEP over a link leads one hop nearer
  abbrev NearerByOne : (a b : ℕ) → Type 0
  NearerByOne a b = ((step ps a b).far < plan_cards ps) × (linked inner a (step ps a b).far ≡ true) × (hops inner a b ≡ suc (hops inner (step ps a b).far b))

  step_nearer : (a b : ℕ) → a < plan_cards ps → b < plan_cards ps → (step ps a b).outcome ≡ 2 → NearerByOne a b
  step_nearer a b ha hb e =
      let o = step_two ps a b e in
      let l = link_at inner (step ps a b).link in
      let ends = touches_ends a l o.nearer.of_a in
      let inside = other_end_below (plan_cards ps) a l o.nearer.first o.nearer.second in
      let joined = link_linked inner a (other_end a l) l (in_get_or inner.links (step ps a b).link (link 0 0) o.inside) ends in
      rw o.far (
        inside,
        joined,
        omega (
          arith,
          o.nearer.less,
          same_cards,
          m.measured a b ha hb,
          m.measured (other_end a l) b inside hb,
          hops_linked inner a (other_end a l)
              (omega (arith, same_cards)) joined,
          hops_triangle inner a (other_end a l) b,
        ),
      )

  -- a link to a card nearer to b is enough for a step
  link_step : (a b c i : ℕ) → a < plan_cards ps → b < plan_cards ps → c < plan_cards ps → i < link_count inner → Ends a c (link_at inner i)
      → hops inner c b < hops inner a b → (step ps a b).outcome ≡ 2
  link_step a b c i ha hb hc hi ends less =
      let n : a ≢ b = λ e. let z = hops_self inner b in let f = ap (λ (x : ℕ). hops inner x b) e in omega arith in
      let t = ends_touch a c (link_at inner i) ends (λ e. let f = ap (λ (x : ℕ). hops inner x b) e in omega arith) in
      let s = m.inside i hi in
      nearer_two ps a b n i hi (facts_nearer ps a b (link_at inner i)
      (record { first = s.0; second = s.1; of_a = t.0; less = rw t.1 (omega (arith, m.measured a b ha hb, m.measured c b hc hb)) }))

  -- and between different cards there is one
  step_found : (a b : ℕ) → a < plan_cards ps → b < plan_cards ps → a ≢ b → (step ps a b).outcome ≡ 2
  step_found a b ha hb n =
      let z : hops inner a b ≢ 0 = λ e. n (hops_zero inner a b (omega (arith, same_cards)) e) in
      go (hops_down inner a b (hops inner a b - 1) (omega arith) (omega (arith, m.reached a b ha hb, same_cards))) z
    where
      by_link : (c : ℕ) → c < inner.cards → hops inner c b < hops inner a b → (l : Link) × In l inner.links × Ends a c l → (step ps a b).outcome ≡ 2
      by_link c hc less (l, i, ends) =
          let at = get_or_in inner.links (link 0 0) l i in
          link_step a b c at.0 ha hb (omega (arith, same_cards)) at.1 (rw at.2 ends) less

      go : (c : ℕ) × (c < inner.cards) × (linked inner a c ≡ true) × (hops inner c b ≡ hops inner a b - 1) → hops inner a b ≢ 0 → (step ps a b).outcome ≡ 2
      go (c, hc, joined, d) z = by_link c hc (omega arith) (linked_link inner a c joined)

  -- A WALK arrives
  abbrev pub Arrives : (a b : ℕ) → Walk → Type 0
  Arrives a b v =
      (v.arrived ≡ 1) × ((cs : List ℕ) × (v.met ≡ a ∷ cs) × (is_path inner a cs b ≡ true) × (length cs ≡ hops inner a b))

  arrives_here : (a : ℕ) → Arrives a a (walk_of (step ps a a).outcome (a ∷ []) [])
  unfolding is_path
  arrives_here a = (rw (step_here ps a) refl, ([], refl, eq-eqb a a refl, sym (hops_self inner a)))

  arrives_on : (a b : ℕ) (v : Walk) → NearerByOne a b → Arrives (step ps a b).far b v → Arrives a b (after ps a b v)
  unfolding is_path
  arrives_on a b v (inside, joined, less) (one, (cs, met, path, long)) = (
    one,
    (
      (step ps a b).far ∷ cs,
      ap (λ (x : List ℕ). a ∷ x) met,
      and_both _ (is_path inner (step ps a b).far cs b) (and_both _ _ (lt-ltb (step ps a b).far inner.cards (omega (arith, same_cards))) joined) path,
      omega arith,
    ),
  )

  walk_arrives : (left a b : ℕ) → a < plan_cards ps → b < plan_cards ps → hops inner a b < left → Arrives a b (walk_from left ps a b)
  walk_arrives zero a b ha hb h = absurd (omega arith)
  walk_arrives (suc left) a b ha hb h =
      by_eq a b
      (λ e. rw (e, walk_ended ps left b b (λ t. let k : (step ps b b).outcome ≡ 1 = rw (step_here ps b) refl in omega arith)) (arrives_here b))
      (λ n. let t = step_found a b ha hb n in
      let s = step_nearer a b ha hb t in
      rw (walk_goes_on ps left a b t) (arrives_on a b (walk_from left ps (step ps a b).far b) s (walk_arrives left (step ps a b).far b s.0 hb (omega arith))))

  pub frame_arrives : (a b : ℕ) → a < plan_cards ps → b < plan_cards ps → Arrives a b (walk ps a b)
  unfolding walk
  frame_arrives a b ha hb = walk_arrives (suc (plan_columns ps)) a b ha hb (omega (arith, m.measured a b ha hb, hamming_columns ps a b))
