-- Steps: when a step is taken, what it lessens, and what it depends on. Assumes nothing.
use mathlib.Core.Path.{◌≡◌, refl, subst}
use mathlib.Core.Bool.{Bool, true, false, ◌&&◌}
use mathlib.Core.Logic.{◌≢◌}
use mathlib.Core.List.{List}
use Prim.Native.Nat.{ℕ, ◌≤◌, ◌<◌}
use native.Mathlib.Omega.{arith}
use lib.Dec.{eqb, ltb}
use borrow.Author.Tests.{eq-eqb, ne_eqb, ltb-true, lt-ltb, le-ltb}
use Rattle.rack.specs.Lists.{lowest}
use Rattle.rack.specs.Wiring.{Link, Wiring, link_count, link_at, touches, other_end}
use Rattle.rack.proofs.Logic.{by_bool, by_eq, by_lt, and_left, and_right}
use Rattle.rack.proofs.Paths.{other_end_below}
use Rattle.rack.proofs.Tables.{lowest_passes, lowest_least, lowest_is}
use Rattle.rack.specs.PlanFile.{plan_cards, plan_wiring, plan_hamming}
use Rattle.forwarder.specs.Forwarding.{step_of, leads_nearer, step}
use Rattle.forwarder.specs.Promises.{StepFirst}

module _ (ps : List ℕ) where
  abbrev inner : Wiring
  inner = plan_wiring ps

  -- what `leads_nearer` says
  pub record Nearer (a b : ℕ) (l : Link) : Type 0 where
    pub first : l.first < plan_cards ps
    pub second : l.second < plan_cards ps
    pub of_a : touches a l ≡ true
    pub less : plan_hamming ps (other_end a l) b < plan_hamming ps a b

  pub nearer_facts : (a b : ℕ) (l : Link) → leads_nearer ps a b l ≡ true → Nearer a b l
  unfolding leads_nearer
  nearer_facts a b l h =
      let t₁ = ltb l.first (plan_cards ps) in
      let t₂ = t₁ && ltb l.second (plan_cards ps) in
      let t₃ = t₂ && touches a l in
      let less = ltb (plan_hamming ps (other_end a l) b) (plan_hamming ps a b) in
      let h₃ = and_left t₃ less h in
      let h₂ = and_left t₂ (touches a l) h₃ in
      record {
        first = ltb-true l.first (plan_cards ps) (and_left t₁ (ltb l.second (plan_cards ps)) h₂);
        second = ltb-true l.second (plan_cards ps) (and_right t₁ (ltb l.second (plan_cards ps)) h₂);
        of_a = and_right t₂ (touches a l) h₃;
        less = ltb-true (plan_hamming ps (other_end a l) b) (plan_hamming ps a b) (and_right t₃ less h);
      }

  pub facts_nearer : (a b : ℕ) (l : Link) → Nearer a b l → leads_nearer ps a b l ≡ true
  unfolding leads_nearer
  facts_nearer a b l f =
      rw (
        lt-ltb l.first (plan_cards ps) f.first,
        lt-ltb l.second (plan_cards ps) f.second,
        f.of_a,
        lt-ltb (plan_hamming ps (other_end a l) b) (plan_hamming ps a b) f.less,
      ) refl

  -- THE STEP
  abbrev pub next_link : (a b : ℕ) → ℕ
  next_link a b = lowest (link_count inner) (λ i. leads_nearer ps a b (link_at inner i))

  pub step_here : (a : ℕ) → step ps a a ≡ step_of 1 0 0
  unfolding step
  step_here a = rw (eq-eqb a a refl) refl

  pub step_over : (a b : ℕ) → a ≢ b → next_link a b < link_count inner → step ps a b ≡ step_of 2 (next_link a b) (other_end a (link_at inner (next_link a b)))
  unfolding step
  step_over a b n h = rw (ne_eqb a b n, lt-ltb (next_link a b) (link_count inner) h) refl

  pub step_stuck : (a b : ℕ) → a ≢ b → link_count inner ≤ next_link a b → step ps a b ≡ step_of 0 0 0
  unfolding step
  step_stuck a b n h = rw (ne_eqb a b n, le-ltb (next_link a b) (link_count inner) h) refl

  pub step_outcome_le : (a b : ℕ) → (step ps a b).outcome ≤ 2
  unfolding step
  step_outcome_le a b =
      by_bool (eqb a b)
      (λ (t : eqb a b ≡ true). rw t (omega arith))
      (λ (t : eqb a b ≡ false). rw t (by_bool (ltb (next_link a b) (link_count inner))
      (λ (u : ltb (next_link a b) (link_count inner) ≡ true). rw u (omega arith))
      (λ (u : ltb (next_link a b) (link_count inner) ≡ false). rw u (omega arith))))

  -- a step over a link: it leads nearer
  pub record Over (a b : ℕ) : Type 0 where
    pub inside : (step ps a b).link < link_count inner
    pub nearer : Nearer a b (link_at inner (step ps a b).link)
    pub far : (step ps a b).far ≡ other_end a (link_at inner (step ps a b).link)

  pub step_two : (a b : ℕ) → (step ps a b).outcome ≡ 2 → Over a b
  step_two a b h =
      by_eq a b
      (λ e. let k : (step ps a b).outcome ≡ 1 = rw (e, step_here b) refl in absurd (omega arith))
      (λ n. by_lt (next_link a b) (link_count inner) (λ l. over n l) (λ l. let k : (step ps a b).outcome ≡ 0 = rw (step_stuck a b n l) refl in absurd (omega arith)))
    where
      over : a ≢ b → next_link a b < link_count inner → Over a b
      over n l =
          let s = step_over a b n l in
          record {
            inside = rw s l;
            nearer = rw s (nearer_facts a b (link_at inner (next_link a b)) (lowest_passes (link_count inner) (λ i. leads_nearer ps a b (link_at inner i)) l));
            far = rw s refl;
          }

  pub step_less : (a b : ℕ) → (step ps a b).outcome ≡ 2 → plan_hamming ps (step ps a b).far b < plan_hamming ps a b
  step_less a b h = let o = step_two a b h in rw o.far o.nearer.less

  pub step_far_below : (a b : ℕ) → (step ps a b).outcome ≡ 2 → (step ps a b).far < plan_cards ps
  step_far_below a b h = let o = step_two a b h in rw o.far (other_end_below (plan_cards ps) a _ o.nearer.first o.nearer.second)

  -- where a link leads nearer, the step is over a link
  pub nearer_two : (a b : ℕ) → a ≢ b → (i : ℕ) → i < link_count inner → leads_nearer ps a b (link_at inner i) ≡ true → (step ps a b).outcome ≡ 2
  nearer_two a b n i h t =
      rw (step_over a b n (omega (arith, lowest_least (link_count inner) (λ i. leads_nearer ps a b (link_at inner i)) i t))) refl

pub step_first : StepFirst
unfolding StepFirst
step_first ps a b = ((λ e. rw e (step_here ps b)), over, stuck)
  where
    nearer : ℕ → Bool
    nearer i = leads_nearer ps a b (link_at (plan_wiring ps) i)

    over : (i : ℕ) → a ≢ b → i < link_count (plan_wiring ps) → nearer i ≡ true → ((j : ℕ) → j < i → nearer j ≡ false)
        → step ps a b ≡ step_of 2 i (other_end a (link_at (plan_wiring ps) i))
    over i n h t before =
        let e : next_link ps a b ≡ i = lowest_is (link_count (plan_wiring ps)) nearer i (omega arith) before (λ l. t) in
        subst (λ (x : ℕ). step ps a b ≡ step_of 2 x (other_end a (link_at (plan_wiring ps) x))) e (step_over ps a b n (omega arith))

    stuck : a ≢ b → ((i : ℕ) → i < link_count (plan_wiring ps) → nearer i ≡ false) → step ps a b ≡ step_of 0 0 0
    stuck n none =
        step_stuck ps a b n (omega (arith, lowest_is (link_count (plan_wiring ps)) nearer (link_count (plan_wiring ps)) (omega arith) none (λ l. absurd (omega arith))))
