-- A step depends on its two cards, the first card's links, their addresses and the sizes, and on nothing else. Assumes nothing.
use mathlib.Core.Path.{◌≡◌, refl, sym, ap, ap₂, ◌∙◌}
use mathlib.Core.Bool.{Bool, true, false, ◌&&◌, cond, and_comm, and-true, and-false}
use mathlib.Core.Logic.{inl, inr, ◌≢◌}
use mathlib.Core.List.{List}
use Prim.Native.Nat.{ℕ, ◌≤◌, ◌<◌}
use native.Mathlib.Omega.{arith}
use lib.Dec.{ltb, eqb}
use borrow.Author.Tests.{le-ltb, ne_eqb}
use Rattle.rack.specs.Lists.{lowest}
use Rattle.rack.specs.Wiring.{Link, link_count, link_at, touches, other_end}
use Rattle.rack.proofs.Logic.{by_bool, by_eq, by_lt}
use Rattle.rack.proofs.Tables.{lowest_passes, lowest_ext}
use Rattle.rack.proofs.Hamming.{hamming_ext}
use Rattle.rack.proofs.Paths.{Ends, touches_ends}
use Rattle.rack.proofs.WiringFile.{wiring_at_count}
use Rattle.rack.specs.PlanFile.{plan_cards, plan_columns, plan_wiring, plan_bit, plan_hamming}
use Rattle.reader.specs.Plan.{layout_holds}
use Rattle.reader.specs.Reading.{layout_refusal}
use Rattle.forwarder.specs.Forwarding.{Step, step_of, leads_nearer, step}
use Rattle.forwarder.specs.Promises.{LinkOf, StepLocal, StepCallLocal}
use Rattle.forwarder.specs.Calls.{Stepped, step_refusal}
use Rattle.forwarder.proofs.Frames.{answered_cards}
use Rattle.forwarder.proofs.Stepping.{nearer_facts, next_link, step_here, step_over, step_stuck}

-- the test of a link by card a and the other end
abbrev other_test : List ℕ → (a b c : ℕ) → Bool
other_test ps a b c = ltb a (plan_cards ps) && ltb c (plan_cards ps) && ltb (plan_hamming ps c b) (plan_hamming ps a b)

ends_test : (n a : ℕ) (l : Link) → Ends a (other_end a l) l → (ltb l.first n && ltb l.second n) ≡ (ltb a n && ltb (other_end a l) n)
ends_test n a l (inl e) = ap₂ (λ (x y : ℕ). ltb x n && ltb y n) e.0 e.1
ends_test n a l (inr e) = ap₂ (λ (x y : ℕ). ltb x n && ltb y n) e.0 e.1 ∙ and_comm (ltb (other_end a l) n) (ltb a n)

leads_nearer_other : (ps : List ℕ) (a b : ℕ) (l : Link) → leads_nearer ps a b l ≡ (touches a l && other_test ps a b (other_end a l))
unfolding leads_nearer
leads_nearer_other ps a b l =
    by_bool (touches a l)
    (λ (t : touches a l ≡ true). rw (t, ends_test (plan_cards ps) a l (touches_ends a l t), and-true (ltb a (plan_cards ps) && ltb (other_end a l) (plan_cards ps))) refl)
    (λ (t : touches a l ≡ false). rw (t, and-false (ltb l.first (plan_cards ps) && ltb l.second (plan_cards ps))) refl)

plan_hamming_ext : (ps qs : List ℕ) (c d b : ℕ) → plan_columns ps ≡ plan_columns qs → ((j : ℕ) → j < plan_columns ps → plan_bit ps c j ≡ plan_bit qs d j)
    → ((j : ℕ) → j < plan_columns ps → plan_bit ps b j ≡ plan_bit qs b j) → plan_hamming ps c b ≡ plan_hamming qs d b
unfolding plan_hamming
plan_hamming_ext ps qs c d b e hc hb =
    rw (← e) (hamming_ext (plan_columns ps) (plan_bit ps c) (plan_bit ps b) (plan_bit qs d) (plan_bit qs b) hc hb)

pub step_local : StepLocal
unfolding StepLocal
step_local ps qs a b en em ek touch other far own goal = by_eq a b here there
  where
    counts : link_count (plan_wiring ps) ≡ link_count (plan_wiring qs)
    counts = wiring_at_count 6 ps ∙ em ∙ sym (wiring_at_count 6 qs)

    here : a ≡ b → step ps a b ≡ step qs a b
    here e = rw e (step_here ps b ∙ sym (step_here qs b))

    same_hamming : plan_hamming ps a b ≡ plan_hamming qs a b
    same_hamming = plan_hamming_ext ps qs a a b ek own goal

    far_hamming : (i : ℕ) → LinkOf ps a i → other_end a (link_at (plan_wiring ps) i) < plan_cards ps
        → plan_hamming ps (other_end a (link_at (plan_wiring ps) i)) b ≡ plan_hamming qs (other_end a (link_at (plan_wiring qs) i)) b
    far_hamming i h below =
        plan_hamming_ext ps qs (other_end a (link_at (plan_wiring ps) i)) (other_end a (link_at (plan_wiring qs) i)) b ek
        (λ j l. far i h below j l ∙ ap (λ (c : ℕ). plan_bit qs c j) (other i h)) goal

    no_card : (rs : List ℕ) (c : ℕ) → plan_cards rs ≤ c → other_test rs a b c ≡ false
    no_card rs c above = rw (le-ltb c (plan_cards rs) above, and-false (ltb a (plan_cards rs))) refl

    same_other : (i : ℕ) → LinkOf ps a i → other_test ps a b (other_end a (link_at (plan_wiring ps) i)) ≡ other_test qs a b (other_end a (link_at (plan_wiring qs) i))
    same_other i h =
        by_lt (other_end a (link_at (plan_wiring ps) i)) (plan_cards ps)
        (λ below. ap₂ ◌&&◌ (ap₂ ◌&&◌ (ap (ltb a) en) (ap₂ ltb (other i h) en)) (ap₂ ltb (far_hamming i h below) same_hamming))
        (λ above. no_card ps (other_end a (link_at (plan_wiring ps) i)) above
        ∙ sym (no_card qs (other_end a (link_at (plan_wiring qs) i)) (omega (arith, other i h, en))))

    same_test : (i : ℕ) → i < link_count (plan_wiring ps) → leads_nearer ps a b (link_at (plan_wiring ps) i) ≡ leads_nearer qs a b (link_at (plan_wiring qs) i)
    same_test i h =
        let t = touch i (omega (arith, wiring_at_count 6 ps)) in
        leads_nearer_other ps a b (link_at (plan_wiring ps) i)
        ∙ by_bool (touches a (link_at (plan_wiring ps) i))
        (λ e. ap₂ ◌&&◌ t (same_other i (h, e)))
        (λ e. ap (λ (x : Bool). x && other_test ps a b (other_end a (link_at (plan_wiring ps) i))) e ∙ sym
        (ap (λ (x : Bool). x && other_test qs a b (other_end a (link_at (plan_wiring qs) i))) (sym t ∙ e)))
        ∙ sym (leads_nearer_other qs a b (link_at (plan_wiring qs) i))

    same_next : next_link ps a b ≡ next_link qs a b
    same_next =
        lowest_ext (link_count (plan_wiring ps)) (λ i. leads_nearer ps a b (link_at (plan_wiring ps) i)) (λ i. leads_nearer qs a b (link_at (plan_wiring qs) i)) same_test
        ∙ ap (λ (n : ℕ). lowest n (λ i. leads_nearer qs a b (link_at (plan_wiring qs) i))) counts

    there : a ≢ b → step ps a b ≡ step qs a b
    there n =
        by_lt (next_link ps a b) (link_count (plan_wiring ps))
        (λ h. let f = nearer_facts ps a b (link_at (plan_wiring ps) (next_link ps a b))
        (lowest_passes (link_count (plan_wiring ps)) (λ i. leads_nearer ps a b (link_at (plan_wiring ps) i)) h) in
        step_over ps a b n h
        ∙ ap₂ (step_of 2) same_next (other (next_link ps a b) (h, f.of_a) ∙ ap (λ (i : ℕ). other_end a (link_at (plan_wiring qs) i)) same_next)
        ∙ sym (step_over qs a b n (omega (arith, counts, same_next))))
        (λ h. step_stuck ps a b n h ∙ sym (step_stuck qs a b n (omega (arith, counts, same_next))))

-- answers are equal by their fields
stepped : (number outcome link far : ℕ) → Stepped
stepped n o i c = record { number = n; outcome = o; link = i; far = c }

module _ (r s : Stepped) (number : r.number ≡ s.number) (outcome : r.outcome ≡ s.outcome) (link : r.link ≡ s.link) (far : r.far ≡ s.far) where
  same_fields : stepped r.number r.outcome r.link r.far ≡ stepped s.number s.outcome s.link s.far
  same_fields = cc (number, outcome, link, far)

  same_stepped : r ≡ s
  unfolding stepped
  same_stepped = same_fields

-- THE CALL: the layout depends on the length and the sizes, and the refusal on these and the cards
pub step_call_local : StepCallLocal
unfolding StepCallLocal StepLocal layout_holds layout_refusal step_refusal
step_call_local ps qs a b r s en em ek touch other far own goal long hr hs =
    same_stepped r s (hr.number ∙ refusals ∙ sym hs.number) (same (λ x. x.outcome) hr.outcome hs.outcome)
    (same (λ x. x.link) hr.link hs.link) (same (λ x. x.far) hr.far hs.far)
  where
    refusals : step_refusal ps a b ≡ step_refusal qs a b
    refusals = rw (long, en, em, ek) refl

    steps : step_refusal ps a b ≡ 0 → step ps a b ≡ step qs a b
    steps e = let cards = answered_cards ps a b e in step_local ps qs a b en em ek touch other far (own cards.0) (goal cards.1)

    same : (f : Step → ℕ) {x y : ℕ} → x ≡ cond (eqb (step_refusal ps a b) 0) (f (step ps a b)) 0 → y ≡ cond (eqb (step_refusal qs a b) 0) (f (step qs a b)) 0 → x ≡ y
    same f hx hy =
        hx ∙ by_eq (step_refusal ps a b) 0
        (λ e. ap₂ (λ (n : ℕ) (v : Step). cond (eqb n 0) (f v) 0) refusals (steps e))
        (λ (n : step_refusal ps a b ≢ 0). rw (ne_eqb (step_refusal ps a b) 0 n, ne_eqb (step_refusal qs a b) 0 (λ e. n (refusals ∙ e))) refl) ∙ sym hy
