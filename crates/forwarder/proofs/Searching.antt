-- The search for the first link that leads nearer: the far card of a link, and the test by it. Assumes nothing.
use mathlib.Core.Path.{◌≡◌, refl, sym, ◌∙◌}
use mathlib.Core.Bool.{Bool, true, false, ◌&&◌}
use mathlib.Core.Logic.{◌⊎◌, inl, inr, ◌≢◌}
use mathlib.Core.List.{List}
use Prim.Native.Nat.{ℕ, ◌+◌, ◌≤◌, ◌<◌}
use native.Mathlib.Omega.{arith}
use lib.Dec.{eqb, ltb}
use lib.ListN.{get_or, replicate, get_or-replicate}
use borrow.Author.Count.{below_more}
use borrow.Author.Tests.{eqb-true, eq-eqb, ne_eqb, ltb-true, lt-ltb}
use Rattle.std.specs.Prelude.{Some, None}
use Rattle.std.proofs.lemmas.Option.{none-some, same_Some}
use Rattle.rack.specs.Wiring.{Link, link_at, touches, other_end}
use Rattle.rack.proofs.Paths.{other_end_below}
use Rattle.rack.proofs.Logic.{true_not_false, not_true_false, by_bool, and_left, and_right, or_cases}
use Rattle.rack.proofs.WiringFile.{wiring_at_count}
use Rattle.rack.specs.PlanFile.{plan_wiring, plan_hamming, Sized}
use Rattle.forwarder.specs.Forwarding.{leads_nearer, step, step_of}
use Rattle.forwarder.specs.Promises.{StepFirst}
use Rattle.forwarder.specs.Parts.{far_card, NoNearer}
use Rattle.forwarder.proofs.Stepping.{step_here, step_first}

-- THE FAR CARD
module _ (n a : ℕ) (l : Link) where
  abbrev between : Bool
  between = ltb l.first n && ltb l.second n && touches a l

  pub far_second : l.first ≡ a → a < n → l.second < n → far_card n a l ≡ Some l.second
  unfolding far_card touches other_end
  far_second e h k = rw (lt-ltb l.first n (omega arith), lt-ltb l.second n k, eq-eqb l.first a e) refl

  pub far_first : l.second ≡ a → a < n → l.first < n → l.first ≢ a → far_card n a l ≡ Some l.first
  unfolding far_card touches other_end
  far_first e h k d = rw (lt-ltb l.first n k, lt-ltb l.second n (omega arith), ne_eqb l.first a d, eq-eqb l.second a e) refl

  ends_between : between ≡ true → (l.first < n) × (l.second < n) × (touches a l ≡ true)
  ends_between t =
      let h = and_left (ltb l.first n && ltb l.second n) (touches a l) t in (
        ltb-true l.first n (and_left (ltb l.first n) (ltb l.second n) h),
        ltb-true l.second n (and_right (ltb l.first n) (ltb l.second n) h),
        and_right (ltb l.first n && ltb l.second n) (touches a l) t,
      )

  pub far_none : (l.first ≡ a → n ≤ l.second) → (l.second ≡ a → n ≤ l.first) → far_card n a l ≡ None
  unfolding far_card touches
  far_none first second = rw (not_true_false between (λ t. let z = ends_between t in neither z (or_cases (eqb l.first a) (eqb l.second a) z.2))) refl
    where
      neither : (l.first < n) × (l.second < n) × (touches a l ≡ true) → (eqb l.first a ≡ true) ⊎ (eqb l.second a ≡ true) → ⊥
      neither z (inl e) = omega (arith, z.1, first (eqb-true l.first a e))
      neither z (inr e) = omega (arith, z.0, second (eqb-true l.second a e))

  -- a card: the link is one of a's, between cards, and it is the other end
  far_some : (c : ℕ) → far_card n a l ≡ Some c → (between ≡ true) × (other_end a l ≡ c)
  unfolding far_card
  far_some c e =
      by_bool between
      (λ (t : between ≡ true). (t, same_Some (other_end a l) c (rw t at e)))
      (λ (t : between ≡ false). absurd (none-some c (rw t at e)))

  far_other : far_card n a l ≡ None → between ≡ false
  unfolding far_card
  far_other e = not_true_false between (λ t. none-some (other_end a l) (sym (rw t at e)))

-- THE MARKS of cards that are no nearer: none at the start
pub no_marks : (ps : List ℕ) (b left : ℕ) → NoNearer ps b left (replicate 256 false)
no_marks ps b left = record { far = λ c h t. true_not_false (get_or (replicate 256 false) c false) t (get_or-replicate 256 c false false h) }

-- THE LOOP over the links: none of those passed leads nearer
abbrev pub NoneBefore : List ℕ → (a b i : ℕ) → Type 0
NoneBefore ps a b i = (j : ℕ) → j < i → leads_nearer ps a b (link_at (plan_wiring ps) j) ≡ false

module _ (ps : List ℕ) {n m k : ℕ} (z : Sized ps n m k) (a b i : ℕ) where
  abbrev at_link : Link
  at_link = link_at (plan_wiring ps) i

  -- link i leads nearer exactly if it has a far card, and that is nearer
  not_nearer : far_card n a at_link ≡ None → leads_nearer ps a b at_link ≡ false
  unfolding leads_nearer
  not_nearer e = let t = rw z.cards at (far_other n a at_link e) in rw t refl

  nearer : (c : ℕ) → far_card n a at_link ≡ Some c → leads_nearer ps a b at_link ≡ ltb (plan_hamming ps c b) (plan_hamming ps a b)
  unfolding leads_nearer
  nearer c e =
      let f = far_some n a at_link c e in
      let t = rw z.cards at f.0 in
      rw (t, f.1) refl

  pub far_below : (c : ℕ) → far_card n a at_link ≡ Some c → c < n
  far_below c e =
      let f = far_some n a at_link c e in
      let s = ends_between n a at_link f.0 in
      rw f.1 at (other_end_below n a at_link s.0 s.1)

  module _ (none : NoneBefore ps a b i) where
    pub passed_none : far_card n a at_link ≡ None → NoneBefore ps a b (i + 1)
    passed_none e = below_more (λ j. leads_nearer ps a b (link_at (plan_wiring ps) j) ≡ false) i none (not_nearer e)

    module _ (c left : ℕ) (e : far_card n a at_link ≡ Some c) (f : left ≡ plan_hamming ps a b) where
      pub passed_far : ltb (plan_hamming ps c b) left ≡ false → NoneBefore ps a b (i + 1)
      passed_far t = below_more (λ j. leads_nearer ps a b (link_at (plan_wiring ps) j) ≡ false) i none (nearer c e ∙ (rw f at t))

      pub step_found : a ≢ b → i < m → ltb (plan_hamming ps c b) left ≡ true → step_of 2 i c ≡ step ps a b
      unfolding StepFirst
      step_found d h t =
          let x = (step_first ps a b).1 i d (omega (arith, z.links, wiring_at_count 6 ps)) (nearer c e ∙ (rw f at t)) none in
          sym (rw (far_some n a at_link c e).1 at x)

pub step_none : (ps : List ℕ) {n m k : ℕ} → Sized ps n m k → (a b : ℕ) → a ≢ b → NoneBefore ps a b m → step_of 0 0 0 ≡ step ps a b
unfolding StepFirst
step_none ps z a b d none = sym ((step_first ps a b).2 d (λ i h. none i (omega (arith, z.links, wiring_at_count 6 ps))))

pub step_arrived : (ps : List ℕ) (a b : ℕ) → a ≡ b → step_of 1 0 0 ≡ step ps a b
step_arrived ps a b e = rw e (sym (step_here ps b))
