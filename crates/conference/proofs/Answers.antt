-- What refuses three callers, and the answer from what reading and the search give. Assumes nothing.
use Rattle.std.specs.Prelude.{Option, None, Some, MatchOption, Result, Ok, Err, IfOk, IfErr, OnOk}
use mathlib.Core.Path.{◌≡◌, refl, sym, ◌∙◌}
use mathlib.Core.Bool.{◌||◌}
use mathlib.Core.Logic.{◌⊎◌, inl, inr, ◌≢◌}
use mathlib.Core.List.{List}
use Prim.Native.Nat.{ℕ, ◌≤◌, ◌<◌}
use native.Mathlib.Omega.{arith}
use lib.Dec.{leb}
use borrow.Author.Tests.{eq-eqb, ne_eqb, le-leb, lt-leb, le-ltb, lt-ltb}
use Rattle.rack.specs.PlanFile.{plan_cards, plan_wiring}
use Rattle.rack.proofs.Logic.{by_eq, by_lt, or_right}
use Rattle.reader.specs.Plan.{plan_refusal}
use Rattle.rack.specs.Refused.{refusal_of}
use Rattle.rack.specs.declared.refused.Refused.{Refused}
use Rattle.rack.specs.declared.refused.Refused.TheVariants.{NoCard}
use Rattle.rack.proofs.RefusalNumbers.{refusal_numbered}
use Rattle.reader.specs.ReadPlans.{plan_of}
use Rattle.reader.specs.Reading.{SizesSay, sizes_of}
use Rattle.reader.specs.declared.views.ReadPlan.{ReadPlan}
use Rattle.conference.specs.Conference.{conference, conference_of, three_refusal, conference_refusal, ConferenceIs, CardOrNone}

-- all three are below n, or some one is not
abbrev pub SomeOutside : (n a b c : ℕ) → Type 0
SomeOutside n a b c = (n ≤ a) ⊎ (n ≤ b) ⊎ (n ≤ c)

pub inside_or_outside : {C : Type 0} (n a b c : ℕ) → (a < n → b < n → c < n → C) → (SomeOutside n a b c → C) → C
inside_or_outside n a b c i o =
    by_lt a n (λ ha. by_lt b n (λ hb. by_lt c n (i ha hb) (λ h. o (inr (inr h)))) (λ h. o (inr (inl h)))) (λ h. o (inl h))

-- THE NUMBER: the refusal before it, 14 or none
module _ (x n a b c : ℕ) where
  pub refused_before : x ≢ 0 → three_refusal x n a b c ≡ x
  unfolding three_refusal
  refused_before d = rw (ne_eqb x 0 d) refl

  pub some_outside : x ≡ 0 → SomeOutside n a b c → three_refusal x n a b c ≡ 14
  unfolding three_refusal
  some_outside e (inl h) = rw (eq-eqb x 0 e, le-leb n a h) refl
  some_outside e (inr (inl h)) = rw (eq-eqb x 0 e, or_right (leb n a) (leb n b) (le-leb n b h)) refl
  some_outside e (inr (inr h)) = rw (eq-eqb x 0 e, or_right (leb n a || leb n b) (leb n c) (le-leb n c h)) refl

  pub all_inside : x ≡ 0 → a < n → b < n → c < n → three_refusal x n a b c ≡ 0
  unfolding three_refusal
  all_inside e ha hb hc = rw (eq-eqb x 0 e, lt-leb n a ha, lt-leb n b hb, lt-leb n c hc) refl

  pub clear_inside : three_refusal x n a b c ≡ 0 → (x ≡ 0) × (a < n) × (b < n) × (c < n)
  clear_inside z =
      by_eq x 0
      (λ e. inside_or_outside n a b c (λ ha hb hc. (e, ha, hb, hc)) (λ o. let f = some_outside e o in absurd (omega arith)))
      (λ d. absurd (d (sym (refused_before d) ∙ z)))

module _ (ps : List ℕ) (a b c : ℕ) where
  abbrev n : ℕ
  n = plan_cards ps

  pub answered_inside : conference_refusal ps a b c ≡ 0 → (plan_refusal ps ≡ 0) × (a < n) × (b < n) × (c < n)
  unfolding conference_refusal
  answered_inside z = clear_inside (plan_refusal ps) n a b c z

  -- THE ANSWER of a reading that was refused, and of a plan that was read: 14, or what the search gives
  pub says_before : (e : Refused) → ConferenceIs (three_refusal (refusal_of e).number n a b c) ps a b c (conference_of (Err e))
  says_before e =
      let d = refusal_numbered e in
      record { number = sym (refused_before (refusal_of e).number n a b c d); found = rw (ne_eqb (refusal_of e).number 0 d) refl; card = refl }

  pub says_outside : SomeOutside n a b c → ConferenceIs (three_refusal 0 n a b c) ps a b c (conference_of (Err NoCard))
  says_outside o = record { number = sym (some_outside 0 n a b c refl o); found = refl; card = refl }

  pub says_lowest : a < n → b < n → c < n → (o : Option ℕ)
      → MatchOption o (n ≤ conference (plan_wiring ps) a b c) (λ x. (x < n) × (x ≡ conference (plan_wiring ps) a b c))
      → ConferenceIs (three_refusal 0 n a b c) ps a b c (conference_of (Ok o))
  says_lowest ha hb hc None h =
      record { number = sym (all_inside 0 n a b c refl ha hb hc); found = rw (le-ltb (conference (plan_wiring ps) a b c) n h) refl; card = refl }
  says_lowest ha hb hc (Some x) (h, e) =
      record {
        number = sym (all_inside 0 n a b c refl ha hb hc);
        found = rw (lt-ltb (conference (plan_wiring ps) a b c) n (omega (arith, e))) refl;
        card = e;
      }

-- BEHIND A READING: what is answered of a plan that was read, or of the refusal in its place, is answered of the bytes that were read
module _ (ps : List ℕ) (a b c : ℕ) (result : Result (Option ℕ) Refused) where
  pub says_behind : (x : ℕ) (read : Result ReadPlan Refused) → SizesSay ps x (sizes_of (plan_of read)) → IfOk read (λ r. r.plan.bytes.now ≡ ps)
      → IfOk read (λ r. ConferenceIs (three_refusal 0 (plan_cards r.plan.bytes.now) a b c) r.plan.bytes.now a b c (conference_of result))
      → IfErr read (λ e. result ≡ Err e) → ConferenceIs (three_refusal x (plan_cards ps) a b c) ps a b c (conference_of result)
  says_behind x (Ok r) s same says before = rw (← s.number, ← same) says
  says_behind x (Err e) s same says before = rw (before, ← s.number) (says_before ps a b c e)

  pub promise_behind : (read : Result ReadPlan Refused) → IfOk read (λ r. r.plan.bytes.now ≡ ps)
      → IfOk read (λ r. OnOk result (CardOrNone r.plan.bytes.now a b c (conference_of result)))
      → IfErr read (λ e. result ≡ Err e) → OnOk result (CardOrNone ps a b c (conference_of result))
  promise_behind (Ok r) same promise before = rw (← same) promise
  promise_behind (Err e) same promise before = rw before tt
