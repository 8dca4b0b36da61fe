-- The choice between two frames, by cases: whose turn it is, the refusals in their order, and what each return says. Assumes nothing.
use Rattle.std.specs.Prelude.{Result, Ok, Err}
use mathlib.Core.Path.{◌≡◌, refl, sym, ap, ◌∙◌}
use mathlib.Core.Bool.{true, false, cond}
use mathlib.Core.Logic.{◌⊎◌, inl, inr, ⊎_elim, ◌≢◌}
use mathlib.Core.List.{List}
use Prim.Native.Nat.{ℕ, suc, ◌+◌, ◌≤◌, ◌<◌}
use native.Mathlib.Omega.{arith}
use lib.Dec.{ltb, leb}
use lib.ListN.{length, get_or, set}
use borrow.Author.Tests.{eq-eqb, ne_eqb, lt-ltb, le-ltb, le-leb, lt-leb, leb-true, leb-false}
use denote.Ref.{Bor}
use Rattle.rack.specs.Limits.{most_callers, most_traffic}
use Rattle.rack.proofs.Logic.{true_not_false, by_bool, by_lt, or_right}
use Rattle.rack.specs.Refused.{number_of, refusal_of}
use Rattle.rack.specs.declared.refused.Refused.{Refused}
use Rattle.rack.specs.declared.refused.Refused.TheVariants.{NoFrame}
use Rattle.turns.specs.Turns.{least_frame, frame_caller, first_goes, next_caller, choice_refusal, turns_after, FrameSays, ChoiceSays, part_of}
use Rattle.turns.specs.declared.frames.Frame.{Frame}
use Rattle.turns.specs.Promises.{ChoiceRefused}

-- TWO FRAMES as 19 and 18 refuse them, and as neither does
abbrev Short : (f g : List ℕ) → Type 0
Short f g = (length f < least_frame) ⊎ (length g < least_frame)

abbrev Over : (f g : List ℕ) → Type 0
Over f g = (most_callers ≤ frame_caller f) ⊎ (most_callers ≤ frame_caller g)

pub record Fit (f g : List ℕ) : Type 0 where
  pub first : least_frame ≤ length f
  pub second : least_frame ≤ length g
  pub caller : frame_caller f < most_callers
  pub other : frame_caller g < most_callers

-- .. as reading them says
pub both_fit : (f g : List ℕ) (r s : Frame) → FrameSays f (Ok r) → FrameSays g (Ok s) → r.caller < most_callers → s.caller < most_callers → Fit f g
both_fit f g r s a b h k = record { first = a.0; second = b.0; caller = omega (arith, a.2); other = omega (arith, b.2) }

module _ (f g ts : List ℕ) where
  abbrev next : ℕ
  next = next_caller f g ts

  abbrev refused : ℕ
  refused = choice_refusal f g ts

  -- WHOSE TURN: the caller whose frame goes has had no more turns than the other
  pub next_first : first_goes f g ts ≡ true → next ≡ frame_caller f
  unfolding next_caller
  next_first h = rw h refl

  pub next_second : first_goes f g ts ≡ false → next ≡ frame_caller g
  unfolding next_caller
  next_second h = rw h refl

  first_fewer : first_goes f g ts ≡ true → get_or ts (frame_caller f) 0 ≤ get_or ts (frame_caller g) 0
  unfolding first_goes
  first_fewer = leb-true (get_or ts (frame_caller f) 0) (get_or ts (frame_caller g) 0)

  second_fewer : first_goes f g ts ≡ false → get_or ts (frame_caller g) 0 < get_or ts (frame_caller f) 0
  unfolding first_goes
  second_fewer = leb-false (get_or ts (frame_caller f) 0) (get_or ts (frame_caller g) 0)

  pub next_fewest : (get_or ts next 0 ≤ get_or ts (frame_caller f) 0) × (get_or ts next 0 ≤ get_or ts (frame_caller g) 0)
  next_fewest =
      by_bool (first_goes f g ts)
      (λ e. rw (next_first e) (omega arith, first_fewer e))
      (λ e. rw (next_second e) (omega (arith, second_fewer e), omega arith))

  -- THE REFUSALS: 19, 18, and of two frames that fit 15 or none
  pub short_refused : Short f g → refused ≡ 19
  unfolding choice_refusal
  short_refused (inl h) = rw (lt-ltb (length f) least_frame h) refl
  short_refused (inr h) = rw (or_right (ltb (length f) least_frame) (ltb (length g) least_frame) (lt-ltb (length g) least_frame h)) refl

  pub over_refused : least_frame ≤ length f → least_frame ≤ length g → Over f g → refused ≡ 18
  unfolding choice_refusal
  over_refused lf lg (inl h) = rw (le-ltb (length f) least_frame lf, le-ltb (length g) least_frame lg, le-leb most_callers (frame_caller f) h) refl
  over_refused lf lg (inr h) =
      rw (
        le-ltb (length f) least_frame lf,
        le-ltb (length g) least_frame lg,
        or_right (leb most_callers (frame_caller f)) (leb most_callers (frame_caller g)) (le-leb most_callers (frame_caller g) h),
      ) refl

  module _ (z : Fit f g) where
    pub next_low : next < most_callers
    next_low = by_bool (first_goes f g ts) (λ e. omega (arith, next_first e, z.caller)) (λ e. omega (arith, next_second e, z.other))

    fit_refusal : refused ≡ cond (leb most_traffic (get_or ts next 0)) 15 0
    unfolding choice_refusal
    fit_refusal =
        rw (
          le-ltb (length f) least_frame z.first,
          le-ltb (length g) least_frame z.second,
          lt-leb most_callers (frame_caller f) z.caller,
          lt-leb most_callers (frame_caller g) z.other,
        ) refl

    pub full_refused : most_traffic ≤ get_or ts next 0 → refused ≡ 15
    full_refused h = fit_refusal ∙ rw (le-leb most_traffic (get_or ts next 0) h) refl

    pub none_refused : get_or ts next 0 < most_traffic → refused ≡ 0
    none_refused h = fit_refusal ∙ rw (lt-leb most_traffic (get_or ts next 0) h) refl

    both_full : get_or ts (frame_caller f) 0 ≡ most_traffic → get_or ts (frame_caller g) 0 ≡ most_traffic → refused ≡ 15
    both_full x y = full_refused (by_bool (first_goes f g ts) (λ e. rw (next_first e) (omega arith)) (λ e. rw (next_second e) (omega arith)))

    by_full : {A : Type 0} → (refused ≡ 15 → most_traffic ≤ get_or ts next 0 → A) → (refused ≡ 0 → get_or ts next 0 < most_traffic → A) → A
    by_full full none = by_lt (get_or ts next 0) most_traffic (λ h. none (none_refused h) h) (λ h. full (full_refused h) h)

  by_refusal : {A : Type 0} → (refused ≡ 19 → Short f g → A) → (refused ≡ 18 → least_frame ≤ length f → least_frame ≤ length g → Over f g → A)
      → (refused ≡ 15 → Fit f g → most_traffic ≤ get_or ts next 0 → A) → (refused ≡ 0 → Fit f g → get_or ts next 0 < most_traffic → A) → A
  by_refusal short over full none =
      by_lt (length f) least_frame (λ h. short (short_refused (inl h)) (inl h)) (λ lf.
      by_lt (length g) least_frame (λ h. short (short_refused (inr h)) (inr h)) (λ lg.
      by_lt (frame_caller f) most_callers
      (λ cf. by_lt (frame_caller g) most_callers
      (λ cg. let z : Fit f g = record { first = lf; second = lg; caller = cf; other = cg } in by_full z (λ e. full e z) (λ e. none e z))
      (λ h. over (over_refused lf lg (inr h)) lf lg (inr h)))
      (λ h. over (over_refused lf lg (inl h)) lf lg (inl h))))

  -- and back, from the number
  refused_short : refused ≡ 19 → Short f g
  refused_short h =
      by_refusal (λ _ s. s) (λ e _ _ _. absurd (omega arith)) (λ e _ _. absurd (omega arith)) (λ e _ _. absurd (omega arith))

  refused_over : refused ≡ 18 → (least_frame ≤ length f) × (least_frame ≤ length g) × Over f g
  refused_over h =
      by_refusal (λ e _. absurd (omega arith)) (λ _ lf lg o. (lf, lg, o)) (λ e _ _. absurd (omega arith)) (λ e _ _. absurd (omega arith))

  refused_full : refused ≡ 15 → Fit f g × (most_traffic ≤ get_or ts next 0)
  refused_full h =
      by_refusal (λ e _. absurd (omega arith)) (λ e _ _ _. absurd (omega arith)) (λ _ z full. (z, full)) (λ e _ _. absurd (omega arith))

  -- a choice that is not refused
  pub record Clear : Type 0 where
    pub fit : Fit f g
    pub room : get_or ts next 0 < most_traffic

  pub choice_clear : refused ≡ 0 → Clear
  choice_clear h =
      by_refusal (λ e _. absurd (omega arith)) (λ e _ _ _. absurd (omega arith)) (λ e _ _. absurd (omega arith))
      (λ _ z k. record { fit = z; room = k })

  pub turns_kept : refused ≢ 0 → turns_after f g ts ≡ ts
  unfolding turns_after
  turns_kept n = rw (ne_eqb refused 0 n) refl

  pub turns_counted : refused ≡ 0 → turns_after f g ts ≡ set ts next (suc (get_or ts next 0))
  unfolding turns_after
  turns_counted e = rw (eq-eqb refused 0 e) refl

pub choice_refused : ChoiceRefused
unfolding ChoiceRefused
choice_refused f g ts few = (
  (refused_short f g ts, short_refused f g ts),
  (refused_over f g ts, λ o. over_refused f g ts o.0 o.1 o.2),
  (
    (λ e. full (refused_full f g ts e)),
    (λ o. both_full f g ts (record { first = o.0; second = o.1; caller = omega (arith, o.2); other = omega (arith, o.3) }) o.4 o.5),
  ),
)
  where
    full : Fit f g × (most_traffic ≤ get_or ts (next_caller f g ts) 0) → (least_frame ≤ length f) × (least_frame ≤ length g) × (frame_caller f ≤ 15)
        × (frame_caller g ≤ 15) × (get_or ts (frame_caller f) 0 ≡ most_traffic) × (get_or ts (frame_caller g) 0 ≡ most_traffic)
    full (z, h) = (
      z.first,
      z.second,
      omega (arith, z.caller),
      omega (arith, z.other),
      omega (arith, (next_fewest f g ts).0, few (frame_caller f)),
      omega (arith, (next_fewest f g ts).1, few (frame_caller g)),
    )

-- WHAT EACH RETURN SAYS
module _ (f g : Bor (List ℕ)) (ts : List ℕ) where
  -- with a refusal no frame and no turn
  pub says_refused : (e : Refused) → choice_refusal f.now g.now ts ≡ (refusal_of e).number → (refusal_of e).number ≢ 0
      → ChoiceSays f g ts (part_of f.ref_ptr (Err e)) ts (refusal_of e).number
  says_refused e h d =
      record {
        number = sym h;
        first = λ z. absurd (d z);
        second = λ z. absurd (d z);
        none = λ _. record { place = refl; bytes = refl };
        turns = sym (turns_kept f.now g.now ts (λ z. d (sym h ∙ z)));
      }

  -- as reading a frame refuses it
  pub says_short : Short f.now g.now → (r : Result (Bor (List ℕ)) Refused) → r ≡ Err NoFrame
      → ChoiceSays f g ts (part_of f.ref_ptr r) ts (number_of r)
  says_short h r e = rw e (says_refused NoFrame (short_refused f.now g.now ts h) (λ z. omega arith))

  -- the frame r that the code has chosen, and its caller u
  module _ (r : Bor (List ℕ)) (u : ℕ) where
    abbrev pub Goes : Type 0
    Goes =
        ((first_goes f.now g.now ts ≡ true) × (r ≡ f) × (u ≡ frame_caller f.now))
        ⊎ ((first_goes f.now g.now ts ≡ false) × (r ≡ g) × (u ≡ frame_caller g.now))

    pub goes_next : Goes → next_caller f.now g.now ts ≡ u
    goes_next (inl (h, _, e)) = next_first f.now g.now ts h ∙ sym e
    goes_next (inr (h, _, e)) = next_second f.now g.now ts h ∙ sym e

    counted : Goes → choice_refusal f.now g.now ts ≡ 0 → set ts u (get_or ts u 0 + 1) ≡ turns_after f.now g.now ts
    counted p z = sym (turns_counted f.now g.now ts z ∙ rw (goes_next p) (ap (set ts u) (omega arith)))

    pub says_chosen : Goes → choice_refusal f.now g.now ts ≡ 0 → ChoiceSays f g ts r (set ts u (get_or ts u 0 + 1)) 0
    says_chosen p z =
        record {
          number = sym z;
          first = λ _ k. ⊎_elim
              (λ o. rw o.1 (record { place = refl; bytes = refl }))
              (λ o. true_not_false (first_goes f.now g.now ts) k o.0)
              p;
          second = λ _ k. ⊎_elim
              (λ o. true_not_false (first_goes f.now g.now ts) o.0 k)
              (λ o. rw o.1 (record { place = refl; bytes = refl }))
              p;
          none = λ d. absurd (d refl);
          turns = counted p z;
        }

  -- where both frames have been read, and the turns of their callers compared
  module _ (p : Bor (List ℕ) × ℕ) {i j : ℕ} (caller : i ≡ frame_caller f.now) (other : j ≡ frame_caller g.now) where
    pub goes_first : get_or ts i 0 ≤ get_or ts j 0 → p ≡ (f, i) → Goes p.0 p.1
    unfolding first_goes
    goes_first h e = rw (e, ← caller, ← other) (inl (le-leb (get_or ts i 0) (get_or ts j 0) h, refl, refl))

    pub goes_second : get_or ts j 0 < get_or ts i 0 → p ≡ (g, j) → Goes p.0 p.1
    unfolding first_goes
    goes_second h e = rw (e, ← caller, ← other) (inr (lt-leb (get_or ts i 0) (get_or ts j 0) h, refl, refl))
