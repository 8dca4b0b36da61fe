-- The answer of a walk from its parts: refusals, the counts, the cards written. Assumes nothing.
use mathlib.Core.Path.{◌≡◌, refl, sym, ap, ap₂, ◌∙◌}
use mathlib.Core.Bool.{Bool, true, false, ◌&&◌, ◌||◌, not, cond, or-true}
use mathlib.Core.Logic.{◌≢◌}
use mathlib.Core.List.{List}
use Prim.Native.Nat.{ℕ, suc, ◌+◌, ◌≤◌}
use native.Mathlib.Omega.{arith}
use lib.Dec.{leb, eqb}
use lib.ListN.{length}
use borrow.Author.Tests.{eq-eqb, ne_eqb, le-leb, leb-true}
use Rattle.std.specs.Prelude.{Ok, Err}
use Rattle.rack.specs.Limits.{most_traffic}
use Rattle.rack.specs.Lists.{one}
use Rattle.rack.specs.PlanFile.{plan_cards}
use Rattle.rack.specs.Refused.{refusal_of}
use Rattle.rack.specs.declared.refused.Refused.{Refused}
use Rattle.rack.specs.declared.refused.Refused.TheVariants.{Lent, Full as RefusedFull}
use Rattle.rack.proofs.Logic.{not_true_false, and_left, and_right}
use Rattle.rack.proofs.Refusals.{cond_within}
use Rattle.reader.specs.Reading.{layout_refusal}
use Rattle.reader.proofs.Reading.{layout_refusal_within}
use Rattle.rack.proofs.RefusalNumbers.{refusal_numbered}
use Rattle.forwarder.specs.Forwarding.{walk}
use Rattle.forwarder.specs.Calls.{step_refusal, lent_met, takes, takes_walk, walk_refusal, Walked, walked_of, WalkSays, CanTake}
use Rattle.forwarder.specs.Parts.{RouteIs, Counted}
use Rattle.forwarder.specs.declared.walk.Tally.{Tally}
use Rattle.forwarder.specs.declared.walk.Route.{Route}

-- THE COUNTS
module _ (t : Tally) (h : ℕ) where
  pub takes_stuck : (o : ℕ) → o ≡ 0 → takes t o h ≡ true
  unfolding takes
  takes_stuck o e = rw (eq-eqb o 0 e) refl

  pub takes_fits : (o : ℕ) → CanTake t h → takes t o h ≡ true
  unfolding takes
  takes_fits o (f, g) = rw (le-leb (suc t.frames) most_traffic f, le-leb (t.hops + h) most_traffic g, or-true (eqb o 0)) refl

  -- a frame that arrives is counted, so the counts take it only where both tests pass
  pub takes_both : (o : ℕ) → o ≢ 0 → takes t o h ≡ true → CanTake t h
  unfolding takes
  takes_both o n e =
      let frame_test = leb (suc t.frames) most_traffic in
      let total_test = leb (t.hops + h) most_traffic in
      let both : (frame_test && total_test) ≡ true = rw (ne_eqb o 0 n) at e in (
        leb-true (suc t.frames) most_traffic (and_left frame_test total_test both),
        leb-true (t.hops + h) most_traffic (and_right frame_test total_test both),
      )

  pub counted_stuck : Counted t 0 h (walked_of t (Ok (record { arrived = false; hops = h; tally = t })))
  counted_stuck = record { number = rw (takes_stuck 0 refl) refl; arrived = refl; hops = refl; frames = omega arith; total = omega arith }

  pub counted_arrived : CanTake t h
      → Counted t 1 h (walked_of t (Ok (record { arrived = true; hops = h; tally = record { frames = t.frames + 1; hops = t.hops + h } })))
  counted_arrived can = record { number = rw (takes_fits 1 can) refl; arrived = refl; hops = refl; frames = refl; total = omega arith }

  pub counted_full : (CanTake t h → ⊥) → Counted t 1 h (walked_of t (Err RefusedFull))
  counted_full never =
      record {
        number = rw (not_true_false (takes t 1 h) (λ e. never (takes_both 1 (λ z. omega arith) e))) refl;
        arrived = refl;
        hops = refl;
        frames = omega arith;
        total = omega arith;
      }

cond_not : (x : Bool) → ◌≡◌ {A = ℕ} (cond x 0 15) (cond (not x) 15 0)
cond_not true = refl
cond_not false = refl

module _ (ps : List ℕ) (a b : ℕ) (t : Tally) (old : List ℕ) where
  -- 1, 12, 14
  refused : (e : Refused) → walk_refusal ps a b t (length old) ≡ (refusal_of e).number → WalkSays ps a b t (walked_of t (Err e)) old old
  refused e f =
      let z = ne_eqb (refusal_of e).number 0 (refusal_numbered e) in
      record {
        number = sym f;
        arrived = rw z refl;
        hops = rw z refl;
        frames = omega arith;
        total = omega arith;
        met = rw z refl;
      }

  pub says_no_room : length old ≢ 256 → WalkSays ps a b t (walked_of t (Err Lent)) old old
  unfolding walk_refusal
  says_no_room n = refused Lent (rw (ne_eqb (length old) 256 n) refl)

  pub says_no_frame : (e : Refused) → length old ≡ 256 → (refusal_of e).number ≡ step_refusal ps a b → WalkSays ps a b t (walked_of t (Err e)) old old
  unfolding walk_refusal
  says_no_frame e l f =
      refused e (rw (eq-eqb (length old) 256 l, ne_eqb (step_refusal ps a b) 0 (λ z. refusal_numbered e (f ∙ z))) (sym f))

  -- 15, OR THE WALK
  module _ (v : Route) (cards : List ℕ) (r : Walked) (l : length old ≡ 256) (e : step_refusal ps a b ≡ 0) (w : RouteIs (walk ps a b) v cards) (k : Counted t (one v.arrived) v.hops r) where
    says_walked : (new : List ℕ) → new ≡ cond (eqb r.number 0) cards old → WalkSays ps a b t r old new
    unfolding walk_refusal
    says_walked new f =
        record {
          number =
              k.number ∙ ap (λ (x : Bool). cond x 0 15) (ap₂ (takes t) w.arrived w.hops) ∙ cond_not (takes_walk t (walk ps a b))
              ∙ rw (eq-eqb (length old) 256 l, eq-eqb (step_refusal ps a b) 0 e) refl;
          arrived = k.arrived ∙ ap (λ (x : ℕ). cond (eqb r.number 0) x 0) w.arrived;
          hops = k.hops ∙ ap (λ (x : ℕ). cond (eqb r.number 0) x 0) w.hops;
          frames = k.frames;
          total = k.total;
          met = f ∙ ap (λ (x : List ℕ). cond (eqb r.number 0) x old) w.met;
        }

    pub says_full : r.number ≢ 0 → WalkSays ps a b t r old old
    says_full n = says_walked old (rw (ne_eqb r.number 0 n) refl)

    pub says_answered : (new : List ℕ) → r.number ≡ 0 → new ≡ cards → WalkSays ps a b t r old new
    says_answered new n f = says_walked new (rw (eq-eqb r.number 0 n) f)

-- NO NUMBER of a walk is over 15
pub walk_refusal_within : (ps : List ℕ) (a b : ℕ) (t : Tally) (room : ℕ) → walk_refusal ps a b t room ≤ 15
unfolding walk_refusal step_refusal
walk_refusal_within ps a b t room =
    let layout : layout_refusal ps ≤ 15 = omega (arith, layout_refusal_within ps) in
    let cards = cond_within (leb (plan_cards ps) a || leb (plan_cards ps) b) 14 0 15 (omega arith) (omega arith) in
    let frame = cond_within (eqb (layout_refusal ps) 0) _ _ 15 cards layout in
    let counts = cond_within (not (takes_walk t (walk ps a b))) 15 0 15 (omega arith) (omega arith) in
    cond_within (not (eqb room lent_met)) 1 _ 15 (omega arith) (cond_within (not (eqb (step_refusal ps a b) 0)) _ _ 15 frame counts)
