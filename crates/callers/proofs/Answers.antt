-- What a walk by caller answers and leaves: a refusal all as it was, and else what the walk with that caller's counts does. Assumes nothing.
use Rattle.std.specs.Prelude.{Err}
use mathlib.Core.Path.{◌≡◌, refl, sym, ap, ap₂, subst, ◌∙◌}
use mathlib.Core.List.{List}
use Prim.Native.Nat.{ℕ, ◌+◌, ◌*◌, ◌≤◌}
use native.Mathlib.Omega.{arith}
use lib.ListN.{length}
use borrow.Author.Tests.{ne_eqb}
use Rattle.rack.specs.Refused.{refusal_of}
use Rattle.rack.specs.declared.refused.Refused.{Refused}
use Rattle.reader.specs.Reading.{layout_refusal}
use Rattle.rack.proofs.RefusalNumbers.{refusal_numbered}
use Rattle.forwarder.specs.Calls.{Walked, lent_met, walk_refusal, WalkSays}
use Rattle.forwarder.specs.declared.walk.Tally.{Tally}
use Rattle.crossing.specs.Crossing.{FrameWalk, FrameWalkSays}
use Rattle.turns.specs.Turns.{least_frame, frame_goal, frame_caller}
use Rattle.traffic.specs.Traffic.{caller_refusal, tally_of, with_tally, raised}
use Rattle.traffic.specs.Promises.{NoneCounted}
use Rattle.traffic.specs.declared.Traffic.{Traffic}
use Rattle.traffic.proofs.Promises.{none_counted}
use Rattle.callers.specs.Walking.{CallerWalk, WalkIs, CallerWalkSays, LentWalkSays, caller_walk_of}
use Rattle.callers.proofs.Refused.{walk_number, lent_whole}

module _ (ps : List ℕ) (a b u : ℕ) (t : Traffic) where
  -- A REFUSAL
  pub refused_is : (x : ℕ) (e : Refused) (old : List ℕ) → x ≡ (refusal_of e).number → WalkIs x ps a b u t (caller_walk_of t (Err e)) old old
  unfolding NoneCounted
  refused_is x e old f =
      let z = ne_eqb x 0 (λ h. refusal_numbered e (sym f ∙ h)) in
      record {
        number = sym f;
        arrived = rw z refl;
        hops = rw z refl;
        crossed = record { found = rw z refl; column = rw z refl };
        traffic = sym (none_counted t u 0);
        met = rw z refl;
      }

  -- THE WALK with that caller's counts, which go back into the record
  abbrev answered : FrameWalk → Traffic → CallerWalk
  answered f q =
      record { number = f.walked.number; arrived = f.walked.arrived; hops = f.walked.hops; crossed = f.crossed; traffic = q }

  module _ (c : Tally) (counts : c ≡ tally_of t u) (f : FrameWalk) (q : Traffic) (put : q ≡ with_tally t u f.walked.tally) (old new : List ℕ)
      (says : FrameWalkSays ps a b c f old new) where
    s : FrameWalkSays ps a b (tally_of t u) f old new
    s = subst (λ (k : Tally). FrameWalkSays ps a b k f old new) counts says

    counted : q ≡ raised t u f.walked.arrived f.walked.hops
    unfolding raised
    counted =
        put ∙ ap (with_tally t u) (ap₂ (λ (x y : ℕ). record { frames = x; hops = y }) s.walked.frames s.walked.total)

    walk_is : WalkIs (walk_refusal ps a b (tally_of t u) (length old)) ps a b u t (answered f q) old new
    walk_is =
        let w = s.walked in
        let e = w.number in
        record {
          number = e;
          arrived = rw e at w.arrived;
          hops = rw e at w.hops;
          crossed = s.crossed;
          traffic = counted;
          met = rw e at w.met;
        }

    pub walk_answered : length old ≡ lent_met → caller_refusal ps u ≡ 0 → CallerWalkSays ps a b u t (answered f q) old new
    walk_answered room z =
        subst (λ (k : ℕ). WalkIs k ps a b u t (answered f q) old new) (sym (walk_number ps a b u t (length old) room z)) walk_is

  -- .. as the walk's refusal hands them back
  pub put_back : t ≡ with_tally t u (tally_of t u)
  unfolding NoneCounted raised tally_of
  put_back = sym (none_counted t u 0) ∙ ap (with_tally t u) (ap₂ (λ (x y : ℕ). record { frames = x; hops = y }) (omega arith) (omega arith))

  -- AND BACK: the walk with that caller's counts
  module _ (x : ℕ) (r : CallerWalk) (old new : List ℕ) (s : WalkIs x ps a b u t r old new) where
    abbrev pub as_walked : Walked
    as_walked =
        record {
          number = r.number;
          arrived = r.arrived;
          hops = r.hops;
          tally = record { frames = (tally_of t u).frames + r.arrived; hops = (tally_of t u).hops + r.arrived * r.hops };
        }

    pub walk_says : x ≡ walk_refusal ps a b (tally_of t u) (length old) → WalkSays ps a b (tally_of t u) as_walked old new
    walk_says e =
        let n = s.number in
        record {
          number = n ∙ e;
          arrived = rw n s.arrived;
          hops = rw n s.hops;
          frames = refl;
          total = refl;
          met = rw n s.met;
        }

-- A LENT FRAME is walked by the numbers in its bytes
pub lent_answered : (ps : List ℕ) (a : ℕ) (f : List ℕ) (t : Traffic) (r : CallerWalk) (old new : List ℕ) → length old ≡ lent_met
    → layout_refusal ps ≡ 0 → least_frame ≤ length f → {b u : ℕ} → b ≡ frame_goal f → u ≡ frame_caller f
    → CallerWalkSays ps a b u t r old new → LentWalkSays ps a f t r old new
lent_answered ps a f t r old new room l h goal caller says =
    subst (λ (k : ℕ). WalkIs k ps a (frame_goal f) (frame_caller f) t r old new) (sym (lent_whole ps a f t (length old) room l h))
    (rw (goal, caller) at says)
