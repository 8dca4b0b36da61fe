-- What the C walk returns and leaves, from what the walk of a frame answers. Assumes nothing.
use mathlib.Core.Path.{◌≡◌, refl, sym, ap, ap₂, subst, ◌∙◌}
use mathlib.Core.Bool.{and-false}
use mathlib.Core.Logic.{◌≢◌}
use mathlib.Core.List.{List, ◌++◌}
use Prim.Native.Nat.{ℕ, ◌+◌, ◌*◌, ◌-◌}
use native.Mathlib.Omega.{arith}
use lib.Dec.{eqb}
use lib.ListN.{length, replicate}
use borrow.Author.Tests.{eq-eqb, ne_eqb}
use Rattle.rack.proofs.Logic.{by_eq}
use Rattle.rack.specs.Buffers.{number32_at}
use Rattle.forwarder.specs.Forwarding.{walk}
use Rattle.forwarder.specs.Calls.{lent_met, walk_hops, walk_refusal, WalkSays}
use Rattle.forwarder.specs.declared.walk.Tally.{Tally}
use Rattle.forwarder.specs.Calls.{Walked}
use Rattle.forwarder.proofs.Answers.{walk_refusal_within}
use Rattle.traffic.specs.Traffic.{caller_refusal}
use Rattle.jolvente.specs.Records.{lent_record, lent_met_bytes, record_bytes, card_bytes, counts_in}
use Rattle.jolvente.specs.CCalls.{c_walk_refusal, met_bytes, walk_record, CWalkSays}

module _ (ps : List ℕ) (a b u : ℕ) (met rec : List ℕ) where
  -- 1, BEFORE ANYTHING ELSE
  pub no_met_room : length met ≢ lent_met_bytes → CWalkSays ps a b u 1 met met rec rec
  unfolding c_walk_refusal
  no_met_room h = record { answer = rw (ne_eqb (length met) lent_met_bytes h) refl; met_left = refl; record_left = refl }

  pub no_walk_record : length rec ≢ lent_record → CWalkSays ps a b u 1 met met rec rec
  unfolding c_walk_refusal
  no_walk_record h =
      record { answer = rw (ne_eqb (length rec) lent_record h, and-false (eqb (length met) lent_met_bytes)) refl; met_left = refl; record_left = refl }

  -- 12 AND 18 of the caller
  module _ (room : length met ≡ lent_met_bytes) (record_room : length rec ≡ lent_record) (x : ℕ) (fault : x ≡ caller_refusal ps u) where
    pub caller_refused : x ≢ 0 → CWalkSays ps a b u x met met rec rec
    unfolding c_walk_refusal
    caller_refused n =
        let e = ne_eqb x 0 n in
        record {
          answer = rw (eq-eqb (length met) lent_met_bytes room, eq-eqb (length rec) lent_record record_room, ← fault, e) refl;
          met_left = rw e refl;
          record_left = rw e refl;
        }

    -- THE WALK of a frame, with the record's counts
    module _ (called : x ≡ 0) (t : Tally) (frames_in : t.frames ≡ number32_at rec 8)
        (hops_in : t.hops ≡ number32_at rec 12) (w : Walked) (cards cards_now : List ℕ) (many : length cards ≡ lent_met)
        (walk_says : WalkSays ps a b t w cards cards_now) where
      s : WalkSays ps a b (counts_in rec) w cards cards_now
      unfolding counts_in
      s = subst (λ (x : Tally). WalkSays ps a b x w cards cards_now) (ap₂ (λ (x y : ℕ). record { frames = x; hops = y }) frames_in hops_in) walk_says

      number_is : w.number ≡ c_walk_refusal ps a b u (length met) rec
      unfolding c_walk_refusal
      number_is =
          s.number ∙ ap (walk_refusal ps a b (counts_in rec)) many
          ∙ sym (rw (eq-eqb (length met) lent_met_bytes room, eq-eqb (length rec) lent_record record_room, eq-eqb (caller_refusal ps u) 0 (sym fault ∙ called)) refl)

      pub walk_refused : w.number ≢ 0 → CWalkSays ps a b u w.number met met rec rec
      walk_refused n = let e = ne_eqb w.number 0 n in record { answer = number_is; met_left = rw e refl; record_left = rw e refl }

      pub walk_said : w.number ≡ 0 → (met_now rec_now : List ℕ) → met_now ≡ card_bytes cards_now
          → rec_now ≡ record_bytes w.arrived w.hops w.tally.frames w.tally.hops → CWalkSays ps a b u 0 met met_now rec rec_now
      unfolding met_bytes walk_record
      walk_said z met_now rec_now met_is rec_is =
          let v = walk ps a b in
          let t = counts_in rec in
          let e = eq-eqb w.number 0 z in
          let arrived : w.arrived ≡ v.arrived = rw e at s.arrived in
          let walked : w.hops ≡ walk_hops v = rw e at s.hops in
          let frames : w.tally.frames ≡ t.frames + v.arrived = s.frames ∙ ap (λ (x : ℕ). t.frames + x) arrived in
          let total : w.tally.hops ≡ t.hops + v.arrived * walk_hops v = s.total ∙ ap₂ (λ (x y : ℕ). t.hops + x * y) arrived walked in
          let cards : cards_now ≡ v.met ++ replicate (lent_met - length v.met) 0 = rw e at s.met in
          record { answer = sym z ∙ number_is; met_left = met_is ∙ ap card_bytes cards; record_left = rec_is ∙ rw (arrived, walked, frames, total) refl }

-- 18 EXACTLY where a caller is over 15
module _ (ps : List ℕ) (a b u r : ℕ) (met met_now rec rec_now : List ℕ) (s : CWalkSays ps a b u r met met_now rec rec_now) where
  pub eighteen_only : r ≡ 18 → (length met ≡ lent_met_bytes) × (length rec ≡ lent_record) × (caller_refusal ps u ≡ 18)
  unfolding c_walk_refusal
  eighteen_only e =
      by_eq (length met) lent_met_bytes
      (λ room. by_eq (length rec) lent_record
      (λ record_room.
      let is = rw (eq-eqb (length met) lent_met_bytes room, eq-eqb (length rec) lent_record record_room) at s.answer in
      by_eq (caller_refusal ps u) 0
      (λ z. let own = rw (eq-eqb (caller_refusal ps u) 0 z) at is in absurd (omega (arith, e, own, walk_refusal_within ps a b (counts_in rec) lent_met)))
      (λ n. (room, record_room, omega (arith, e, rw (ne_eqb (caller_refusal ps u) 0 n) at is))))
      (λ n. absurd (omega (arith, e, s.answer, (no_walk_record ps a b u met rec n).answer))))
      (λ n. absurd (omega (arith, e, s.answer, (no_met_room ps a b u met rec n).answer)))

  pub eighteen_said : length met ≡ lent_met_bytes → length rec ≡ lent_record → caller_refusal ps u ≡ 18 → r ≡ 18
  eighteen_said room record_room e = s.answer ∙ sym (caller_refused ps a b u met rec room record_room 18 (sym e) (λ z. omega arith)).answer

  pub refused_left : r ≢ 0 → (met_now ≡ met) × (rec_now ≡ rec)
  refused_left n = let e = ne_eqb r 0 n in (s.met_left ∙ rw e refl, s.record_left ∙ rw e refl)
