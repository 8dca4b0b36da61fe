-- A walk as a loop: the cards written so far, and behind them what is still to be walked. Assumes nothing.
use mathlib.Core.Path.{◌≡◌, refl, sym, ap, ap₂, ◌∙◌, subst}
use mathlib.Core.Logic.{◌≢◌}
use mathlib.Core.List.{List, [], ◌∷◌, ◌++◌}
use Prim.Native.Nat.{ℕ, suc, ◌+◌, ◌-◌, ◌≤◌, ◌<◌}
use native.Mathlib.Omega.{arith}
use lib.ListN.{length, set, replicate, length-append}
use lib.Seq.{append_snoc, set_at}
use mathlib.Core.Bool.{Bool, true, false}
use Rattle.rack.specs.Lists.{one}
use Rattle.rack.specs.PlanFile.{plan_cards, plan_columns, plan_hamming}
use Rattle.reader.proofs.Addresses.{hamming_columns}
use Rattle.std.specs.Prelude.{IsTrue, ◌↔◌}
use Rattle.forwarder.specs.Forwarding.{Step, Walk, step, step_seen, walk_from, walk}
use Rattle.forwarder.specs.declared.step.Step.{Step as Onward}
use Rattle.forwarder.specs.declared.step.Step.TheVariants.{Stuck, Arrived, Over}
use Rattle.forwarder.specs.Calls.{walk_hops}
use Rattle.forwarder.specs.Parts.{RouteIs}
use Rattle.forwarder.proofs.Stepping.{step_less, step_far_below}
use Rattle.forwarder.proofs.Walking.{walk_ended, after, walk_goes_on}

-- the whole walk is what is still to be walked, behind the cards left
abbrev Behind : (cs : List ℕ) → (rest whole : Walk) → Type 0
Behind cs v w = (w.arrived ≡ v.arrived) × (w.met ≡ cs ++ v.met)

-- at a card after so many steps: the step from it, the cards left before it, the steps that may follow
pub record OnTheWay (ps : List ℕ) (a b : ℕ) (written : List ℕ) (taken : ℕ) (s : Step) : Type 0 where
  pub card : ℕ
  pub cards : List ℕ
  pub more : ℕ
  pub next : s ≡ step ps card b
  pub enough : plan_hamming ps card b ≤ more
  pub steps : more + taken ≡ plan_columns ps
  pub long : length cards ≡ taken
  pub rest : Behind cards (walk_from (suc more) ps card b) (walk ps a b)
  pub met : written ≡ (cards ++ (card ∷ [])) ++ replicate (255 - taken) 0

module _ (ps : List ℕ) (a b : ℕ) where
  pub walk_begins : (s : Step) → s ≡ step ps a b → OnTheWay ps a b (a ∷ replicate 255 0) 0 s
  unfolding walk
  walk_begins s e =
      record {
        card = a;
        cards = [];
        more = plan_columns ps;
        next = e;
        enough = hamming_columns ps a b;
        steps = omega arith;
        long = refl;
        rest = (refl, refl);
        met = refl;
      }

  module _ (written : List ℕ) (taken : ℕ) (s : Step) (z : OnTheWay ps a b written taken s) where
    outcome : s.outcome ≡ (step ps z.card b).outcome
    outcome = ap (λ (x : Step). x.outcome) z.next

    far : s.far ≡ (step ps z.card b).far
    far = ap (λ (x : Step). x.far) z.next

    over : s.outcome ≡ 2 → (step ps z.card b).outcome ≡ 2
    over h = sym outcome ∙ h

    far_less : s.outcome ≡ 2 → plan_hamming ps s.far b < plan_hamming ps z.card b
    far_less h = rw far (step_less ps z.card b (over h))

    pub room_left : s.outcome ≡ 2 → taken < plan_columns ps
    room_left h = omega (arith, far_less h, z.enough, z.steps)

    pub far_is_card : s.outcome ≡ 2 → s.far < plan_cards ps
    far_is_card h = rw far (step_far_below ps z.card b (over h))

    -- a step over a link, and the card that it leads to is written
    pub walk_steps : s.outcome ≡ 2 → plan_columns ps ≤ 255 → (r : Step) → r ≡ step ps s.far b
        → OnTheWay ps a b (set written (taken + 1) s.far) (taken + 1) r
    walk_steps h few r e =
        record {
          card = s.far;
          cards = z.cards ++ (z.card ∷ []);
          more = z.more - 1;
          next = e;
          enough = omega (arith, far_less h, z.enough);
          steps = omega (arith, room_left h, z.steps);
          long = left;
          rest = walked;
          met = stored;
        }
      where
        left : length (z.cards ++ (z.card ∷ [])) ≡ taken + 1
        left = simp length-append (omega (arith, z.long))

        walked : Behind (z.cards ++ (z.card ∷ [])) (walk_from (suc (z.more - 1)) ps s.far b) (walk ps a b)
        walked =
            let m : z.more ≡ suc (z.more - 1) = omega (arith, far_less h, z.enough) in
            let v : Behind z.cards (after ps z.card b (walk_from z.more ps (step ps z.card b).far b)) (walk ps a b) = rw
            (walk_goes_on ps z.more z.card b (over h)) at z.rest in
            subst (λ (x : Walk). Behind (z.cards ++ (z.card ∷ [])) x (walk ps a b)) (ap₂ (λ (x y : ℕ). walk_from x ps y b) m (sym far))
            (v.0, v.1 ∙ sym (append_snoc z.cards z.card (walk_from z.more ps (step ps z.card b).far b).met))

        stored : set written (taken + 1) s.far ≡ ((z.cards ++ (z.card ∷ [])) ++ (s.far ∷ [])) ++ replicate (255 - (taken + 1)) 0
        stored =
            let p = z.cards ++ (z.card ∷ []) in
            let f : 255 - taken ≡ suc (255 - (taken + 1)) = omega (arith, room_left h) in
            ap (λ (x : List ℕ). set x (taken + 1) s.far) (z.met ∙ ap (λ (x : ℕ). p ++ replicate x 0) f)
            ∙ set_at p 0 (replicate (255 - (taken + 1)) 0) s.far (taken + 1) left
            ∙ sym (append_snoc p s.far (replicate (255 - (taken + 1)) 0))

    -- arrived or stuck
    pub walk_stops : (arrived : Bool) → one arrived ≡ s.outcome → s.outcome ≢ 2 → plan_columns ps ≤ 255
        → RouteIs (walk ps a b) (record { arrived = arrived; hops = taken }) written
    unfolding walk_hops
    walk_stops arrived e n few =
        let v = rw (walk_ended ps z.more z.card b (λ h. n (outcome ∙ h))) at z.rest in
        let l : length (walk ps a b).met ≡ taken + 1 = ap length v.1 ∙ simp length-append (omega (arith, z.long)) in
        let f : 256 - length (walk ps a b).met ≡ 255 - taken = omega arith in
        record {
          arrived = e ∙ outcome ∙ sym v.0;
          hops = omega arith;
          met = z.met ∙ ap₂ (λ (x : List ℕ) (y : ℕ). x ++ replicate y 0) (sym v.1) (sym f);
        }

-- a step that is not over a link has arrived or is stuck
pub ended_step : (s : Onward) (t : Bool) → (IsTrue t ↔ (s ≡ Arrived)) → ((i c : ℕ) → s ≢ Over i c)
    → (one t ≡ (step_seen s).outcome) × ((step_seen s).outcome ≢ 2)
ended_step Stuck true e n = absurd (let z = ap (λ (s : Onward). (step_seen s).outcome) (e.0 refl) in omega arith)
ended_step Stuck false e n = (refl, λ h. omega arith)
ended_step Arrived t e n = rw (e.1 refl) (refl, λ h. omega arith)
ended_step (Over i c) t e n = absurd (n i c refl)
