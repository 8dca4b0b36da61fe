-- Walks: one step after another, ended by the last step and not by the bound on their number. Assumes nothing.
use mathlib.Core.Path.{◌≡◌, refl, ap}
use mathlib.Core.Logic.{◌≢◌}
use mathlib.Core.List.{List, [], ◌∷◌}
use Prim.Native.Nat.{ℕ, zero, suc, ◌≤◌, ◌<◌}
use native.Mathlib.Omega.{arith}
use lib.ListN.{length}
use borrow.Author.Tests.{eq-eqb, ne_eqb}
use Rattle.rack.proofs.Logic.{by_eq}
use Rattle.rack.specs.PlanFile.{plan_columns, plan_hamming}
use Rattle.reader.proofs.Plan.{layout_facts}
use Rattle.reader.proofs.Addresses.{hamming_columns}
use Rattle.forwarder.specs.Forwarding.{Walk, walk_of, step, walk_from, walk}
use Rattle.forwarder.specs.Promises.{StepsAlong, last_of, WalkEnds}
use Rattle.forwarder.proofs.Stepping.{step_less}

module _ (ps : List ℕ) where
  pub walk_ended : (left a b : ℕ) → (step ps a b).outcome ≢ 2 → walk_from (suc left) ps a b ≡ walk_of (step ps a b).outcome (a ∷ []) []
  unfolding walk_from
  walk_ended left a b n = rw (ne_eqb (step ps a b).outcome 2 n) refl

  abbrev pub after : (a b : ℕ) → Walk → Walk
  after a b v = walk_of v.arrived (a ∷ v.met) ((step ps a b).link ∷ v.taken)

  pub walk_goes_on : (left a b : ℕ) → (step ps a b).outcome ≡ 2 → walk_from (suc left) ps a b ≡ after a b (walk_from left ps (step ps a b).far b)
  unfolding walk_from
  walk_goes_on left a b e = rw (eq-eqb (step ps a b).outcome 2 e) refl

  -- the cards met behind the first, and how the walk ended
  abbrev Runs : (a b : ℕ) → Walk → Type 0
  Runs a b v =
      (cs : List ℕ) × (v.met ≡ a ∷ cs) × StepsAlong ps b (a ∷ cs) v.taken × (v.arrived ≡ (step ps (last_of a cs) b).outcome) × (length cs ≤ plan_hamming ps a b)

  runs_on : (a b : ℕ) (v : Walk) → (step ps a b).outcome ≡ 2 → Runs (step ps a b).far b v → Runs a b (after a b v)
  runs_on a b v e (cs, met, along, ended, long) =
      ((step ps a b).far ∷ cs, ap (λ (x : List ℕ). a ∷ x) met, (e, refl, refl, along), ended, omega (arith, step_less ps a b e))

  walk_runs : (left a b : ℕ) → plan_hamming ps a b < left → Runs a b (walk_from left ps a b)
  walk_runs zero a b h = absurd (omega arith)
  walk_runs (suc left) a b h =
      by_eq (step ps a b).outcome 2
      (λ e. rw (walk_goes_on left a b e) (runs_on a b (walk_from left ps (step ps a b).far b) e
      (walk_runs left (step ps a b).far b (omega (arith, step_less ps a b e)))))
      (λ n. rw (walk_ended left a b n) ([], refl, n, refl, omega arith))

  pub walk_all_runs : (a b : ℕ) → Runs a b (walk ps a b)
  unfolding walk
  walk_all_runs a b = walk_runs (suc (plan_columns ps)) a b (omega (arith, hamming_columns ps a b))

pub walk_ends : WalkEnds
unfolding WalkEnds
walk_ends ps a b h =
    let r = walk_all_runs ps a b in
    (r.0, r.1, r.2, r.3, omega (arith, r.4, hamming_columns ps a b, (layout_facts ps h).few_columns))
