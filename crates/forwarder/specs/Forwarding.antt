-- A step and a walk on a plan's bytes, also on plans that reading refuses with 13. Assumes nothing: these are definitions.
use Rattle.std.specs.Prelude.{Bool, ◌&&◌, cond, List, [], ◌∷◌, ℕ, zero, suc, ltb, eqb}
use Rattle.rack.specs.Lists.{lowest}
use Rattle.rack.specs.Wiring.{Link, link_count, link_at, touches, other_end}
use Rattle.rack.specs.PlanFile.{plan_cards, plan_columns, plan_wiring, plan_hamming}
use Rattle.forwarder.specs.declared.step.Step.{Step as Onward}
use Rattle.forwarder.specs.declared.step.Step.TheVariants.{Stuck, Arrived, Over}

-- greedy forwarding: 0 stuck (a local minimum), 1 arrived, 2 over a link to the card at its far end
pub record Step : Type 0 where
  pub outcome : ℕ
  pub link : ℕ
  pub far : ℕ

abbrev pub step_of : (outcome link far : ℕ) → Step
step_of o i c = record { outcome = o; link = i; far = c }

-- what a call answers, as a step
abbrev pub step_seen : Onward → Step
step_seen Stuck = step_of 0 0 0
step_seen Arrived = step_of 1 0 0
step_seen (Over i c) = step_of 2 i c

-- the link is one of card a's, between cards, and its far address differs from b's in fewer places than a's own does
unfoldable pub leads_nearer : List ℕ → (a b : ℕ) → Link → Bool
leads_nearer ps a b l =
    ltb l.first (plan_cards ps) && ltb l.second (plan_cards ps) && touches a l
    && ltb (plan_hamming ps (other_end a l) b) (plan_hamming ps a b)

-- from card a towards card b over the first link in rising order that leads nearer
unfoldable pub step : List ℕ → (a b : ℕ) → Step
step ps a b =
    let w = plan_wiring ps in
    let i = lowest (link_count w) (λ i. leads_nearer ps a b (link_at w i)) in
    cond (eqb a b) (step_of 1 0 0) (cond (ltb i (link_count w)) (step_of 2 i (other_end a (link_at w i))) (step_of 0 0 0))

-- the route of a walk: how it ended (0 stuck, 1 arrived), the cards met, the first card first, and the links taken
pub record Walk : Type 0 where
  pub arrived : ℕ
  pub met : List ℕ
  pub taken : List ℕ

abbrev pub walk_of : (arrived : ℕ) → (met taken : List ℕ) → Walk
walk_of o cs is = record { arrived = o; met = cs; taken = is }

-- steps until arrived or stuck, at most `left` of them
unfoldable pub walk_from : (left : ℕ) → List ℕ → (a b : ℕ) → Walk
walk_from zero ps a b = walk_of 0 (a ∷ []) []
walk_from (suc left) ps a b =
    let s = step ps a b in
    let rest = walk_from left ps s.far b in
    cond (eqb s.outcome 2) (walk_of rest.arrived (a ∷ rest.met) (s.link ∷ rest.taken)) (walk_of s.outcome (a ∷ []) [])

-- each step lessens the differing places, of which there are at most k
unfoldable pub walk : List ℕ → (a b : ℕ) → Walk
walk ps a b = walk_from (suc (plan_columns ps)) ps a b
