-- What is promised of steps and walks. Each statement is proved in proofs/Promises.antt under its name. Demand 3 and quotations: docs/REQUIREMENTS.md.
use Rattle.std.specs.Prelude.{◌≡◌, Bool, true, false, ◌≢◌, List, [], ◌∷◌, ℕ, suc, ◌+◌, ◌≤◌, ◌<◌, length}
use Rattle.rack.specs.Limits.{most_traffic}
use Rattle.rack.specs.Wiring.{link_count, link_at, touches, other_end}
use Rattle.rack.specs.Hops.{hops, is_path}
use Rattle.rack.specs.PlanFile.{plan_cards, plan_links, plan_columns, plan_wiring, plan_bit}
use Rattle.reader.specs.Plan.{layout_holds, plan_refusal}
use Rattle.forwarder.specs.Forwarding.{step_of, leads_nearer, step, walk}
use Rattle.forwarder.specs.Calls.{Stepped, Walked, StepSays, lent_met, walk_hops, WalkSays, Arrived, Full}
use Rattle.forwarder.specs.declared.walk.Tally.{Tally}

-- "It takes the first whose far address differs from b's in fewer places than a's own does": arrived exactly if a = b,
-- over a link exactly if that link leads nearer and no lower one does, else stuck
unfoldable pub StepFirst : Type 0
StepFirst =
    (ps : List ℕ) (a b : ℕ) →
    let w = plan_wiring ps in
    let nearer : ℕ → Bool = λ i. leads_nearer ps a b (link_at w i) in
    (a ≡ b → step ps a b ≡ step_of 1 0 0)
    × ((i : ℕ) → a ≢ b → i < link_count w → nearer i ≡ true → ((j : ℕ) → j < i → nearer j ≡ false) →
    step ps a b ≡ step_of 2 i (other_end a (link_at w i)))
    × (a ≢ b → ((i : ℕ) → i < link_count w → nearer i ≡ false) → step ps a b ≡ step_of 0 0 0)

-- link i is one of card a's in the plan
abbrev pub LinkOf : List ℕ → (a i : ℕ) → Type 0
LinkOf ps a i = (i < link_count (plan_wiring ps)) × (touches a (link_at (plan_wiring ps) i) ≡ true)

-- two plans have the same bits in card c's address
abbrev pub SameAddress : (ps qs : List ℕ) → (c : ℕ) → Type 0
SameAddress ps qs c = (j : ℕ) → j < plan_columns ps → plan_bit ps c j ≡ plan_bit qs c j

abbrev pub SameIfCard : (ps qs : List ℕ) → (c : ℕ) → Type 0
SameIfCard ps qs c = c < plan_cards ps → SameAddress ps qs c

-- where two plans agree in "the three sizes", "a's links" and "the far addresses"
abbrev pub IfAlike : (ps qs : List ℕ) → (a : ℕ) → (claim : Type 0) → Type 0
IfAlike ps qs a claim =
    plan_cards ps ≡ plan_cards qs → plan_links ps ≡ plan_links qs → plan_columns ps ≡ plan_columns qs →
    ((i : ℕ) → i < plan_links ps → touches a (link_at (plan_wiring ps) i) ≡ touches a (link_at (plan_wiring qs) i)) →
    ((i : ℕ) → LinkOf ps a i → other_end a (link_at (plan_wiring ps) i) ≡ other_end a (link_at (plan_wiring qs) i)) →
    ((i : ℕ) → LinkOf ps a i → SameIfCard ps qs (other_end a (link_at (plan_wiring ps) i))) →
    claim

-- "The step depends on a and b, a's links, the far addresses, a's own address and b's, and on nothing else beyond the three sizes"
unfoldable pub StepLocal : Type 0
StepLocal = (ps qs : List ℕ) (a b : ℕ) → IfAlike ps qs a (SameAddress ps qs a → SameAddress ps qs b → step ps a b ≡ step qs a b)

-- so do the refusal and the answer of the call, with the plan's length; a number that is no card has no address to agree in
unfoldable pub StepCallLocal : Type 0
StepCallLocal =
    (ps qs : List ℕ) (a b : ℕ) (r s : Stepped) →
    IfAlike ps qs a
    (SameIfCard ps qs a → SameIfCard ps qs b → length ps ≡ length qs → StepSays ps a b r → StepSays qs a b s → r ≡ s)

-- the cards met and the links taken are those of one step after another, and the last step is not over a link
abbrev pub StepsAlong : List ℕ → (b : ℕ) → (met taken : List ℕ) → Type 0
StepsAlong ps b [] is = ⊥
StepsAlong ps b (c ∷ []) [] = (step ps c b).outcome ≡ 2 → ⊥
StepsAlong ps b (c ∷ []) (i ∷ is) = ⊥
StepsAlong ps b (c ∷ d ∷ cs) [] = ⊥
StepsAlong ps b (c ∷ d ∷ cs) (i ∷ is) =
    ((step ps c b).outcome ≡ 2) × ((step ps c b).link ≡ i) × ((step ps c b).far ≡ d) × StepsAlong ps b (d ∷ cs) is

abbrev pub last_of : (c : ℕ) → List ℕ → ℕ
last_of c [] = c
last_of c (d ∷ cs) = last_of d cs

-- "A walk repeats steps until arrived or stuck": it begins at a, ends by itself and fits the lent numbers
unfoldable pub WalkEnds : Type 0
WalkEnds =
    (ps : List ℕ) (a b : ℕ) → layout_holds ps ≡ true →
    (cs : List ℕ) × ((walk ps a b).met ≡ a ∷ cs) × StepsAlong ps b (a ∷ cs) (walk ps a b).taken
    × ((walk ps a b).arrived ≡ (step ps (last_of a cs) b).outcome) × (length (a ∷ cs) ≤ lent_met)

-- "Every frame on a plan that was read arrives by the fewest links": the walk arrives, the cards met are one more than the hops,
-- the first is a, the last is b, and each is linked to the next
unfoldable pub FrameArrives : Type 0
FrameArrives =
    (ps : List ℕ) (a b : ℕ) → plan_refusal ps ≡ 0 → a < plan_cards ps → b < plan_cards ps →
    ((walk ps a b).arrived ≡ 1)
    × ((cs : List ℕ) × ((walk ps a b).met ≡ a ∷ cs) × (is_path (plan_wiring ps) a cs b ≡ true) × (length cs ≡ hops (plan_wiring ps) a b))

-- demand 3 of the call, with every condition written out: "every frame on a plan that was read arrives by the fewest links", where the
-- counts can take it. `Frame` and `CanTake` have no condition besides these
unfoldable pub WalkArrives : Type 0
WalkArrives =
    (ps : List ℕ) (a b : ℕ) (t : Tally) (r : Walked) (old new : List ℕ) → WalkSays ps a b t r old new →
    plan_refusal ps ≡ 0 → a < plan_cards ps → b < plan_cards ps → length old ≡ lent_met →
    suc t.frames ≤ most_traffic → t.hops + hops (plan_wiring ps) a b ≤ most_traffic → Arrived ps a b t r new

-- where a count can't take it: 15, and all is as it was
unfoldable pub WalkFull : Type 0
WalkFull =
    (ps : List ℕ) (a b : ℕ) (t : Tally) (r : Walked) (old new : List ℕ) → WalkSays ps a b t r old new →
    plan_refusal ps ≡ 0 → a < plan_cards ps → b < plan_cards ps → length old ≡ lent_met →
    (suc t.frames ≤ most_traffic → most_traffic < t.hops + hops (plan_wiring ps) a b) → Full t r old new

-- "A stuck walk changes neither count": it is an answer, with its hops, and never 15
unfoldable pub StuckUncounted : Type 0
StuckUncounted =
    (ps : List ℕ) (a b : ℕ) (t : Tally) (r : Walked) (old new : List ℕ) → WalkSays ps a b t r old new →
    layout_holds ps ≡ true → a < plan_cards ps → b < plan_cards ps → length old ≡ lent_met → (walk ps a b).arrived ≡ 0 →
    (r.number ≡ 0) × (r.arrived ≡ 0) × (r.hops ≡ walk_hops (walk ps a b)) × (r.tally.frames ≡ t.frames) × (r.tally.hops ≡ t.hops)
