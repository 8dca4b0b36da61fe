-- What is promised of an opened plan. Each statement is proved in proofs/Promises.antt under its name. Demand 3 and quotations: docs/REQUIREMENTS.md.
use Rattle.std.specs.Prelude.{◌≡◌, true, List, [], ◌↔◌, ◌≢◌, ℕ, ◌≤◌, take}
use Rattle.std.specs.Borrow.{Bor}
use Rattle.rack.specs.Buffers.{SliceIs}
use Rattle.rack.specs.Limits.{lent_plan}
use Rattle.rack.specs.PlanFile.{plan_cards, plan_links, plan_columns}
use Rattle.reader.specs.Plan.{layout_holds, plan_refusal}
use Rattle.reader.specs.Reading.{part_unless, AddressSays}
use Rattle.forwarder.specs.Calls.{step_refusal, lent_met}
use Rattle.plan_totals.specs.Summed.{plan_total, total_refusal}
use Rattle.last_card.specs.Calls.{SummedPlan, add_card_refusal, take_off_refusal, AddSays, TakeOffSays}
use Rattle.crossing.specs.Crossing.{FrameStep, FrameStepSays}
use Rattle.traffic.specs.declared.Traffic.{Traffic}
use Rattle.callers.specs.Walking.{CallerWalk, caller_walk_refusal, CallerWalkSays, CallerFrame, CallerCanTake, CallerArrived}
use Rattle.conference.specs.Conference.{Conference, ConferenceSays}
use Rattle.carried.specs.Carried.{carries, address_refusal_with, AddressSaysWith, conference_refusal_with, ConferenceSaysWith, WalkWithArrival}
use Rattle.opened.specs.Opening.{Opened, opened_bytes, OpeningSays}

-- the sizes carried with the bytes are those in them
pub record SizesCarried (p : Opened) : Type 0 where
  pub cards : p.cards ≡ plan_cards p.bytes.now
  pub links : p.links ≡ plan_links p.bytes.now
  pub columns : p.columns ≡ plan_columns p.bytes.now

-- the sum carried with them is that of the wiring in them
abbrev pub SumCarried : Opened → Type 0
SumCarried p = p.total ≡ plan_total p.bytes.now

-- the test of the sizes in plain words
unfoldable pub CarriesExactly : Type 0
CarriesExactly =
    (p : Opened) → (carries p.bytes.now p.cards p.links p.columns ≡ true) ↔ ((layout_holds p.bytes.now ≡ true) × SizesCarried p)

-- "An opened plan carries the plan bytes themselves together with their three sizes", and holds the sum of hops: one that was not refused;
-- and each call sees them
unfoldable pub OpeningWhole : Type 0
OpeningWhole =
    (ps : List ℕ) (at : ℕ × ℕ) (p : Opened) → OpeningSays ps at p → p.number ≡ 0 →
    SliceIs at ps p.bytes × SizesCarried p × SumCarried p × (opened_bytes p ≡ ps)

-- "A refused opening has its number, no bytes and sizes 0", and the sum "0 after a refused opening"
unfoldable pub RefusedOpeningEmpty : Type 0
RefusedOpeningEmpty =
    (ps : List ℕ) (at : ℕ × ℕ) (p : Opened) → OpeningSays ps at p → p.number ≢ 0 →
    (p.number ≡ plan_refusal ps) × (p.bytes.now ≡ []) × (p.cards ≡ 0) × (p.links ≡ 0) × (p.columns ≡ 0) × (p.total ≡ 0)

-- this number in every call that tests 13, and no part of the bytes for an address
pub record Where13IsTested (x : ℕ) (p : Opened) : Type 0 where
  pub read : total_refusal (opened_bytes p) p.total ≡ x
  pub address : (c : ℕ) → address_refusal_with (opened_bytes p) p.total c ≡ x
  pub part : (c : ℕ) → part_unless (address_refusal_with (opened_bytes p) p.total c) (opened_bytes p) c ≡ []
  pub conference : (a b c : ℕ) → conference_refusal_with (opened_bytes p) p.total a b c ≡ x
  pub add : (c : ℕ) → add_card_refusal (opened_bytes p) p.total c lent_plan ≡ x
  pub take_off : take_off_refusal (opened_bytes p) p.total lent_plan ≡ x

-- 12 in every call
pub record TwelveInEveryCall (p : Opened) : Type 0 where
  pub reading : Where13IsTested 12 p
  pub step : (a b : ℕ) → step_refusal (opened_bytes p) a b ≡ 12
  pub walk : (a b u : ℕ) (t : Traffic) → caller_walk_refusal (opened_bytes p) a b u t lent_met ≡ 12

-- a refused opening, and sizes that differ from those in the bytes: whatever the sum is
unfoldable pub RefusedOpening : Type 0
RefusedOpening = (ps : List ℕ) (at : ℕ × ℕ) (p : Opened) → OpeningSays ps at p → p.number ≢ 0 → TwelveInEveryCall p

unfoldable pub OtherSizes : Type 0
OtherSizes = (p : Opened) → (SizesCarried p → ⊥) → TwelveInEveryCall p

-- 13 in every call that tests it; a step and a walk are refused or not as on the plan's own bytes
pub record ThirteenButForFrames (p : Opened) : Type 0 where
  pub reading : Where13IsTested 13 p
  pub step : (a b : ℕ) → step_refusal (opened_bytes p) a b ≡ step_refusal p.bytes.now a b
  pub walk : (a b u : ℕ) (t : Traffic) (room : ℕ) →
      caller_walk_refusal (opened_bytes p) a b u t room ≡ caller_walk_refusal p.bytes.now a b u t room

-- "another sum in it is 13, in the calls that test 13"
unfoldable pub OtherSum : Type 0
OtherSum = (p : Opened) → plan_refusal p.bytes.now ≡ 0 → SizesCarried p → (SumCarried p → ⊥) → ThirteenButForFrames p

-- steps and walks do not look at the sum: on two plans with the same bytes and sizes they answer alike
unfoldable pub SumUnseen : Type 0
SumUnseen =
    (p q : Opened) → p.bytes.now ≡ q.bytes.now → p.cards ≡ q.cards → p.links ≡ q.links → p.columns ≡ q.columns →
    ((a b : ℕ) (r : FrameStep) → FrameStepSays (opened_bytes p) a b r → FrameStepSays (opened_bytes q) a b r)
    × ((a b u : ℕ) (t : Traffic) (r : CallerWalk) (old new : List ℕ) →
    WalkWithArrival (opened_bytes p) a b u t r old new → WalkWithArrival (opened_bytes q) a b u t r old new)

-- demand 3 by caller: a frame whose plan was read, and whose carried sizes are those in the bytes, arrives by the fewest links
unfoldable pub OpenedFrameArrives : Type 0
OpenedFrameArrives =
    (p : Opened) (a b u : ℕ) (t : Traffic) (r : CallerWalk) (old new : List ℕ) →
    SizesCarried p → CallerFrame p.bytes.now a b u old → CallerCanTake p.bytes.now a b u t →
    WalkWithArrival (opened_bytes p) a b u t r old new → CallerArrived p.bytes.now a b u t r new

-- on a plan with its layout, read or not, whose carried sizes are those in the bytes, a step and a walk answer as on the plan's own bytes: with
-- their columns, and with what the walk leaves
unfoldable pub OpenedStepAsBytes : Type 0
OpenedStepAsBytes =
    (p : Opened) (a b : ℕ) (r : FrameStep) → layout_holds p.bytes.now ≡ true → SizesCarried p →
    FrameStepSays (opened_bytes p) a b r → FrameStepSays p.bytes.now a b r

unfoldable pub OpenedWalkAsBytes : Type 0
OpenedWalkAsBytes =
    (p : Opened) (a b u : ℕ) (t : Traffic) (r : CallerWalk) (old new : List ℕ) → layout_holds p.bytes.now ≡ true → SizesCarried p →
    WalkWithArrival (opened_bytes p) a b u t r old new → CallerWalkSays p.bytes.now a b u t r old new

-- three cards of a plan that was read, and whose carried sizes and sum are those of the bytes, get the answer of the plan's own bytes
unfoldable pub OpenedConferenceAsBytes : Type 0
OpenedConferenceAsBytes =
    (p : Opened) (a b c : ℕ) (r : Conference) → plan_refusal p.bytes.now ≡ 0 → SizesCarried p → SumCarried p →
    ConferenceSaysWith (opened_bytes p) p.total a b c r → ConferenceSays p.bytes.now a b c r

-- on a plan that was read, and whose carried sizes are those in the bytes, adding and taking off answer as on the plan's own bytes with the
-- carried sum
unfoldable pub OpenedChangeAsBytes : Type 0
OpenedChangeAsBytes =
    (p : Opened) (r : SummedPlan) (old new : List ℕ) → plan_refusal p.bytes.now ≡ 0 → SizesCarried p →
    ((c : ℕ) → AddSays (opened_bytes p) p.total c r old new → AddSays p.bytes.now p.total c r old new)
    × (TakeOffSays (opened_bytes p) p.total r old new → TakeOffSays p.bytes.now p.total r old new)

-- "the new plan's sum": opening what adding or taking off leaves finds the sum that the call gave
unfoldable pub ChangedOpens : Type 0
ChangedOpens =
    (p q : Opened) (at : ℕ × ℕ) (r : SummedPlan) (old new : List ℕ) → r.number ≡ 0 → OpeningSays (take r.length new) at q →
    ((c : ℕ) → AddSays (opened_bytes p) p.total c r old new → (q.number ≡ 0) × (q.total ≡ r.total))
    × (TakeOffSays (opened_bytes p) p.total r old new → (q.number ≡ 0) × (q.total ≡ r.total))

-- "A card's address is handed out as that part of the plan's own bytes": of those of the plan that was opened
unfoldable pub OpenedAddressAsBytes : Type 0
OpenedAddressAsBytes =
    (ps : List ℕ) (at : ℕ × ℕ) (p : Opened) (c : ℕ) (r : Bor (List ℕ)) → OpeningSays ps at p → p.number ≡ 0 →
    AddressSaysWith (opened_bytes p) p.total p.bytes.ref_ptr c r → AddressSays ps at c r

-- a refused address is empty; 14 is said exactly of bytes that are read, with the sizes in them and their sum, and a card number that is n or
-- more
unfoldable pub OpenedAddressRefused : Type 0
OpenedAddressRefused =
    (p : Opened) (c : ℕ) →
    let x = address_refusal_with (opened_bytes p) p.total c in
    (x ≢ 0 → part_unless x (opened_bytes p) c ≡ [])
    × ((x ≡ 14) ↔ ((plan_refusal p.bytes.now ≡ 0) × SizesCarried p × SumCarried p × (p.cards ≤ c)))
