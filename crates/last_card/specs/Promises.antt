-- What is promised of adding a card and of taking the last one off. Each statement is proved in proofs/Promises.antt under its name.
-- Quotations: docs/REQUIREMENTS.md.
use Rattle.std.specs.Prelude.{◌≡◌, true, false, List, ◌⊎◌, ◌↔◌, ◌≢◌, ℕ, ◌+◌, ◌-◌, ◌≤◌, ◌<◌, length, take}
use Rattle.rack.specs.Limits.{lent_plan}
use Rattle.rack.specs.Wiring.{link_count, link_at, other_end}
use Rattle.rack.specs.WiringFile.{file_bytes}
use Rattle.rack.specs.PlanFile.{plan_cards, plan_links, plan_wiring}
use Rattle.planner.specs.Planning.{WriteSays}
use Rattle.planner.specs.Answer.{Answer}
use Rattle.reader.specs.Plan.{plan_refusal}
use Rattle.reader.specs.Reading.{Sizes, ReadSays}
use Rattle.pendant.specs.Pendant.{with_card, without_card, last_hangs}
use Rattle.totals.specs.Totals.{hops_to}
use Rattle.plan_totals.specs.Summed.{plan_total}
use Rattle.last_card.specs.Calls.{SummedPlan, add_card_refusal, take_off_refusal, AddSays, TakeOffSays}

-- "another sum in it is 13": the plan is read, and the sum that comes with it is its own
abbrev pub ReadWith : List ℕ → (total : ℕ) → Type 0
ReadWith ps t = (plan_refusal ps ≡ 0) × (t ≡ plan_total ps)

-- when each number is said: the plan's own first, 13 for another sum, then 14, "16 if n is 256 or m is 2,048"
unfoldable pub AddRefused : Type 0
AddRefused =
    (ps : List ℕ) (t c : ℕ) →
    let x = add_card_refusal ps t c 16390 in
    let n = plan_cards ps in
    let full = (n ≡ 256) ⊎ (plan_links ps ≡ 2048) in
    ((x ≡ 0) ↔ (ReadWith ps t × (c < n) × (full → ⊥)))
    × ((x ≡ 14) ↔ (ReadWith ps t × (n ≤ c)))
    × ((x ≡ 16) ↔ (ReadWith ps t × (c < n) × full))
    × (plan_refusal ps ≢ 0 → x ≡ plan_refusal ps)
    × (plan_refusal ps ≡ 0 → t ≢ plan_total ps → x ≡ 13)
    × ((room : ℕ) → room ≢ 16390 → add_card_refusal ps t c room ≡ 1)

-- .. and of taking off, "17 if the last card can't be taken off so, the only card included"
unfoldable pub TakeOffRefused : Type 0
TakeOffRefused =
    (ps : List ℕ) (t : ℕ) →
    let x = take_off_refusal ps t 16390 in
    let hangs = last_hangs (plan_wiring ps) in
    ((x ≡ 0) ↔ (ReadWith ps t × (hangs ≡ true)))
    × ((x ≡ 17) ↔ (ReadWith ps t × (hangs ≡ false)))
    × (ReadWith ps t → plan_cards ps ≡ 1 → x ≡ 17)
    × (plan_refusal ps ≢ 0 → x ≡ plan_refusal ps)
    × (plan_refusal ps ≡ 0 → t ≢ plan_total ps → x ≡ 13)
    × ((room : ℕ) → room ≢ 16390 → take_off_refusal ps t room ≡ 1)

-- "the lent bytes keep theirs", "0 with a refusal": with every refusal of either call, the length is 0 and so is the sum
unfoldable pub RefusalsKeep : Type 0
RefusalsKeep =
    (ps : List ℕ) (t : ℕ) (r : SummedPlan) (output output_now : List ℕ) → r.number ≢ 0 →
    ((c : ℕ) → AddSays ps t c r output output_now → (r.length ≡ 0) × (r.total ≡ 0) × (output_now ≡ output))
    × (TakeOffSays ps t r output output_now → (r.length ≡ 0) × (r.total ≡ 0) × (output_now ≡ output))

-- the new plan is read, with the changed wiring inside, and "the new plan's sum" is that of this wiring
unfoldable pub AddedIsRead : Type 0
AddedIsRead =
    (ps : List ℕ) (t c : ℕ) (r : SummedPlan) (s : Sizes) (output output_now : List ℕ) → AddSays ps t c r output output_now → r.number ≡ 0 →
    let new = take r.length output_now in
    ReadSays new s → (s.number ≡ 0) × (plan_wiring new ≡ with_card (plan_wiring ps) c) × (r.total ≡ plan_total new)

unfoldable pub TakenOffIsRead : Type 0
TakenOffIsRead =
    (ps : List ℕ) (t : ℕ) (r : SummedPlan) (s : Sizes) (output output_now : List ℕ) → TakeOffSays ps t r output output_now → r.number ≡ 0 →
    let new = take r.length output_now in
    ReadSays new s → (s.number ≡ 0) × (plan_wiring new ≡ without_card (plan_wiring ps)) × (r.total ≡ plan_total new)

-- "the bytes the planner would write for the changed wiring", of the calls: for that wiring's file `write_plan` gives the same length and
-- leaves the same bytes
unfoldable pub AddedAsWritten : Type 0
AddedAsWritten =
    (ps : List ℕ) (t c : ℕ) (r : SummedPlan) (a : Answer) (output output_now other other_now : List ℕ) →
    AddSays ps t c r output output_now → r.number ≡ 0 → length other ≡ lent_plan →
    WriteSays (file_bytes (with_card (plan_wiring ps) c)) a other other_now →
    (a.number ≡ 0) × (a.value ≡ r.length) × (other_now ≡ output_now)

unfoldable pub TakenOffAsWritten : Type 0
TakenOffAsWritten =
    (ps : List ℕ) (t : ℕ) (r : SummedPlan) (a : Answer) (output output_now other other_now : List ℕ) →
    TakeOffSays ps t r output output_now → r.number ≡ 0 → length other ≡ lent_plan →
    WriteSays (file_bytes (without_card (plan_wiring ps))) a other other_now →
    (a.number ≡ 0) × (a.value ≡ r.length) × (other_now ≡ output_now)

-- "adding raises the old sum by n and by the given card's hops to all cards", of the call: the old plan's n, and hops in the old rack
unfoldable pub AddedTotal : Type 0
AddedTotal =
    (ps : List ℕ) (t c : ℕ) (r : SummedPlan) (output output_now : List ℕ) → AddSays ps t c r output output_now → r.number ≡ 0 →
    r.total ≡ t + plan_cards ps + hops_to (plan_wiring ps) (plan_cards ps) c

-- .. "and that taking off undoes this": the old sum is the new one raised by the cards left, and by the hops to them of the card that the
-- last one hung on
unfoldable pub TakenOffTotal : Type 0
TakenOffTotal =
    (ps : List ℕ) (t : ℕ) (r : SummedPlan) (output output_now : List ℕ) → TakeOffSays ps t r output output_now → r.number ≡ 0 →
    let w = plan_wiring ps in
    let left = plan_cards ps - 1 in
    t ≡ r.total + left + hops_to (without_card w) left (other_end left (link_at w (link_count w - 1)))

-- "taking off undoes adding", of the calls: number 0, the old length, the old bytes, the old sum
unfoldable pub TakingOffUndoes : Type 0
TakingOffUndoes =
    (ps : List ℕ) (t c : ℕ) (r s : SummedPlan) (output output_now other other_now : List ℕ) →
    AddSays ps t c r output output_now → r.number ≡ 0 → length other ≡ lent_plan →
    TakeOffSays (take r.length output_now) r.total s other other_now →
    (s.number ≡ 0) × (s.length ≡ length ps) × (take s.length other_now ≡ ps) × (s.total ≡ t)
