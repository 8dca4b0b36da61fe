-- What is promised of the C calls, with every condition written out. Each statement is proved in proofs/Promises.antt under its name.
use Rattle.std.specs.Prelude.{◌≡◌, true, ◌↔◌, List, ℕ, suc, ◌+◌, ◌≤◌, ◌<◌, length}
use Rattle.rack.specs.Limits.{lent_plan, most_traffic}
use Rattle.rack.specs.Hops.{hops, connected}
use Rattle.rack.specs.Buffers.{number32_at}
use Rattle.rack.specs.WiringFile.{file_wiring, form_refusal}
use Rattle.rack.specs.PlanFile.{plan_cards, plan_wiring}
use Rattle.reader.specs.Plan.{layout_holds, plan_refusal}
use Rattle.reader.specs.Promises.{Measured}
use Rattle.forwarder.specs.Calls.{Arrived}
use Rattle.jolvente.specs.Records.{lent_record, lent_met_bytes, cards_in, counts_in, walked_in}
use Rattle.jolvente.specs.CCalls.{CWriteSays, CFound, CReadSays, CWalkSays, CFull}

-- demands 2 and 3 (docs/REQUIREMENTS.md) of the writer: `CAsked` has no condition besides these
unfoldable pub CWritingFinds : Type 0
CWritingFinds =
    (bs : List ℕ) (r : ℕ) (plan plan_now rec rec_now : List ℕ) → CWriteSays bs r plan plan_now rec rec_now →
    length plan ≡ lent_plan → length rec ≡ lent_record → (form_refusal bs).number ≡ 0 → connected (file_wiring bs) ≡ true →
    CFound bs r plan_now

-- a plan that the reader does not refuse is measured: what every walk on it leans on
unfoldable pub CReadingMeasures : Type 0
CReadingMeasures = (ps : List ℕ) (r : ℕ) (rec rec_now : List ℕ) → CReadSays ps r rec rec_now → r ≡ 0 → Measured ps

-- demand 3 of the walk, of what C reads back from the lent bytes, where the record's counts are its caller's: `CFrame` and `CanTake` have no
-- condition besides these
unfoldable pub CWalkArrives : Type 0
CWalkArrives =
    (ps : List ℕ) (a b u r : ℕ) (met met_now rec rec_now : List ℕ) → CWalkSays ps a b u r met met_now rec rec_now →
    plan_refusal ps ≡ 0 → a < plan_cards ps → b < plan_cards ps → u ≤ 15 → length met ≡ lent_met_bytes → length rec ≡ lent_record →
    suc (number32_at rec 8) ≤ most_traffic → number32_at rec 12 + hops (plan_wiring ps) a b ≤ most_traffic →
    Arrived ps a b (counts_in rec) (walked_in r rec_now) (cards_in met_now)

-- where a count can't take it: 15, and all is as it was
unfoldable pub CWalkFull : Type 0
CWalkFull =
    (ps : List ℕ) (a b u r : ℕ) (met met_now rec rec_now : List ℕ) → CWalkSays ps a b u r met met_now rec rec_now →
    plan_refusal ps ≡ 0 → a < plan_cards ps → b < plan_cards ps → u ≤ 15 → length met ≡ lent_met_bytes → length rec ≡ lent_record →
    (suc (number32_at rec 8) ≤ most_traffic → most_traffic < number32_at rec 12 + hops (plan_wiring ps) a b) →
    CFull r met met_now rec rec_now

-- "18 if a caller is over 15": exactly then, where the lent bytes have their lengths and the plan its layout; and all is as it was
unfoldable pub CCallerRefused : Type 0
CCallerRefused =
    (ps : List ℕ) (a b u r : ℕ) (met met_now rec rec_now : List ℕ) → CWalkSays ps a b u r met met_now rec rec_now →
    ((r ≡ 18) ↔ ((length met ≡ lent_met_bytes) × (length rec ≡ lent_record) × (layout_holds ps ≡ true) × (15 < u)))
    × (r ≡ 18 → (met_now ≡ met) × (rec_now ≡ rec))
