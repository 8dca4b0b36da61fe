-- What is promised of planning and plan writing, with every condition written out. Each statement is proved in proofs/Promises.antt
-- under its name. Demands and quotations: docs/REQUIREMENTS.md.
use Rattle.std.specs.Prelude.{◌≡◌, true, List, ℕ, length}
use Rattle.rack.specs.Hops.{connected}
use Rattle.rack.specs.WiringFile.{file_wiring, form_refusal}
use Rattle.rack.specs.Limits.{lent_words, lent_hops, lent_plan}
use Rattle.planner.specs.Planning.{PlanSays, WriteSays, AddressesFound, PlanFound}
use Rattle.planner.specs.Answer.{Answer}

-- demand 3 of planning, "for every well-formed, connected wiring": `Asked` has no condition besides these
unfoldable pub PlanningFinds : Type 0
PlanningFinds =
    (bs words words_now hop_bytes hop_bytes_now : List ℕ) (r : Answer) → PlanSays bs r words words_now hop_bytes hop_bytes_now →
    length words ≡ lent_words → length hop_bytes ≡ lent_hops → (form_refusal bs).number ≡ 0 → connected (file_wiring bs) ≡ true →
    AddressesFound (file_wiring bs) r words_now hop_bytes_now

-- demands 2 and 3 of plan writing, of the bits read back from the bytes: `AskedToWrite` has no condition besides these
unfoldable pub WritingFinds : Type 0
WritingFinds =
    (bs output output_now : List ℕ) (r : Answer) → WriteSays bs r output output_now →
    length output ≡ lent_plan → (form_refusal bs).number ≡ 0 → connected (file_wiring bs) ≡ true →
    PlanFound (file_wiring bs) r output_now
