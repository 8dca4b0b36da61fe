-- What is promised of reading a plan. Each statement is proved in proofs/Promises.antt under its name. Quotations: docs/REQUIREMENTS.md.
use Rattle.std.specs.Prelude.{◌≡◌, true, false, List, [], ◌↔◌, ◌≢◌, ℕ, ◌+◌, ◌*◌, ◌≤◌, ◌<◌, length, get_or, take}
use Rattle.std.specs.Int.Bits.{bit_xor}
use Rattle.rack.specs.Limits.{lent_plan}
use Rattle.rack.specs.Lists.{sum, tabulate}
use Rattle.rack.specs.Wiring.{link_count, link_at}
use Rattle.rack.specs.Hops.{hops}
use Rattle.rack.specs.Columns.{address}
use Rattle.rack.specs.WiringFile.{file_wiring, file_refusal, file_bytes}
use Rattle.counting.specs.Ones.{Counts}
use Rattle.planner.specs.PlanBytes.{plan_bytes}
use Rattle.planner.specs.Planning.{WriteSays}
use Rattle.planner.specs.Answer.{Answer}
use Rattle.rack.specs.PlanFile.{plan_cards, plan_links, plan_columns, plan_wiring, bit_from, plan_hamming, address_size, address_start}
use Rattle.reader.specs.Plan.{layout_holds, plan_refusal}
use Rattle.reader.specs.Reading.{Sizes, ReadSays, address_refusal, address_part}

-- "A plan file is read exactly if it is the one that the planner writes for the wiring inside it": that wiring is accepted;
-- and what the planner writes for an accepted file is read, with the same wiring inside
unfoldable pub ReadExactly : Type 0
ReadExactly =
    ((ps : List ℕ) → plan_refusal ps ≡ 0 →
    ((file_refusal (file_bytes (plan_wiring ps))).number ≡ 0) × (file_wiring (file_bytes (plan_wiring ps)) ≡ plan_wiring ps)
    × (plan_bytes (plan_wiring ps) ≡ ps))
    × ((bs : List ℕ) → (file_refusal bs).number ≡ 0 →
    (plan_refusal (plan_bytes (file_wiring bs)) ≡ 0) × (plan_wiring (plan_bytes (file_wiring bs)) ≡ file_wiring bs))

-- the same of the two calls: what the writer leaves is read, with the file's wiring inside, and a plan that is read is what it leaves
-- for the file of the wiring inside
unfoldable pub CallsAgree : Type 0
CallsAgree =
    ((bs output output_now : List ℕ) (a : Answer) (s : Sizes) → WriteSays bs a output output_now → a.number ≡ 0 →
    let ps = take a.value output_now in
    ReadSays ps s → (s.number ≡ 0) × (plan_wiring ps ≡ file_wiring bs))
    × ((ps output output_now : List ℕ) (a : Answer) (s : Sizes) → ReadSays ps s → s.number ≡ 0 → length output ≡ lent_plan →
    WriteSays (file_bytes (plan_wiring ps)) a output output_now → (a.number ≡ 0) × (take a.value output_now ≡ ps))

-- 12: it does not apply exactly if the sizes are in their ranges and give the plan's length
unfoldable pub LayoutInRange : Type 0
LayoutInRange =
    (ps : List ℕ) →
    (layout_holds ps ≡ true)
    ↔ ((6 ≤ length ps) × (1 ≤ plan_cards ps) × (plan_cards ps ≤ 256) × (plan_links ps ≤ 2048) × (plan_columns ps ≤ 255)
    × (length ps ≡ 6 + 4 * plan_links ps + plan_cards ps * address_size (plan_columns ps)))

-- "The largest plan has 16,390 bytes"
unfoldable pub LargestPlan : Type 0
LargestPlan = (ps : List ℕ) → layout_holds ps ≡ true → length ps ≤ 16390

-- "B", the bytes of an address: as few as hold k bits
unfoldable pub AddressFits : Type 0
AddressFits = (k : ℕ) → (k ≤ 8 * address_size k) × (8 * address_size k < k + 8)

-- all that forwarding and conferences lean on, with no word of the planner: a plan with a layout, links between its cards,
-- a path from each card to each, and addresses that differ in as many places as there are hops
pub record Measured (ps : List ℕ) : Type 0 where
  pub layout : layout_holds ps ≡ true
  pub inside : (i : ℕ) → i < link_count (plan_wiring ps) →
      ((link_at (plan_wiring ps) i).first < plan_cards ps) × ((link_at (plan_wiring ps) i).second < plan_cards ps)
  pub reached : (a b : ℕ) → a < plan_cards ps → b < plan_cards ps → hops (plan_wiring ps) a b < plan_cards ps
  pub measured : (a b : ℕ) → a < plan_cards ps → b < plan_cards ps → plan_hamming ps a b ≡ hops (plan_wiring ps) a b

unfoldable pub ReaderPromise : Type 0
ReaderPromise = (ps : List ℕ) → plan_refusal ps ≡ 0 → Measured ps

-- the hops between two cards of a plan that was read, as a card's firmware counts them: its spare bits are zero, so the entries of all
-- bytes of the two addresses add up to them
unfoldable pub HopsByTable : Type 0
HopsByTable =
    (table ps : List ℕ) (a b : ℕ) → Counts table → plan_refusal ps ≡ 0 → a < plan_cards ps → b < plan_cards ps →
    hops (plan_wiring ps) a b
    ≡ sum (tabulate (address_size (plan_columns ps)) (λ t. get_or table (bit_xor (get_or ps (address_start ps a + t) 0) (get_or ps (address_start ps b + t) 0)) 0))

-- "With a refusal the part is empty and the number is told beside it"
unfoldable pub RefusedAddressEmpty : Type 0
RefusedAddressEmpty = (ps : List ℕ) (c : ℕ) → address_refusal ps c ≢ 0 → address_part ps c ≡ []

-- "n addresses of B bytes each", "column j is bit j mod 8 of byte j / 8", "bits past column k−1 are zero": of what is handed out
unfoldable pub AddressWhole : Type 0
AddressWhole =
    (ps : List ℕ) (c : ℕ) → address_refusal ps c ≡ 0 →
    (length (address_part ps c) ≡ address_size (plan_columns ps))
    × ((j : ℕ) → j < 8 * address_size (plan_columns ps) → bit_from (address_part ps c) 0 j ≡ address (plan_wiring ps) c j)
    × ((j : ℕ) → plan_columns ps ≤ j → address (plan_wiring ps) c j ≡ false)

-- 14: exactly of a plan that was read, and a card number that is n or more
unfoldable pub NoSuchCard : Type 0
NoSuchCard = (ps : List ℕ) (c : ℕ) → (address_refusal ps c ≡ 14) ↔ ((plan_refusal ps ≡ 0) × (plan_cards ps ≤ c))
