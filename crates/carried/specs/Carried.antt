-- The bytes that a call on an opened plan sees, and what the calls answer that test the sum of hops or promise more than they say. Assumes
-- nothing: these are definitions.
use Rattle.std.specs.Prelude.{◌≡◌, Bool, ◌&&◌, cond, List, [], ℕ, eqb}
use Rattle.std.specs.Borrow.{Bor}
use Rattle.rack.specs.PlanFile.{plan_cards, plan_links, plan_columns}
use Rattle.reader.specs.Plan.{layout_holds}
use Rattle.reader.specs.Promises.{Measured}
use Rattle.reader.specs.Reading.{Sizes, card_refusal, PartIs}
use Rattle.plan_totals.specs.Summed.{total_refusal, ReadWithTotalSays}
use Rattle.traffic.specs.declared.Traffic.{Traffic}
use Rattle.callers.specs.Walking.{CallerWalk, CallerWalkSays, CallerFrame, CallerCanTake, CallerArrived, CallerFull}
use Rattle.conference.specs.Conference.{Conference, three_refusal, ConferenceIs}
use Rattle.carried.specs.declared.Opened.{Opened}

-- the bytes have a plan's layout, and the sizes carried with them are those in them
unfoldable pub carries : List ℕ → (n m k : ℕ) → Bool
carries ps n m k = layout_holds ps && eqb n (plan_cards ps) && eqb m (plan_links ps) && eqb k (plan_columns ps)

-- what a call on an opened plan sees: its bytes, or none where its sizes are not those in them. No bytes are 12 in every call
unfoldable pub carried_bytes : List ℕ → (n m k : ℕ) → List ℕ
carried_bytes ps n m k = cond (carries ps n m k) ps []

abbrev pub seen : Opened → List ℕ
seen p = carried_bytes p.bytes.now p.cards p.links p.columns

-- reading, with the promise that forwarding leans on
pub record ReadWithPromise (ps : List ℕ) (total : ℕ) (r : Sizes) : Type 0 where
  pub says : ReadWithTotalSays ps total r
  pub promise : r.number ≡ 0 → Measured ps

-- a card's address, and a conference card: 12, 13 for another sum too, 14
abbrev pub address_refusal_with : List ℕ → (total card : ℕ) → ℕ
address_refusal_with ps t c = card_refusal (total_refusal ps t) (plan_cards ps) c

abbrev pub AddressSaysWith : List ℕ → (total : ℕ) (at : ℕ × ℕ) (card : ℕ) → Bor (List ℕ) → Type 0
AddressSaysWith ps t at c r = PartIs (address_refusal_with ps t c) ps at c r

abbrev pub conference_refusal_with : List ℕ → (total a b c : ℕ) → ℕ
conference_refusal_with ps t a b c = three_refusal (total_refusal ps t) (plan_cards ps) a b c

abbrev pub ConferenceSaysWith : List ℕ → (total a b c : ℕ) → Conference → Type 0
ConferenceSaysWith ps t a b c r = ConferenceIs (conference_refusal_with ps t a b c) ps a b c r

-- a walk by caller, with demand 3 (docs/REQUIREMENTS.md): a frame that its caller's counts can take arrives by the fewest links, and any other
-- is 15
pub record WalkWithArrival (ps : List ℕ) (a b u : ℕ) (t : Traffic) (r : CallerWalk) (old new : List ℕ) : Type 0 where
  pub says : CallerWalkSays ps a b u t r old new
  pub arrives : CallerFrame ps a b u old → CallerCanTake ps a b u t → CallerArrived ps a b u t r new
  pub full : CallerFrame ps a b u old → (CallerCanTake ps a b u t → ⊥) → CallerFull t r old new
