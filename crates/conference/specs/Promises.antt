-- What is promised of a conference card. Each statement is proved in proofs/Promises.antt under its name. Quotations: docs/REQUIREMENTS.md.
use Rattle.std.specs.Prelude.{◌≡◌, true, ◌⊎◌, ◌↔◌, ◌≢◌, List, ℕ, ◌≤◌, ◌<◌}
use Rattle.rack.specs.Wiring.{Wiring}
use Rattle.rack.specs.Hops.{connected}
use Rattle.rack.specs.PlanFile.{plan_cards}
use Rattle.reader.specs.Plan.{plan_refusal}
use Rattle.conference.specs.Conference.{OnShortest, between, Conference, conference_refusal, ConferenceSays, CardOrNone}

-- what the test by sums of hops means: x lies on a shortest path between a and b
unfoldable pub BetweenMeans : Type 0
BetweenMeans =
    (w : Wiring) (a x b : ℕ) → connected w ≡ true → a < w.cards → x < w.cards → b < w.cards →
    (between w a x b ≡ true) ↔ OnShortest w a x b

-- of every answer that is no refusal: the card, the only one, with the majority's bits, or "none" exactly if there is no such card
unfoldable pub ConferencePromise : Type 0
ConferencePromise =
    (ps : List ℕ) (a b c : ℕ) (r : Conference) → ConferenceSays ps a b c r → r.number ≡ 0 → CardOrNone ps a b c r

-- an answer is given exactly to three cards of a plan that was read, and 14 exactly where one of the numbers is n or more; 12 and 13 are
-- those of reading
unfoldable pub ConferenceRefused : Type 0
ConferenceRefused =
    (ps : List ℕ) (a b c : ℕ) →
    let n = plan_cards ps in
    ((conference_refusal ps a b c ≡ 0) ↔ ((plan_refusal ps ≡ 0) × (a < n) × (b < n) × (c < n)))
    × ((conference_refusal ps a b c ≡ 14) ↔ ((plan_refusal ps ≡ 0) × ((n ≤ a) ⊎ (n ≤ b) ⊎ (n ≤ c))))
    × (plan_refusal ps ≢ 0 → conference_refusal ps a b c ≡ plan_refusal ps)

-- "The order of the three does not matter": each other order comes from these two exchanges
unfoldable pub ConferenceOrder : Type 0
ConferenceOrder =
    (ps : List ℕ) (a b c : ℕ) (r s : Conference) → ConferenceSays ps a b c r →
    (ConferenceSays ps b a c s → r ≡ s) × (ConferenceSays ps a c b s → r ≡ s)

-- "a card that is named twice is the one"
unfoldable pub ConferenceRepeated : Type 0
ConferenceRepeated =
    (ps : List ℕ) (a b : ℕ) (r : Conference) → ConferenceSays ps a a b r → r.number ≡ 0 → (r.found ≡ 1) × (r.card ≡ a)
