-- What is promised of twin cables, two links between the same cards. Each statement is proved in proofs/Promises.antt under its name.
-- Quotations: docs/REQUIREMENTS.md.
use Rattle.std.specs.Prelude.{◌≡◌, Bool, true, false, ◌↔◌, ◌≢◌, List, [], ◌∷◌, ◌++◌, ℕ, ◌-◌, ◌≤◌, ◌<◌, length, take}
use Rattle.rack.specs.Lists.{count, all, lowest}
use Rattle.rack.specs.Wiring.{Link, Wiring, wiring, link_count, link_at, joins, linked, touches}
use Rattle.rack.specs.Hops.{hops, connected}
use Rattle.rack.specs.Columns.{column, columns, column_count, address}
use Rattle.rack.specs.Embeddings.{times}
use Rattle.rack.specs.Refusals.{refusal, link_fault, links_refusal, well_formed, parity_refusal, rack_refusal}
use Rattle.rack.specs.PlanFile.{plan_wiring}
use Rattle.pendant.specs.Pendant.{with_card, last_hangs}
use Rattle.reader.specs.Plan.{layout_holds}
use Rattle.forwarder.specs.Forwarding.{step, walk}
use Rattle.forwarder.specs.Calls.{StepSays, Stepped}
use Rattle.last_card.specs.Calls.{SummedPlan, TakeOffSays}
use Rattle.last_card.specs.Promises.{ReadWith}

-- link i is "a third link between two cards": two earlier ones join them, drawn either way
abbrev pub ThirdLink : Wiring → (i : ℕ) → Type 0
ThirdLink w i =
    let p = (link_at w i).first in
    let q = (link_at w i).second in
    (i < link_count w) × (p < w.cards) × (q < w.cards) × (p ≢ q) × (count (joins p q) (take i w.links) ≡ 2)

-- 8 is said exactly of such a link, and carries it, where none of 6 to 8 applies to an earlier link
unfoldable pub ThirdRefused : Type 0
ThirdRefused =
    (w : Wiring) (i : ℕ) → (links_refusal w ≡ refusal 8 i) ↔ (ThirdLink w i × ((j : ℕ) → j < i → link_fault w j ≡ 0))

-- "two links may join the same cards", and no more: none of 6 to 8 applies exactly if each link joins two different cards and at most two links
-- join any two
unfoldable pub TwoMayJoin : Type 0
TwoMayJoin =
    (w : Wiring) →
    ((links_refusal w).number ≡ 0)
    ↔ (((i : ℕ) → i < link_count w →
    ((link_at w i).first < w.cards) × ((link_at w i).second < w.cards) × ((link_at w i).first ≢ (link_at w i).second))
    × ((a b : ℕ) → count (joins a b) w.links ≤ 2))

-- "They split the cards alike and share a column", drawn either way: in every rack in which links split the cards, refused with 11 or not
unfoldable pub TwinsAlike : Type 0
TwinsAlike =
    (w : Wiring) (i j : ℕ) → well_formed w ≡ true → connected w ≡ true → (parity_refusal w).number ≡ 0 →
    i < link_count w → j < link_count w → joins (link_at w i).first (link_at w i).second (link_at w j) ≡ true →
    column w (link_at w i) ≡ column w (link_at w j)

-- two racks of the same cards, with the same pairs of them linked: by one link or by twins, in any order, drawn either way
abbrev pub SamePairs : (v w : Wiring) → Type 0
SamePairs v w = (v.cards ≡ w.cards) × ((a b : ℕ) → linked v a b ≡ linked w a b)

-- twins change no hops
unfoldable pub TwinsKeepHops : Type 0
TwinsKeepHops = (v w : Wiring) → SamePairs v w → (a b : ℕ) → hops v a b ≡ hops w a b

-- nor what is said of a rack: it is accepted, or refused with 9, 10 or 11, as the rack without them is, and with 9 it is the same card
unfoldable pub TwinsKeepNumber : Type 0
TwinsKeepNumber =
    (v w : Wiring) → SamePairs v w → well_formed v ≡ true → well_formed w ≡ true →
    ((rack_refusal v).number ≡ (rack_refusal w).number) × (connected v ≡ false → rack_refusal v ≡ rack_refusal w)

-- nor the columns of an accepted one, but for their order, which is that of their lowest links
unfoldable pub TwinsKeepColumns : Type 0
TwinsKeepColumns =
    (v w : Wiring) → SamePairs v w → well_formed v ≡ true → well_formed w ≡ true → (rack_refusal v).number ≡ 0 →
    (column_count v ≡ column_count w) × ((c : List Bool) → times c (columns v) ≡ times c (columns w))

-- and where twins stand behind all other links, every column and every address is as it was, bit for bit
unfoldable pub TwinsBehind : Type 0
TwinsBehind =
    (w : Wiring) (ls : List Link) → well_formed w ≡ true → connected w ≡ true → (parity_refusal w).number ≡ 0 →
    all (λ l. linked w l.first l.second) ls ≡ true →
    let v = wiring w.cards (w.links ++ ls) in
    (columns v ≡ columns w) × ((c j : ℕ) → address v c j ≡ address w c j)

-- of a rack's links, i is the lowest that joins two cards
abbrev pub LowestJoining : Wiring → (a b i : ℕ) → Type 0
LowestJoining w a b i = (i < link_count w) × (lowest (link_count w) (λ j. joins a b (link_at w j)) ≡ i)

-- "a step takes the lower number": on every plan, also one that reading refuses with 13, a step over a link takes the lowest that joins its
-- card and the far card
unfoldable pub StepLowest : Type 0
StepLowest =
    (ps : List ℕ) (a b : ℕ) → (step ps a b).outcome ≡ 2 → LowestJoining (plan_wiring ps) a (step ps a b).far (step ps a b).link

-- so does the call's answer
unfoldable pub StepAnswerLowest : Type 0
StepAnswerLowest =
    (ps : List ℕ) (a b : ℕ) (r : Stepped) → StepSays ps a b r → r.outcome ≡ 2 → LowestJoining (plan_wiring ps) a r.far r.link

-- each link taken is the lowest that joins the card before it and the card behind it
abbrev pub LowestAlong : Wiring → (met taken : List ℕ) → Type 0
LowestAlong w [] is = ⊥
LowestAlong w (c ∷ []) [] = Unit {0}
LowestAlong w (c ∷ []) (i ∷ is) = ⊥
LowestAlong w (c ∷ d ∷ cs) [] = ⊥
LowestAlong w (c ∷ d ∷ cs) (i ∷ is) = LowestJoining w c d i × LowestAlong w (d ∷ cs) is

-- and every step of a walk takes such a link
unfoldable pub WalkLowest : Type 0
WalkLowest =
    (ps : List ℕ) (a b : ℕ) → layout_holds ps ≡ true → LowestAlong (plan_wiring ps) (walk ps a b).met (walk ps a b).taken

-- links i and j have the last card at an end
abbrev pub TwoAtLast : Wiring → (i j : ℕ) → Type 0
TwoAtLast w i j =
    (i < j) × (j < link_count w) × (touches (w.cards - 1) (link_at w i) ≡ true) × (touches (w.cards - 1) (link_at w j) ≡ true)

-- "A last card on a doubled cable can't be taken off": it does not hang on the last link alone
unfoldable pub DoubledStays : Type 0
DoubledStays = (w : Wiring) (i j : ℕ) → TwoAtLast w i j → last_hangs w ≡ false

-- "(17)", of the call's answer, on a plan that is read and comes with its own sum
unfoldable pub DoubledRefused : Type 0
DoubledRefused =
    (ps : List ℕ) (t i j : ℕ) (r : SummedPlan) (output output_now : List ℕ) → TakeOffSays ps t r output output_now →
    length output ≡ 16390 → ReadWith ps t → TwoAtLast (plan_wiring ps) i j → r.number ≡ 17

-- adding a card never makes a twin: the new link alone joins its cards, and as many links as before join any two others
unfoldable pub AddedSingle : Type 0
AddedSingle =
    (w : Wiring) (c : ℕ) → well_formed w ≡ true → c < w.cards →
    (count (joins c w.cards) (with_card w c).links ≡ 1)
    × ((a b : ℕ) → a < w.cards → b < w.cards → count (joins a b) (with_card w c).links ≡ count (joins a b) w.links)
