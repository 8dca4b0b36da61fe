-- What is promised of the choice between two waiting frames. Each statement is proved in proofs/Promises.antt under its name.
-- Quotations: docs/REQUIREMENTS.md.
use Rattle.std.specs.Prelude.{◌≡◌, ◌⊎◌, ◌↔◌, ◌≢◌, List, [], ◌∷◌, ◌++◌, ℕ, suc, ◌≤◌, ◌<◌, length, get_or}
use Rattle.std.specs.Borrow.{Bor}
use Rattle.rack.specs.Limits.{most_callers, most_traffic}
use Rattle.rack.specs.Buffers.{SliceIs}
use Rattle.turns.specs.Turns.{frame_caller, choice_refusal, ChoiceSays}

-- when each number is said: 19 exactly if either frame has fewer than three bytes; 18 exactly if neither has, and either's caller is over 15;
-- 15 exactly if the turns of both callers are full
unfoldable pub ChoiceRefused : Type 0
ChoiceRefused =
    (f g ts : List ℕ) → ((u : ℕ) → get_or ts u 0 ≤ most_traffic) →
    ((choice_refusal f g ts ≡ 19) ↔ ((length f < 3) ⊎ (length g < 3)))
    × ((choice_refusal f g ts ≡ 18) ↔ ((3 ≤ length f) × (3 ≤ length g) × ((15 < frame_caller f) ⊎ (15 < frame_caller g))))
    × ((choice_refusal f g ts ≡ 15) ↔ ((3 ≤ length f) × (3 ≤ length g) × (frame_caller f ≤ 15) × (frame_caller g ≤ 15)
    × (get_or ts (frame_caller f) 0 ≡ most_traffic) × (get_or ts (frame_caller g) 0 ≡ most_traffic)))

-- "With a refusal an empty part is handed back", and no turn is counted
unfoldable pub ChoiceRefusedKeeps : Type 0
ChoiceRefusedKeeps =
    (f g : Bor (List ℕ)) (ts : List ℕ) (r : Bor (List ℕ)) (ts_now : List ℕ) (x : ℕ) → ChoiceSays f g ts r ts_now x → x ≢ 0 →
    (r.now ≡ []) × (ts_now ≡ ts)

-- "hand back the one whose caller has had fewer turns, the first if level": that very slice
unfoldable pub ChoiceHandsBack : Type 0
ChoiceHandsBack =
    (f g : Bor (List ℕ)) (ts : List ℕ) (r : Bor (List ℕ)) (ts_now : List ℕ) (x : ℕ) → ChoiceSays f g ts r ts_now x → x ≡ 0 →
    (get_or ts (frame_caller f.now) 0 ≤ get_or ts (frame_caller g.now) 0 → SliceIs f.ref_ptr f.now r)
    × (get_or ts (frame_caller g.now) 0 < get_or ts (frame_caller f.now) 0 → SliceIs g.ref_ptr g.now r)

-- "and add one to that turn count": the frame handed back is one of the two, its caller had no more turns than either, that count rises by one,
-- and no other number changes
unfoldable pub ChoiceCountsOne : Type 0
ChoiceCountsOne =
    (f g : Bor (List ℕ)) (ts : List ℕ) (r : Bor (List ℕ)) (ts_now : List ℕ) (x : ℕ) → ChoiceSays f g ts r ts_now x → x ≡ 0 →
    length ts ≡ most_callers →
    let u = frame_caller r.now in
    ((r.now ≡ f.now) ⊎ (r.now ≡ g.now)) × (get_or ts u 0 ≤ get_or ts (frame_caller f.now) 0) × (get_or ts u 0 ≤ get_or ts (frame_caller g.now) 0)
    × (get_or ts_now u 0 ≡ suc (get_or ts u 0)) × ((v : ℕ) → v ≢ u → get_or ts_now v 0 ≡ get_or ts v 0)

-- one choice: the two frames, what was handed back, and the number
pub record Choice : Type 0 where
  pub first : Bor (List ℕ)
  pub second : Bor (List ℕ)
  pub part : Bor (List ℕ)
  pub number : ℕ

-- of the frames of callers i and j, in either order
abbrev pub BetweenCallers : (i j : ℕ) → Choice → Type 0
BetweenCallers i j c =
    ((frame_caller c.first.now ≡ i) × (frame_caller c.second.now ≡ j))
    ⊎ ((frame_caller c.first.now ≡ j) × (frame_caller c.second.now ≡ i))

-- a run of choices between callers i and j, with refused choices of any frames among them, and the turns before and after it
abbrev pub Run : (i j : ℕ) → List Choice → (turns turns_now : List ℕ) → Type 0
Run i j [] ts us = us ≡ ts
Run i j (c ∷ cs) ts us =
    (mid : List ℕ) × ChoiceSays c.first c.second ts c.part mid c.number × (c.number ≡ 0 → BetweenCallers i j c) × Run i j cs mid us

-- a run up to any moment is itself a run, and so is the rest of it
unfoldable pub RunSoFar : Type 0
RunSoFar =
    (i j : ℕ) (cs ds : List Choice) (ts us : List ℕ) → Run i j (cs ++ ds) ts us → (mid : List ℕ) × Run i j cs ts mid × Run i j ds mid us

-- "Over any run of choices between the same two callers, level at its start, their turns never differ by more than one": after any of its
-- choices, by the statement before
unfoldable pub TurnsFair : Type 0
TurnsFair =
    (i j : ℕ) (cs : List Choice) (ts us : List ℕ) → length ts ≡ most_callers → get_or ts i 0 ≡ get_or ts j 0 → Run i j cs ts us →
    (get_or us i 0 ≤ suc (get_or us j 0)) × (get_or us j 0 ≤ suc (get_or us i 0))
