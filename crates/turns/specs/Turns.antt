-- The first bytes of a frame, and which of two waiting frames goes by the turns of their callers. Assumes nothing: these are definitions.
-- Quotations: docs/REQUIREMENTS.md.
use Rattle.std.specs.Prelude.{◌≡◌, Bool, true, false, ◌||◌, cond, ◌≢◌, List, [], ℕ, suc, ◌≤◌, ◌<◌, ltb, leb, eqb, length, get_or, set, Result, Ok, Err}
use Rattle.std.specs.Borrow.{Bor}
use Rattle.rack.specs.Limits.{most_callers, most_traffic}
use Rattle.rack.specs.Buffers.{number_at, SliceIs}
use Rattle.rack.specs.declared.refused.Refused.{Refused}
use Rattle.rack.specs.declared.refused.Refused.TheVariants.{NoFrame}
use Rattle.turns.specs.declared.frames.Frame.{Frame}

-- A FRAME: "A frame's first two bytes are its destination, low byte first, its third its caller"; what follows is its own
abbrev pub least_frame : ℕ
least_frame = 3

unfoldable pub frame_goal : List ℕ → ℕ
frame_goal f = number_at f 0

unfoldable pub frame_caller : List ℕ → ℕ
frame_caller f = get_or f 2 0

-- both, or 19
abbrev pub FrameSays : List ℕ → Result Frame Refused → Type 0
FrameSays f (Ok r) = (least_frame ≤ length f) × (r.goal ≡ frame_goal f) × (r.caller ≡ frame_caller f)
FrameSays f (Err e) = (length f < least_frame) × (e ≡ NoFrame)

-- OF TWO FRAMES, with the turns of each caller: "the one whose caller has had fewer turns, the first if level"
unfoldable pub first_goes : (first second turns : List ℕ) → Bool
first_goes f g ts = leb (get_or ts (frame_caller f) 0) (get_or ts (frame_caller g) 0)

unfoldable pub next_caller : (first second turns : List ℕ) → ℕ
next_caller f g ts = cond (first_goes f g ts) (frame_caller f) (frame_caller g)

-- 19: either has fewer than three bytes; 18: either's caller is over 15; 15: the turn count to be raised is full
unfoldable pub choice_refusal : (first second turns : List ℕ) → ℕ
choice_refusal f g ts =
    cond (ltb (length f) least_frame || ltb (length g) least_frame) 19
    (cond (leb most_callers (frame_caller f) || leb most_callers (frame_caller g)) 18
    (cond (leb most_traffic (get_or ts (next_caller f g ts) 0)) 15 0))

-- one turn more for the caller whose frame goes; with a refusal all are as they were
unfoldable pub turns_after : (first second turns : List ℕ) → List ℕ
turns_after f g ts =
    let u = next_caller f g ts in
    cond (eqb (choice_refusal f g ts) 0) (set ts u (suc (get_or ts u 0))) ts

-- the number; the frame that goes, as the very slice that was lent, or with a refusal none of the first one's bytes; and the turns
pub record ChoiceSays (f g : Bor (List ℕ)) (ts : List ℕ) (r : Bor (List ℕ)) (ts_now : List ℕ) (x : ℕ) : Type 0 where
  pub number : x ≡ choice_refusal f.now g.now ts
  pub first : x ≡ 0 → first_goes f.now g.now ts ≡ true → SliceIs f.ref_ptr f.now r
  pub second : x ≡ 0 → first_goes f.now g.now ts ≡ false → SliceIs g.ref_ptr g.now r
  pub none : x ≢ 0 → SliceIs f.ref_ptr [] r
  pub turns : ts_now ≡ turns_after f.now g.now ts

-- what a choice hands back: with a refusal an empty part, at the place of the first frame
abbrev pub part_of : (place : ℕ × ℕ) → Result (Bor (List ℕ)) Refused → Bor (List ℕ)
part_of place (Ok r) = r
part_of place (Err e) = record { ref_ptr = place; now = [] }
