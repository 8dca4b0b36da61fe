-- The traffic record: the frames, hops and turns of each caller, and the refusal of a caller's number. Assumes nothing: these are definitions.
use Rattle.std.specs.Prelude.{cond, List, ℕ, ◌+◌, ◌*◌, leb, eqb, get_or, set}
use Rattle.rack.specs.Limits.{most_callers}
use Rattle.reader.specs.Reading.{layout_refusal}
use Rattle.forwarder.specs.declared.walk.Tally.{Tally}
use Rattle.traffic.specs.declared.Traffic.{Traffic}

-- 12, then 18: a caller's number is over 15
unfoldable pub caller_refusal : List ℕ → (caller : ℕ) → ℕ
caller_refusal ps u = cond (eqb (layout_refusal ps) 0) (cond (leb most_callers u) 18 0) (layout_refusal ps)

-- a caller's frames and hops
unfoldable pub tally_of : Traffic → (caller : ℕ) → Tally
tally_of t u = record { frames = get_or t.frames u 0; hops = get_or t.hops u 0 }

-- the record with other frames and hops of one caller
unfoldable pub with_tally : Traffic → (caller : ℕ) → Tally → Traffic
with_tally t u c = record { frames = set t.frames u c.frames; hops = set t.hops u c.hops; turns = t.turns }

-- the record after a walk by that caller, which arrived (1) or did not (0)
unfoldable pub raised : Traffic → (caller arrived hops : ℕ) → Traffic
raised t u o h = with_tally t u (record { frames = (tally_of t u).frames + o; hops = (tally_of t u).hops + o * h })
