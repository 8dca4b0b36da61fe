-- What is promised of the traffic record. Each statement is proved in proofs/Promises.antt under its name. Quotations: docs/REQUIREMENTS.md.
use Rattle.std.specs.Prelude.{◌≡◌, true, ◌↔◌, ◌≢◌, List, ℕ, suc, ◌+◌, ◌<◌, length, get_or}
use Rattle.reader.specs.Plan.{layout_holds}
use Rattle.traffic.specs.Traffic.{caller_refusal, raised}
use Rattle.traffic.specs.declared.Traffic.{Traffic}

-- "18 if a caller is over 15": exactly then, of bytes that have a plan's layout
unfoldable pub CallerRefused : Type 0
CallerRefused = (ps : List ℕ) (u : ℕ) → (caller_refusal ps u ≡ 18) ↔ ((layout_holds ps ≡ true) × (15 < u))

-- "No caller's walks change another's counts", nor any turns
unfoldable pub OthersKept : Type 0
OthersKept =
    (t : Traffic) (u o h v : ℕ) → v ≢ u →
    (get_or (raised t u o h).frames v 0 ≡ get_or t.frames v 0) × (get_or (raised t u o h).hops v 0 ≡ get_or t.hops v 0)
    × ((raised t u o h).turns ≡ t.turns)

-- a walk that arrived is one frame more of its caller, and so many hops
unfoldable pub CallerCounted : Type 0
CallerCounted =
    (t : Traffic) (u h : ℕ) → u < length t.frames → u < length t.hops →
    (get_or (raised t u 1 h).frames u 0 ≡ suc (get_or t.frames u 0)) × (get_or (raised t u 1 h).hops u 0 ≡ get_or t.hops u 0 + h)

-- any other changes none of the counts
unfoldable pub NoneCounted : Type 0
NoneCounted = (t : Traffic) (u h : ℕ) → raised t u 0 h ≡ t
