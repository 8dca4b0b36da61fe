-- What the C calls return and leave in their lent bytes. Assumes nothing: these are definitions.
use Rattle.std.specs.Prelude.{◌≡◌, true, ◌&&◌, cond, List, ◌++◌, ℕ, ◌+◌, ◌*◌, ◌-◌, ◌%◌, ◌<◌, eqb, length, replicate}
use Rattle.rack.specs.Refusals.{Refusal, refusal}
use Rattle.rack.specs.Limits.{most_callers, lent_plan}
use Rattle.rack.specs.Hops.{connected}
use Rattle.rack.specs.WiringFile.{file_wiring, form_refusal}
use Rattle.planner.specs.PlanBytes.{plan_bytes}
use Rattle.planner.specs.Planning.{left_in, writing_refusal, Found}
use Rattle.rack.specs.PlanFile.{plan_cards, plan_links, plan_columns, plan_bit}
use Rattle.reader.specs.Plan.{plan_refusal}
use Rattle.forwarder.specs.Forwarding.{Walk, walk}
use Rattle.forwarder.specs.Calls.{lent_met, walk_hops, walk_refusal}
use Rattle.forwarder.specs.declared.walk.Tally.{Tally}
use Rattle.traffic.specs.Traffic.{caller_refusal}
use Rattle.jolvente.specs.Records.{lent_record, lent_met_bytes, record_bytes, card_bytes, counts_in}

-- the number, plus 256 times the link or card that it carries
unfoldable pub returned : Refusal → ℕ
returned f = f.number + 256 * f.at

-- THE WRITER: 1, then 2 to 11. The plan, and a record of its length
unfoldable pub c_write_refusal : List ℕ → (room record_room : ℕ) → Refusal
c_write_refusal bs n k = cond (eqb k lent_record) (writing_refusal bs n) (refusal 1 0)

pub record CWriteSays (bs : List ℕ) (r : ℕ) (plan plan_now rec rec_now : List ℕ) : Type 0 where
  pub answer : r ≡ returned (c_write_refusal bs (length plan) (length rec))
  pub plan_left : plan_now ≡ left_in (c_write_refusal bs (length plan) (length rec)).number (plan_bytes (file_wiring bs)) plan
  pub record_left : rec_now
      ≡ left_in (c_write_refusal bs (length plan) (length rec)).number (record_bytes (length (plan_bytes (file_wiring bs))) 0 0 0) rec

-- DEMANDS 2 AND 3 (docs/REQUIREMENTS.md) of the writer are said of the number that it returns and of the bits in the plan that it
-- leaves. Where they are: a well-formed, connected wiring, and lent bytes of their lengths
pub record CAsked (bs plan rec : List ℕ) : Type 0 where
  pub room : length plan ≡ lent_plan
  pub record_room : length rec ≡ lent_record
  -- none of 2 to 8 applies
  pub formed : (form_refusal bs).number ≡ 0
  pub whole : connected (file_wiring bs) ≡ true

abbrev pub CFound : (bs : List ℕ) → (r : ℕ) → (plan : List ℕ) → Type 0
CFound bs r plan = Found (file_wiring bs) (r % 256) (plan_columns plan) (plan_bit plan)

-- THE READER: 1, 12, 13. A record of the plan's sizes; with a refusal all is as it was
unfoldable pub c_read_refusal : List ℕ → (record_room : ℕ) → ℕ
c_read_refusal ps k = cond (eqb k lent_record) (plan_refusal ps) 1

pub record CReadSays (ps : List ℕ) (r : ℕ) (rec rec_now : List ℕ) : Type 0 where
  pub answer : r ≡ c_read_refusal ps (length rec)
  pub record_left : rec_now ≡ cond (eqb r 0) (record_bytes (plan_cards ps) (plan_links ps) (plan_columns ps) 0) rec

-- THE WALK: 1, 12, 18, 14, 15. The cards met with zeros behind them, and a record of how it ended, its hops and the caller's counts,
-- raised where it arrived; with a refusal all is as it was
unfoldable pub c_walk_refusal : List ℕ → (a b caller room : ℕ) → (rec : List ℕ) → ℕ
c_walk_refusal ps a b u n rec =
    cond (eqb n lent_met_bytes && eqb (length rec) lent_record)
    (cond (eqb (caller_refusal ps u) 0) (walk_refusal ps a b (counts_in rec) lent_met) (caller_refusal ps u)) 1

unfoldable pub met_bytes : Walk → List ℕ
met_bytes v = card_bytes (v.met ++ replicate (lent_met - length v.met) 0)

unfoldable pub walk_record : Walk → Tally → List ℕ
walk_record v t =
    record_bytes v.arrived (walk_hops v) (t.frames + v.arrived) (t.hops + v.arrived * walk_hops v)

pub record CWalkSays (ps : List ℕ) (a b u r : ℕ) (met met_now rec rec_now : List ℕ) : Type 0 where
  pub answer : r ≡ c_walk_refusal ps a b u (length met) rec
  pub met_left : met_now ≡ cond (eqb r 0) (met_bytes (walk ps a b)) met
  pub record_left : rec_now ≡ cond (eqb r 0) (walk_record (walk ps a b) (counts_in rec)) rec

-- DEMAND 3 of the walk is said of what C reads back. A frame: its plan was read, both numbers are cards, its caller is one of the 16, and
-- the lent bytes have their lengths
pub record CFrame (ps : List ℕ) (a b u : ℕ) (met rec : List ℕ) : Type 0 where
  pub read : plan_refusal ps ≡ 0
  -- both are cards of the plan
  pub from : a < plan_cards ps
  pub goal : b < plan_cards ps
  pub caller : u < most_callers
  pub room : length met ≡ lent_met_bytes
  pub record_room : length rec ≡ lent_record

-- a count can't take it: 15, and all is as it was
pub record CFull (r : ℕ) (met met_now rec rec_now : List ℕ) : Type 0 where
  pub answer : r ≡ 15
  pub met_left : met_now ≡ met
  pub record_left : rec_now ≡ rec
