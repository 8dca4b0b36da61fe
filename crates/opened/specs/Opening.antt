-- What an opened plan holds, and the bytes that a call on it sees. Assumes nothing: these are definitions.
use Rattle.std.specs.Prelude.{◌≡◌, cond, List, [], ℕ, eqb, Result, Ok, Err}
use Rattle.std.specs.Borrow.{Bor}
use Rattle.rack.specs.Buffers.{SliceIs}
use Rattle.rack.specs.PlanFile.{plan_cards, plan_links, plan_columns}
use Rattle.reader.specs.Plan.{plan_refusal}
use Rattle.reader.specs.Promises.{Measured}
use Rattle.plan_totals.specs.Summed.{plan_total}
use Rattle.rack.specs.Refused.{refusal_of}
use Rattle.rack.specs.declared.refused.Refused.{Refused}
use Rattle.carried.specs.Carried.{carried_bytes}
use Rattle.carried.specs.declared.Opened.{Opened as Carried}

-- a refusal's number, 0 for none, and a plan's bytes with three sizes and a sum of hops
pub record Opened : Type 0 where
  pub bytes : Bor (List ℕ)
  pub cards : ℕ
  pub links : ℕ
  pub columns : ℕ
  pub number : ℕ
  pub total : ℕ

-- what opening answers that is asked for a plan at this place: with a refusal none of its bytes, and zeros
abbrev pub opened_of : (at : ℕ × ℕ) → Result Carried Refused → Opened
opened_of at (Ok p) = record { bytes = p.bytes; cards = p.cards; links = p.links; columns = p.columns; number = 0; total = p.total }
opened_of at (Err e) =
    record { bytes = record { ref_ptr = at; now = [] }; cards = 0; links = 0; columns = 0; number = (refusal_of e).number; total = 0 }

-- the bytes that a call on it sees
abbrev pub opened_bytes : Opened → List ℕ
opened_bytes p = carried_bytes p.bytes.now p.cards p.links p.columns

-- opening a plan that begins at this place: 12, 13, no bytes, sizes 0 and the sum 0; or the plan's own bytes with their sizes, the sum of
-- hops of the wiring inside, and the promise
pub record OpeningSays (ps : List ℕ) (at : ℕ × ℕ) (p : Opened) : Type 0 where
  pub number : p.number ≡ plan_refusal ps
  pub bytes : SliceIs at (cond (eqb (plan_refusal ps) 0) ps []) p.bytes
  pub cards : p.cards ≡ cond (eqb (plan_refusal ps) 0) (plan_cards ps) 0
  pub links : p.links ≡ cond (eqb (plan_refusal ps) 0) (plan_links ps) 0
  pub columns : p.columns ≡ cond (eqb (plan_refusal ps) 0) (plan_columns ps) 0
  pub total : p.total ≡ cond (eqb (plan_refusal ps) 0) (plan_total ps) 0
  pub promise : p.number ≡ 0 → Measured ps
