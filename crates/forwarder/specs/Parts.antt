-- What the parts of a step and of a walk answer. Assumes nothing: these are definitions.
use Rattle.std.specs.Prelude.{◌≡◌, Bool, true, false, ◌&&◌, cond, List, ◌++◌, ℕ, ◌+◌, ◌*◌, ◌-◌, ◌<◌, ltb, eqb, length, get_or, replicate, Option, Some, None}
use Rattle.rack.specs.Limits.{most_cards}
use Rattle.rack.specs.Lists.{one}
use Rattle.rack.specs.Wiring.{Link, touches, other_end}
use Rattle.rack.specs.PlanFile.{plan_hamming}
use Rattle.reader.specs.Reading.{Sizes, LaidOut}
use Rattle.forwarder.specs.Forwarding.{Walk}
use Rattle.forwarder.specs.Calls.{step_refusal, lent_met, walk_hops, takes, Walked}
use Rattle.forwarder.specs.declared.walk.Tally.{Tally}
use Rattle.forwarder.specs.declared.walk.Route.{Route}

-- the other end of a link where it is one of card a's, between two of the n cards
unfoldable pub far_card : (n a : ℕ) → Link → Option ℕ
far_card n a l = cond (ltb l.first n && ltb l.second n && touches a l) (Some (other_end a l)) None

-- the cards marked differ from card b in no fewer places than `left`
pub record NoNearer (ps : List ℕ) (b left : ℕ) (marks : List Bool) : Type 0 where
  pub far : (c : ℕ) → c < most_cards → get_or marks c false ≡ true → ltb (plan_hamming ps c b) left ≡ false

-- 12, 14, or the sizes of a plan that has both cards
pub record FrameSizes (ps : List ℕ) (a b : ℕ) (r : Sizes) : Type 0 where
  pub number : r.number ≡ step_refusal ps a b
  pub sizes : r.number ≡ 0 → LaidOut ps r
  pub from : r.number ≡ 0 → a < r.cards
  pub goal : r.number ≡ 0 → b < r.cards

-- how a walk ended, its hops, and the cards met with zeros behind them
pub record RouteIs (v : Walk) (r : Route) (cards : List ℕ) : Type 0 where
  pub arrived : one r.arrived ≡ v.arrived
  pub hops : r.hops ≡ walk_hops v
  pub met : cards ≡ v.met ++ replicate (lent_met - length v.met) 0

-- a walk's answer: its counts raised where it arrived, or 15 and zeros with the counts as they were
pub record Counted (t : Tally) (o h : ℕ) (r : Walked) : Type 0 where
  pub number : r.number ≡ cond (takes t o h) 0 15
  pub arrived : r.arrived ≡ cond (eqb r.number 0) o 0
  pub hops : r.hops ≡ cond (eqb r.number 0) h 0
  pub frames : r.tally.frames ≡ t.frames + r.arrived
  pub total : r.tally.hops ≡ t.hops + r.arrived * r.hops
