-- Each test that fails tells a fault; the marks of the link's ends tell whether it is a third one. Assumes nothing.
use mathlib.Core.Path.{◌≡◌, sym, ◌∙◌}
use mathlib.Core.Bool.{Bool, true, false}
use mathlib.Core.List.{List}
use Prim.Native.Nat.{ℕ, ◌+◌, ◌<◌}
use native.Mathlib.Omega.{arith}
use lib.Dec.{eqb}
use borrow.Author.Tests.{ne_eqb}
use Rattle.rack.specs.Wiring.{link_count}
use Rattle.rack.specs.PlanFile.{Sized, plan_wiring}
use Rattle.rack.proofs.WiringFile.{wiring_at_cards, wiring_at_count}
use Rattle.rack.proofs.LinkFaults.{fault_first, fault_second, fault_same_card}
use Rattle.rack.specs.Refusals.{link_fault}
use Rattle.plan_tests.specs.Marks.{LinksMarked}
use Rattle.plan_tests.proofs.Marks.{first_free, second_free}
use Rattle.plan_tests.proofs.links.link_holds.Goals as goal
use Rattle.plan_tests.proofs.links.link_holds.Goals.{then-plan-p-via-then-plan-p, then-plan-p-via-else-plan-p+then-plan-q, then-plan-p-via-else-plan-p+else-plan-q+then-p-q, Then-set_mark, After-set_mark-else-set_mark}

module _ (ps : List ℕ) (n m k : ℕ) (z : Sized ps n m k) where
  -- the cards and links of the wiring inside
  cards : (plan_wiring ps).cards ≡ n
  cards = wiring_at_cards 6 ps ∙ sym z.cards

  inside : (i : ℕ) → i < m → i < link_count (plan_wiring ps)
  inside i h = omega (arith, wiring_at_count 6 ps, z.links, h)

pub returns-then-plan-p-clause-is : goal.returns-then-plan-p-clause-is
returns-then-plan-p-clause-is c =
    let p = c.ends-p.ensures.first in
    let q = c.ends-p.ensures.second in
    let few = cards _ _ _ _ c.args.plan.sized in
    let inner = plan_wiring c.args.plan.bytes.now in
    let none : (n : ℕ) → link_fault inner c.args.i ≡ n + 1 → false ≡ eqb (link_fault inner c.args.i) 0 = λ n e. sym (ne_eqb _ 0 (λ f. omega arith)) in
    elim c.then-plan-p.branch [
      | then-plan-p-via-then-plan-p w ↦ none 5 (fault_first inner c.args.i _ _ p q (omega (arith, few, w.if-plan-p.true)))
      | then-plan-p-via-else-plan-p+then-plan-q w ↦ none 5 (fault_second inner c.args.i _ _ p q (omega (arith, few, w.if-plan-q.true)))
      | then-plan-p-via-else-plan-p+else-plan-q+then-p-q w ↦
          none 6 (fault_same_card inner c.args.i _ _ p q (omega (arith, few, w.if-plan-p.false)) (omega (arith, few, w.if-plan-q.false)) w.if-p-q.true)
    ]

-- where a mark of the ends was free, and where the first was set
abbrev Holds : (ps : List ℕ) (i : ℕ) (r : Bool) (new : List ℕ) → Type 0
Holds ps i r new = let w = plan_wiring ps in (r ≡ eqb (link_fault w i) 0) × (r ≡ true → LinksMarked w (i + 1) new)

free : (c : Then-set_mark) → Holds c.args.plan.bytes.now c.args.i c.set_mark.result c.set_mark.new.marks
free c =
    let few = cards _ _ _ _ c.args.plan.sized in
    let many = c.args.plan.sized.few in
    rw c.if-set_mark.true (first_free _ c.args.i c.ends-p.result.0 c.ends-p.result.1 c.ends-p.ensures.first c.ends-p.ensures.second
    (omega arith) (omega arith) c.if-p-q.false _ c.requires.1 (inside _ _ _ _ c.args.plan.sized c.args.i c.requires.0) (omega arith) (omega arith) _
    (rw c.if-set_mark.true at c.set_mark.ensures.free) c.set_mark.ensures.set)

taken : (c : After-set_mark-else-set_mark) → Holds c.args.plan.bytes.now c.args.i c.set_mark-else-set_mark.result c.set_mark-else-set_mark.new.marks
taken c =
    let few = cards _ _ _ _ c.args.plan.sized in
    let many = c.args.plan.sized.few in
    second_free _ c.args.i c.ends-p.result.0 c.ends-p.result.1 c.ends-p.ensures.first c.ends-p.ensures.second
    (omega arith) (omega arith) c.if-p-q.false _ c.requires.1 (inside _ _ _ _ c.args.plan.sized c.args.i c.requires.0) (omega arith) (omega arith) _ _
    (rw c.if-set_mark.false at c.set_mark.ensures.free) c.set_mark.ensures.set _
    c.set_mark-else-set_mark.ensures.free c.set_mark-else-set_mark.ensures.set

pub returns-then-set_mark-clause-is : goal.returns-then-set_mark-clause-is
returns-then-set_mark-clause-is c = (free c).0

pub returns-then-set_mark-clause-marks : goal.returns-then-set_mark-clause-marks
returns-then-set_mark-clause-marks c = (free c).1

pub returns-else-set_mark-clause-is : goal.returns-else-set_mark-clause-is
returns-else-set_mark-clause-is c = (taken c).0

pub returns-else-set_mark-clause-marks : goal.returns-else-set_mark-clause-marks
returns-else-set_mark-clause-marks c = (taken c).1
