-- No link passed touches the card. Assumes nothing.
use mathlib.Core.Path.{◌≡◌}
use mathlib.Core.Bool.{false}
use Prim.Native.Nat.{ℕ, ◌<◌}
use Rattle.rack.specs.Wiring.{link_at, touches}
use Rattle.rack.specs.PlanFile.{plan_wiring}
use Rattle.plan_parts.proofs.links.lowest_link.Given as goal

abbrev pub invariant-loop-i : goal.invariant-loop-i
invariant-loop-i l = (j : ℕ) → j < l.i → touches l.card (link_at (plan_wiring l.plan.bytes.now) j) ≡ false
