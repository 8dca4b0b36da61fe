-- A link's place in the list is the place of its first end in the bytes, and behind all first ends that of its second. Assumes nothing.
use mathlib.Core.Path.{ap, sym, ◌∙◌}
use Prim.Native.Nat.{ℕ, ◌+◌, ◌*◌}
use native.Mathlib.Omega.{arith}
use Rattle.rack.specs.Buffers.{number_at}
use Rattle.rack.specs.Wiring.{Link}
use Rattle.rack.proofs.WiringFile.{wiring_at_link}
use Rattle.rack.proofs.bytes.ends.Goals as goal

pub returns-clause-first : goal.returns-clause-first
returns-clause-first c = c.number_at.ensures.is ∙ sym (ap (λ (l : Link). l.first) (wiring_at_link _ _ _ (omega arith)))

pub returns-clause-second : goal.returns-clause-second
returns-clause-second c =
    let a = c.args in
    let p = c.requires in
    c.number_at-2.ensures.is
    ∙ ap (λ (m : ℕ). number_at a.bytes.now (a.base + 2 * m + 2 * a.i)) p.0
    ∙ sym (ap (λ (l : Link). l.second) (wiring_at_link a.base a.bytes.now a.i (omega arith)))
