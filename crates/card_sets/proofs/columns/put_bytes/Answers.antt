-- The first j bytes are put. Assumes nothing.
use mathlib.Core.Path.{ap, ◌∙◌}
use mathlib.Core.List.{List}
use Prim.Native.Nat.{ℕ}
use native.Mathlib.Omega.{arith}
use lib.ListN.{get_or}
use Rattle.rack.proofs.Bits.{le_byte}
use Rattle.card_sets.proofs.PutBytes.{more_put}
use Rattle.card_sets.proofs.columns.put_bytes.Goals as goal

pub loop-j-preserved : goal.loop-j-preserved
loop-j-preserved c =
    let a = c.args in
    let l = c.loop-j in
    let e = ap (λ (bs : List ℕ). get_or bs l.j 0) c.to_le_bytes.ensures in
    more_put a.word a.at a.columns.now l.columns l.j l.invariant c.from.result (c.from.ensures ∙ e ∙ le_byte a.word l.j (omega arith)) (omega (arith, l.invariant.long, c.requires, c.told-columns))
