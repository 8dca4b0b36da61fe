-- One byte more of the address is appended each turn. Assumes nothing.
use mathlib.Core.Path.{sym, ap, ◌∙◌}
use mathlib.Core.List.{◌++◌, ◌∷◌, []}
use Prim.Native.Nat.{ℕ}
use native.Mathlib.Omega.{arith}
use Rattle.rack.specs.Lists.{tabulate}
use Rattle.rack.proofs.Tables.{length_tabulate, tabulate_snoc}
use Rattle.rack.proofs.Putting.{grows_then, grows_as}
use Rattle.plan_writer.specs.Writing.{word_byte}
use Rattle.plan_writer.proofs.put_address.Goals as goal

pub put_byte-requires : goal.put_byte-requires
put_byte-requires c =
    let a = c.args in
    let p = c.loop-t.invariant in
    omega (arith, p.room, p.puts.place, length_tabulate c.loop-t.t (word_byte a.words.now a.c))

pub loop-t-preserved : goal.loop-t-preserved
loop-t-preserved c =
    let l = c.loop-t in
    let f = word_byte c.args.words.now c.args.c in
    grows_as (ap (λ (x : ℕ). tabulate l.t f ++ (x ∷ [])) c.address_byte.ensures ∙ sym (tabulate_snoc l.t f)) (grows_then l.invariant c.put_byte.ensures)
