-- The first j columns are appended. Assumes nothing.
use mathlib.Core.Path.{sym, ap, ◌∙◌}
use mathlib.Core.List.{[], ◌∷◌, ◌++◌}
use Prim.Native.Nat.{ℕ}
use native.Mathlib.Omega.{arith}
use Rattle.rack.specs.Lists.{tabulate}
use Rattle.rack.proofs.Tables.{length_tabulate, tabulate_snoc}
use Rattle.rack.specs.Words.{word_bit}
use Rattle.rack.proofs.Putting.{grows_then, grows_as}
use Rattle.listing_text.specs.Listing.{column_digit}
use Rattle.listing_text.proofs.lines.put_columns.Goals as goal

pub put_byte-requires : goal.put_byte-requires
put_byte-requires c =
    let a = c.args in
    let p = c.loop-j.invariant in
    omega (arith, p.room, p.puts.place, length_tabulate c.loop-j.j (column_digit (word_bit a.rack.words.now a.c)))

pub loop-j-preserved : goal.loop-j-preserved
loop-j-preserved c =
    let l = c.loop-j in
    let f = column_digit (word_bit c.args.rack.words.now c.args.c) in
    grows_as (ap (λ (x : ℕ). tabulate l.j f ++ (x ∷ [])) c.column_digit.ensures ∙ sym (tabulate_snoc l.j f))
    (grows_then l.invariant c.put_byte.ensures)
