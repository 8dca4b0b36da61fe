-- What a write takes are the bytes behind those that are written.
use Rattle.std.proofs.Common.{rules, ◌++◌, take, sym, ap, ◌∙◌, subst}
use Rattle.std.proofs.lemmas.List.{take_rest}
use Rattle.std.specs.Io.KnownBytes.{Appends}
use Rattle.std.proofs.KnownBytes.{Appends-trans}
use lib.Seq.{take-add}
use Rattle.listing_io.proofs.write_front.Goals as goal

pub loop-count-preserved : goal.loop-count-preserved
loop-count-preserved g c =
    let xs = c.args.text.now in
    let at = c.loop-count.count in
    let joined = ap (λ l. take at xs ++ take c.in-Ok.n l) (take_rest xs at) ∙ sym (take-add at c.in-Ok.n xs) in
    (search rules, subst (Appends _ _) joined (Appends-trans _ _ _ _ _ c.loop-count.invariant.1 c.in-Ok.ensures.bytes))
