-- What a read puts behind the bytes read so far is what it took.
use Rattle.std.proofs.Common.{rules, ◌≡◌, ℕ, ◌+◌, ◌-◌, ◌≤◌, List, ◌++◌, length, take, sym, ap, ap₂, ◌∙◌, subst, le_refl, drop_at, length-take-le}
use Rattle.std.proofs.lemmas.Slice.{take-put_mid_below}
use Rattle.std.specs.Io.KnownBytes.{Consumes}
use Rattle.std.proofs.KnownBytes.{Consumes-trans}
use borrow.Rule.Slice.PartMut.{put_mid, post_of}
use lib.Seq.{take-add, take-append-le}
use Rattle.listing_io.proofs.read_front.Goals as goal

-- the first bytes of a buffer whose end is put anew
front_put : (at n room : ℕ) (xs ys : List ℕ) → at ≤ length xs → n ≤ length ys → take at xs ++ take n ys ≡ take (at + n) (put_mid at room xs ys)
front_put at n room xs ys h k =
    let rest = ys ++ post_of at room xs in
    let behind = ap (take n) (drop_at (take at xs) rest at (length-take-le at xs h)) ∙ take-append-le n ys (post_of at room xs) k in
    sym (take-add at n (put_mid at room xs ys) ∙ ap₂ (λ a b. a ++ b) (take-put_mid_below at room xs ys at (le_refl at) h) behind)

pub loop-count-preserved : goal.loop-count-preserved
loop-count-preserved g c =
    let xs = c.loop-count.file in
    let at = c.loop-count.count in
    let joined = front_put at c.in-Ok.n (length xs - at) xs c.read.new.buf c.loop-count.invariant.1 c.in-Ok.ensures.bound.0 in
    (search rules, search rules, subst (Consumes _ _) joined (Consumes-trans _ _ _ _ _ c.loop-count.invariant.2 c.in-Ok.ensures.bytes.0))
