-- The lines of the first c cards are appended. Assumes nothing.
use mathlib.Core.Path.{sym}
use native.Mathlib.Omega.{arith}
use Rattle.rack.proofs.Tables.{blocks_snoc}
use Rattle.rack.specs.Words.{word_bit}
use Rattle.listing_text.specs.Listing.{card_line}
use Rattle.rack.proofs.Putting.{grows_then, grows_as, room_then}
use Rattle.listing_text.proofs.CardLines.{blocks_room}
use Rattle.listing_text.proofs.lines.put_card_lines.Goals as goal

pub put_card_line-requires : goal.put_card_line-requires
put_card_line-requires c =
    let r = c.args.rack in
    let l = c.loop-c in
    let room = blocks_room _ _ r.cards l.c (card_line r.columns (word_bit r.words.now)) (omega arith) c.requires in
    (omega arith, room_then _ l.invariant room)

pub loop-c-preserved : goal.loop-c-preserved
loop-c-preserved c =
    let r = c.args.rack in
    let l = c.loop-c in
    grows_as (sym (blocks_snoc l.c (card_line r.columns (word_bit r.words.now)))) (grows_then l.invariant c.put_card_line.ensures)
