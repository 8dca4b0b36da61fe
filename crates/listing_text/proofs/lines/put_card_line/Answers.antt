-- One part is appended after the other. Assumes nothing.
use native.Mathlib.Omega.{arith}
use Rattle.rack.specs.Words.{word_bit}
use Rattle.listing_text.specs.Listing.{card_word, space, line_end, card_line}
use Rattle.rack.proofs.Putting.{grows_then, room_then}
use Rattle.listing_text.proofs.CardLines.{card_line_room}
use Rattle.listing_text.proofs.lines.put_card_line.Goals as goal

pub put_word_number-requires : goal.put_word_number-requires
unfolding card_word
put_word_number-requires c =
    let r = c.args.rack in
    (card_line_room _ _ r.columns (word_bit r.words.now) c.args.c c.requires.1).number

pub put_byte-requires : goal.put_byte-requires
unfolding card_word space
put_byte-requires c =
    let r = c.args.rack in
    let room = card_line_room _ _ r.columns (word_bit r.words.now) c.args.c c.requires.1 in
    omega (arith, room_then space c.put_word_number.ensures room.spaced)

pub put_address-requires : goal.put_address-requires
unfolding card_word space
put_address-requires c =
    let r = c.args.rack in
    let room = card_line_room _ _ r.columns (word_bit r.words.now) c.args.c c.requires.1 in
    (c.requires.0, room_then _ (grows_then c.put_word_number.ensures c.put_byte.ensures) room.address)

pub put_byte-requires-2 : goal.put_byte-requires-2
unfolding card_word space line_end card_line
put_byte-requires-2 c =
    let address = grows_then (grows_then c.put_word_number.ensures c.put_byte.ensures) c.put_address.ensures in
    omega (arith, room_then line_end address c.requires.1)

pub returns : goal.returns
unfolding card_word space line_end card_line
returns c = grows_then (grows_then (grows_then c.put_word_number.ensures c.put_byte.ensures) c.put_address.ensures) c.put_byte-2.ensures
