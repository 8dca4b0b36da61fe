-- One part is appended after the other. Assumes nothing.
use native.Mathlib.Omega.{arith}
use Rattle.rack.specs.Refused.{refusal_of}
use Rattle.listing_text.specs.Listing.{refused_word, line_end, refused_text}
use Rattle.rack.proofs.Putting.{grows_then, room_then}
use Rattle.listing_text.proofs.Refused.{refused_room}
use Rattle.listing_text.proofs.lines.put_refused.Goals as goal

pub put_word_number-requires : goal.put_word_number-requires
unfolding refused_word
put_word_number-requires c = rw c.number.ensures (refused_room _ _ (refusal_of c.args.refused) c.requires).number

pub put_place-requires : goal.put_place-requires
unfolding refused_word
put_place-requires c =
    room_then _ (rw c.number.ensures at c.put_word_number.ensures) (refused_room _ _ (refusal_of c.args.refused) c.requires).place

pub put_byte-requires : goal.put_byte-requires
unfolding refused_word line_end
put_byte-requires c =
    let number = rw c.number.ensures at c.put_word_number.ensures in
    omega (arith, room_then line_end (grows_then number c.put_place.ensures) (refused_room _ _ (refusal_of c.args.refused) c.requires).line)

pub returns : goal.returns
unfolding refused_word line_end refused_text
returns c = grows_then (grows_then (rw c.number.ensures at c.put_word_number.ensures) c.put_place.ensures) c.put_byte.ensures
