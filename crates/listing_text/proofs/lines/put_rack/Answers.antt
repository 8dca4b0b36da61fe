-- The lines of the sizes are appended, then those of the cards. Assumes nothing.
use Rattle.listing_text.specs.Listing.{rack_lines}
use Rattle.rack.proofs.Putting.{grows_then, room_first, room_then}
use Rattle.listing_text.proofs.lines.put_rack.Goals as goal

pub put_size_lines-requires : goal.put_size_lines-requires
unfolding rack_lines
put_size_lines-requires c = room_first _ _ _ _ c.requires

pub put_card_lines-requires : goal.put_card_lines-requires
unfolding rack_lines
put_card_lines-requires c = room_then _ c.put_size_lines.ensures c.requires

pub returns : goal.returns
unfolding rack_lines
returns c = grows_then c.put_size_lines.ensures c.put_card_lines.ensures
