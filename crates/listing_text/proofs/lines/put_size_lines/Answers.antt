-- One line is appended after the other. Assumes nothing.
use mathlib.Core.List.{◌++◌}
use Rattle.listing_text.specs.Listing.{cards_word, links_word, columns_word, number_line, size_lines}
use Rattle.rack.proofs.Putting.{grows_then, room_first, room_then}
use Rattle.listing_text.proofs.lines.put_size_lines.Goals as goal

pub put_number_line-requires : goal.put_number_line-requires
unfolding size_lines cards_word links_word
put_number_line-requires c =
    let r = c.args.rack in
    room_first _ _ (number_line cards_word r.cards) (number_line links_word r.links)
    (room_first _ _ (number_line cards_word r.cards ++ number_line links_word r.links) (number_line columns_word r.columns) c.requires)

pub put_number_line-requires-2 : goal.put_number_line-requires-2
unfolding size_lines cards_word links_word
put_number_line-requires-2 c =
    let r = c.args.rack in
    room_then _ c.put_number_line.ensures
    (room_first _ _ (number_line cards_word r.cards ++ number_line links_word r.links) (number_line columns_word r.columns) c.requires)

pub put_number_line-requires-3 : goal.put_number_line-requires-3
unfolding size_lines cards_word links_word columns_word
put_number_line-requires-3 c = room_then _ (grows_then c.put_number_line.ensures c.put_number_line-2.ensures) c.requires

pub returns : goal.returns
unfolding size_lines cards_word links_word columns_word
returns c = grows_then (grows_then c.put_number_line.ensures c.put_number_line-2.ensures) c.put_number_line-3.ensures
