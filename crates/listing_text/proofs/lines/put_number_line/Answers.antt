-- The word and the number are appended, then the line's end. Assumes nothing.
use mathlib.Core.List.{◌++◌}
use native.Mathlib.Omega.{arith}
use Rattle.text.specs.Decimals.{decimal}
use Rattle.listing_text.specs.Listing.{number_line, line_end}
use Rattle.rack.proofs.Putting.{grows_then, room_first, room_then}
use Rattle.listing_text.proofs.lines.put_number_line.Goals as goal

pub put_word_number-requires : goal.put_word_number-requires
unfolding number_line
put_word_number-requires c = room_first _ _ (c.args.word.now ++ decimal c.args.v) line_end c.requires

pub put_byte-requires : goal.put_byte-requires
unfolding number_line line_end
put_byte-requires c = omega (arith, room_then line_end c.put_word_number.ensures c.requires)

pub returns : goal.returns
unfolding number_line line_end
returns c = grows_then c.put_word_number.ensures c.put_byte.ensures
