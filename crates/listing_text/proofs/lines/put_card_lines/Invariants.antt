-- The lines of the first c cards are appended. Assumes nothing.
use Rattle.rack.specs.Lists.{blocks}
use Rattle.rack.specs.Words.{word_bit}
use Rattle.rack.specs.Putting.{Grows}
use Rattle.listing_text.specs.Listing.{card_line}
use Rattle.listing_text.proofs.lines.put_card_lines.Given as goal

abbrev pub invariant-loop-c : goal.invariant-loop-c
invariant-loop-c l = Grows l.initial.text l.text (blocks l.c (card_line l.rack.columns (word_bit l.rack.words.now)))
