-- The first j columns are appended. Assumes nothing.
use Rattle.rack.specs.Lists.{tabulate}
use Rattle.rack.specs.Words.{word_bit}
use Rattle.rack.specs.Putting.{Grows}
use Rattle.listing_text.specs.Listing.{column_digit}
use Rattle.listing_text.proofs.lines.put_columns.Given as goal

abbrev pub invariant-loop-j : goal.invariant-loop-j
invariant-loop-j l = Grows l.initial.text l.text (tabulate l.j (column_digit (word_bit l.rack.words.now l.c)))
