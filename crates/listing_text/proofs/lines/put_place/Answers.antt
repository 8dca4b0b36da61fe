-- The variants. Assumes nothing.
use mathlib.Core.Path.{sym, ap}
use native.Mathlib.Omega.{arith}
use lib.ListN.{length}
use Rattle.listing_text.specs.Listing.{at_link, at_card}
use Rattle.rack.proofs.Putting.{grows_none, grows_as}
use Rattle.listing_text.proofs.Refused.{link_named, card_named, none_named}
use Rattle.listing_text.proofs.lines.put_place.Goals as goal

pub put_word_number-requires-in-NoEnd : goal.put_word_number-requires-in-NoEnd
unfolding at_link
put_word_number-requires-in-NoEnd c = omega (arith, c.requires, ap length (link_named c.args.refused _ c.in-NoEnd.is))

pub returns-in-NoEnd : goal.returns-in-NoEnd
unfolding at_link
returns-in-NoEnd c = grows_as (sym (link_named c.args.refused _ c.in-NoEnd.is)) c.put_word_number-in-NoEnd.ensures

pub put_word_number-requires : goal.put_word_number-requires
unfolding at_card
put_word_number-requires c = omega (arith, c.requires, ap length (card_named c.args.refused _ c.in-Unreached.is))

pub returns-in-Unreached : goal.returns-in-Unreached
unfolding at_card
returns-in-Unreached c = grows_as (sym (card_named c.args.refused _ c.in-Unreached.is)) c.put_word_number.ensures

pub returns-in_default : goal.returns-in_default
returns-in_default c =
    let d = c.in_default in
    let e = none_named c.args.refused d.not-NoEnd d.not-OneCard d.not-Parallel d.not-Unreached d.not-OddLoop in
    grows_as (sym e) (grows_none c.args.text.now)
