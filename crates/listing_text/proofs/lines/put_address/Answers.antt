-- A dash, or the columns. Assumes nothing.
use mathlib.Core.Path.{sym, ap}
use native.Mathlib.Omega.{arith}
use lib.ListN.{length}
use Rattle.rack.specs.Words.{word_bit}
use Rattle.listing_text.specs.Listing.{dash}
use Rattle.rack.proofs.Putting.{grows_as}
use Rattle.listing_text.proofs.CardLines.{address_none, address_columns, length_columns}
use Rattle.listing_text.proofs.lines.put_address.Goals as goal

pub put_byte-requires : goal.put_byte-requires
unfolding dash
put_byte-requires c =
    let row = word_bit c.args.rack.words.now c.args.c in
    omega (arith, c.requires.1, ap length (address_none c.args.rack.columns row c.if-rack-eq0.true))

pub returns-then-rack-eq0 : goal.returns-then-rack-eq0
unfolding dash
returns-then-rack-eq0 c =
    let row = word_bit c.args.rack.words.now c.args.c in
    grows_as (sym (address_none c.args.rack.columns row c.if-rack-eq0.true)) c.put_byte.ensures

pub put_columns-requires : goal.put_columns-requires
put_columns-requires c =
    let row = word_bit c.args.rack.words.now c.args.c in
    (c.requires.0, omega (arith, c.requires.1, length_columns c.args.rack.columns row c.if-rack-eq0.false))

pub returns-else-rack-eq0 : goal.returns-else-rack-eq0
returns-else-rack-eq0 c =
    let row = word_bit c.args.rack.words.now c.args.c in
    grows_as (sym (address_columns c.args.rack.columns row c.if-rack-eq0.false)) c.put_columns.ensures
