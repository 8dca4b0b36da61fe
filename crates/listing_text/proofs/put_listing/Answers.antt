-- The line of the refusal, or the lines of the rack, are those of the listing. Assumes nothing.
use mathlib.Core.Path.{sym, ap}
use native.Mathlib.Omega.{arith}
use lib.ListN.{length}
use Rattle.rack.proofs.Putting.{grows_as}
use Rattle.listing_text.proofs.Listings.{listing_refused, planned_sizes, planned_columns, listing_rack}
use Rattle.listing_text.proofs.put_listing.Goals as goal

pub put_refused-requires : goal.put_refused-requires
put_refused-requires c =
    omega (arith, c.requires.1, ap length (listing_refused c.args.file.now c.in-Err.refused c.args.words.now (rw c.in-Err.is at c.requires.0)))

pub returns-in-Err : goal.returns-in-Err
returns-in-Err c =
    grows_as (sym (listing_refused c.args.file.now c.in-Err.refused c.args.words.now (rw c.in-Err.is at c.requires.0))) c.put_refused.ensures

pub number_at-requires : goal.number_at-requires
number_at-requires c =
    omega (arith, (planned_sizes c.args.file.now c.in-Ok.columns c.args.words.now (rw c.in-Ok.is at c.requires.0)).head)

pub number_at-requires-in-Ok : goal.number_at-requires-in-Ok
number_at-requires-in-Ok c =
    omega (arith, (planned_sizes c.args.file.now c.in-Ok.columns c.args.words.now (rw c.in-Ok.is at c.requires.0)).head)

pub invariant_of-rack : goal.invariant_of-rack
invariant_of-rack c =
    let planned = rw c.in-Ok.is at c.requires.0 in
    let sizes = planned_sizes c.args.file.now c.in-Ok.columns c.args.words.now planned in
    record {
      sizes = (
        omega (arith, c.number_at.ensures.is, sizes.cards),
        omega (arith, c.number_at-in-Ok.ensures.is, sizes.links),
        omega (arith, planned_columns c.args.file.now c.in-Ok.columns c.args.words.now planned),
      );
    }

pub put_rack-requires : goal.put_rack-requires
put_rack-requires c =
    let planned = rw c.in-Ok.is at c.requires.0 in
    let e = listing_rack c.args.file.now c.in-Ok.columns c.args.words.now planned _ _ c.number_at.ensures.is c.number_at-in-Ok.ensures.is in
    omega (arith, c.requires.1, ap length e)

pub returns-in-Ok : goal.returns-in-Ok
returns-in-Ok c =
    let planned = rw c.in-Ok.is at c.requires.0 in
    grows_as
    (listing_rack c.args.file.now c.in-Ok.columns c.args.words.now planned _ _ c.number_at.ensures.is c.number_at-in-Ok.ensures.is) c.put_rack.ensures
