-- The text written from the buffer's start on is the listing, and fits. Assumes nothing.
use native.Mathlib.Omega.{arith}
use Rattle.listing_text.proofs.Fits.{listing_fits}
use Rattle.listing_text.proofs.Listings.{listed_length, listed_inside, listed_text}
use Rattle.listing_text.proofs.put_listing_text.Goals as goal

pub put_listing-requires : goal.put_listing-requires
put_listing-requires c = ((_, c.plan_file-plan.ensures), omega (arith, listing_fits c.args.file.now, c.new-lines.ensures.room, c.new-lines.ensures.start))

pub overflow_cast-result : goal.overflow_cast-result
overflow_cast-result c = omega (arith, listed_inside c.args.file.now _ _ c.put_listing.ensures c.new-lines.ensures.start)

pub returns : goal.returns
returns c = record {
  length = listed_length c.args.file.now _ _ c.put_listing.ensures c.new-lines.ensures.start;
  text = listed_text c.args.file.now _ _ c.put_listing.ensures c.new-lines.ensures.start c.new-lines.ensures.zeros;
}
