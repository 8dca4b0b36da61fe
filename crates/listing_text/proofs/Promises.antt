-- The promises of specs/Promises.antt. Assumes nothing.
use Rattle.listing_text.specs.Promises.{ListingFits}
use Rattle.listing_text.proofs.Fits as fits

pub listing_fits : ListingFits
unfolding ListingFits
listing_fits bs = fits.listing_fits bs
