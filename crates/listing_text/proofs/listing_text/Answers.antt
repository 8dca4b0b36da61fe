-- With 1 nothing is touched; in a buffer of its length the listing was written. Assumes nothing.
use native.Mathlib.Omega.{arith}
use Rattle.listing_text.proofs.Listings.{listing_says_one, listing_says_text}
use Rattle.listing_text.proofs.listing_text.Goals as goal

pub returns-in_default : goal.returns-in_default
returns-in_default c = listing_says_one c.args.file.now c.args.text.now c.in_default.ensures.cases

pub returns : goal.returns
returns c =
    let text = c.in-Some.ensures.cases in
    let put = c.put_listing_text in
    listing_says_text c.args.file.now c.args.text.now _ _ text.long (omega (arith, text.long)) put.ensures.length put.ensures.text
