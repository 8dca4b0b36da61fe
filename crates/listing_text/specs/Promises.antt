-- What is promised of the listing's text. Each statement is proved in proofs/Promises.antt under its name.
use Rattle.std.specs.Prelude.{List, ℕ, ◌≤◌, length}
use Rattle.listing_text.specs.Listing.{listing, lent_text}

-- every listing fits the lent buffer
unfoldable pub ListingFits : Type 0
ListingFits = (bs : List ℕ) → length (listing bs) ≤ lent_text
