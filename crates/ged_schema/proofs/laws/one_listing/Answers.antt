use Rattle.ged_schema.proofs.ListingLaws.{one_listing}
use Rattle.ged_schema.proofs.laws.one_listing.Goals as goal

pub returns : goal.returns
returns c = one_listing
