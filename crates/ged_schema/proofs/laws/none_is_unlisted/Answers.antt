use Rattle.ged_schema.proofs.ListingLaws.{none_unlisted}
use Rattle.ged_schema.proofs.laws.none_is_unlisted.Goals as goal

pub returns : goal.returns
returns c = none_unlisted
