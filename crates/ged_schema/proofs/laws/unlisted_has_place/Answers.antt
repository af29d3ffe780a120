use Rattle.ged_schema.specs.declared.context.Context.TheVariants.{File}
use Rattle.ged_schema.proofs.FirstUnlisted.{has_place, place_has}
use Rattle.ged_schema.proofs.laws.unlisted_has_place.Goals as goal

pub returns : goal.returns
returns c = λ d. (has_place File 0 d, λ h. place_has File 0 d h.0 h.1)
