use Rattle.ged_value.specs.Names.{NameText}
use Rattle.ged_value.specs.inner.NameReading.{name_at}
use Rattle.ged_value.specs.NameViews.{name_parts}
use Rattle.ged_value.proofs.ReadingLaws.{reads}
use Rattle.ged_value.proofs.NameLaws.{name_again, name_found}
use Rattle.ged_value.proofs.name.read_name.Goals as goal

pub returns : goal.returns
returns c = reads name_parts NameText name_at name_again name_found c.args.text.now c.name_at.result c.name_at.ensures
