-- What contracts see of a name, without where its parts lie in memory.
use Rattle.ged_value.specs.Names.{NameParts, plain, parts}
use Rattle.ged_value.specs.declared.name.PersonName.{PersonName}
use Rattle.ged_value.specs.declared.name.PersonName.TheVariants.{Plain, Parts}

abbrev pub name_parts : PersonName → NameParts
name_parts (Plain name) = plain name.now
name_parts (Parts before surname after) = parts before.now surname.now after.now
