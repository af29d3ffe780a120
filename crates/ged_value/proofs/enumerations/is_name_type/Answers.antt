-- `search` stops at its limit over these words
use Rattle.std.proofs.Common.{sym}
use Rattle.ged_value.specs.Enumerations.{name_types}
use Rattle.ged_value.proofs.WordLaws.{none_of}
use Rattle.ged_value.proofs.enumerations.is_name_type.Goals as goal

pub returns-in_default : goal.returns-in_default
returns-in_default c =
    let n = c.in_default in
    sym (none_of name_types c.args.word.now (n.not-AKA, (n.not-BIRTH, (n.not-IMMIGRANT, (n.not-MAIDEN, (n.not-MARRIED, (n.not-PROFESSIONAL, (n.not-OTHER, tt))))))))
