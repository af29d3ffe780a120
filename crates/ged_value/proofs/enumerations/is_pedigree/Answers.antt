-- `search` stops at its limit over these words
use Rattle.std.proofs.Common.{sym}
use Rattle.ged_value.specs.Enumerations.{pedigrees}
use Rattle.ged_value.proofs.WordLaws.{none_of}
use Rattle.ged_value.proofs.enumerations.is_pedigree.Goals as goal

pub returns-in_default : goal.returns-in_default
returns-in_default c =
    let n = c.in_default in
    sym (none_of pedigrees c.args.word.now (n.not-ADOPTED, (n.not-BIRTH, (n.not-FOSTER, (n.not-SEALING, (n.not-OTHER, tt))))))
