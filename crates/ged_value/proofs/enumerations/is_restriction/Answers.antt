-- `search` goes through the ways in which two of these words differ
use Rattle.std.proofs.Common.{sym}
use Rattle.ged_value.specs.Enumerations.{restrictions}
use Rattle.ged_value.proofs.WordLaws.{none_of}
use Rattle.ged_value.proofs.enumerations.is_restriction.Goals as goal

pub returns-in_default : goal.returns-in_default
returns-in_default c =
    let n = c.in_default in
    sym (none_of restrictions c.args.word.now (n.not-CONFIDENTIAL, (n.not-LOCKED, (n.not-PRIVACY, tt))))
