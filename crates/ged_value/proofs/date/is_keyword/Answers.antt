-- `search` goes through the ways in which two of these words differ
use Rattle.std.proofs.Common.{sym}
use Rattle.ged_value.specs.inner.Months.{keywords}
use Rattle.ged_value.proofs.WordLaws.{none_of}
use Rattle.ged_value.proofs.date.is_keyword.Goals as goal

pub returns-in_default : goal.returns-in_default
returns-in_default c =
    let n = c.in_default in
    sym (none_of keywords c.args.word.now (n.not-FROM, (n.not-TO, (n.not-BET, (n.not-AND, (n.not-BEF, (n.not-AFT, (n.not-ABT, (n.not-CAL, (n.not-EST, tt))))))))))
