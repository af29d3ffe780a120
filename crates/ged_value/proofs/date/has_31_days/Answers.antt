-- `search` goes through the ways in which two of these words differ
use Rattle.std.proofs.Common.{sym}
use Rattle.ged_value.specs.inner.Months.{months_of_31}
use Rattle.ged_value.proofs.WordLaws.{none_of}
use Rattle.ged_value.proofs.date.has_31_days.Goals as goal

pub returns-in_default : goal.returns-in_default
returns-in_default c =
    let n = c.in_default in
    sym (none_of months_of_31 c.args.month.now (n.not-JAN, (n.not-MAR, (n.not-MAY, (n.not-JUL, (n.not-AUG, (n.not-OCT, (n.not-DEC, tt))))))))
