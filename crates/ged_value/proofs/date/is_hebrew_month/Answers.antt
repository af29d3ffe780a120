-- `search` goes through the ways in which two of these words differ
use Rattle.std.proofs.Common.{sym}
use Rattle.ged_value.specs.inner.Months.{hebrew_months}
use Rattle.ged_value.proofs.WordLaws.{none_of}
use Rattle.ged_value.proofs.date.is_hebrew_month.Goals as goal

pub returns-in_default : goal.returns-in_default
returns-in_default c =
    let n = c.in_default in
    sym (none_of hebrew_months c.args.month.now (n.not-TSH, (n.not-CSH, (n.not-KSL, (n.not-TVT, (n.not-SHV, (n.not-ADR, (n.not-ADS, (n.not-NSN, (n.not-IYR, (n.not-SVN, (n.not-TMZ, (n.not-AAV, (n.not-ELL, tt))))))))))))))
