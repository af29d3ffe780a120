use Rattle.std.proofs.Common.{◌≡◌, take, length, rules, arith}
use Rattle.ged_canon.proofs.writer.KeptLines.{line_found}
use Rattle.ged_canon.proofs.writer.kept.begins_with_line.Goals as goal

pub returns-clause-line : goal.returns-clause-line
returns-clause-line c = λ equal.
    let text = c.args.text.now in
    let same : take (length text) c.args.bytes.now ≡ text = search rules in
    line_found c.args.bytes.now text (omega arith) same (search rules)
