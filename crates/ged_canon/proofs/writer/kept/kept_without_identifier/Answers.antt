use Rattle.std.proofs.Common.{◌-◌, length, take, drop, rules, arith}
use Rattle.std.proofs.lemmas.List.{take_rest}
use Rattle.ged_canon.proofs.writer.KeptLines.{line_kept}
use Rattle.ged_canon.proofs.writer.kept.kept_without_identifier.Goals as goal

pub returns-clause-line : goal.returns-clause-line
returns-clause-line c =
    let file = c.args.file.now in
    let start = c.in_ok-start.start in
    let line = take (length file - start) (drop start file) in
    line_kept file line c.in_ok-behind.behind.now c.args.rest.now start c.args.level (take_rest file start) (omega arith) c.in_ok-behind.ensures.bytes (search rules)
