use Rattle.std.proofs.Common.{◌-◌, length, take, drop, rules}
use Rattle.std.proofs.lemmas.List.{take_rest}
use Rattle.ged_canon.proofs.writer.KeptLines.{record_kept}
use Rattle.ged_canon.proofs.writer.kept.kept_with_identifier.Goals as goal

pub returns-clause-line : goal.returns-clause-line
returns-clause-line c =
    let file = c.args.file.now in
    let start = c.in_ok-start.start in
    let line = take (length file - start) (drop start file) in
    record_kept file line c.in_ok-named.named.now c.in_ok-behind.behind.now c.args.name.now c.args.rest.now start
    (take_rest file start) c.in_ok-named.ensures.bytes c.in_ok-behind.ensures.bytes (search rules)
