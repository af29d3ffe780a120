use Rattle.std.proofs.Common.{subst}
use Rattle.ged_tree.specs.Building.{TellsFile}
use Rattle.ged_tree.proofs.CallerLemmas.{faulty_file_has_none}
use Rattle.ged_accept.proofs.CallerLemmas.{one_of_file}
use Rattle.ged_document.proofs.canon.known_table.Goals as goal

pub returns-in-Ok : goal.returns-in-Ok
returns-in-Ok c = λ d has. one_of_file c.args.file.now c.in-Ok.flat d c.in-Ok.ensures.document has

pub unreachable-requires : goal.unreachable-requires
unreachable-requires c =
    let at = c.in-Err-At.field-0-0 in
    faulty_file_has_none c.args.file.now at.line at.fault (subst (λ fault. TellsFile fault c.args.file.now) c.in-Err-At.field-0-is c.in-Err-At.ensures.fault) c.requires.0 c.requires.1
