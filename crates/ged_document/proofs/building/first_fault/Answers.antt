use Rattle.std.proofs.Common.{arith}
use Rattle.ged_tree.proofs.CallerLemmas.{stop_first}
use Rattle.ged_document.proofs.building.first_fault.Goals as goal

pub returns-in-Some : goal.returns-in-Some
returns-in-Some c =
    let lines = c.args.lines.now.lines in
    rw c.in-Some.is (stop_first lines.items c.in-Some.stop c.args.at.line c.fault_of_stop.result.line c.args.at.fault c.fault_of_stop.result.fault c.requires
    (omega (arith, c.if-at-len.true, c.len.ensures, lines.ok.0)) c.fault_of_stop.ensures.line c.fault_of_stop.ensures.fault)
