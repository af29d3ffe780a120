use Rattle.ged_tree.proofs.CallerLemmas.{written_fault, written_has, written_stop}
use Rattle.ged_document.proofs.building.document_of_file.Goals as goal

pub first_fault-requires : goal.first_fault-requires
first_fault-requires c =
    let told = rw c.in-Err-At.field-0-is at c.in-Err-At.ensures.fault in
    rw c.in-Err-At.field-0-is (written_fault c.args.lines.now.lines.items c.args.file.now c.requires c.in-Err-At.at told)

pub returns-in-Some-clause-fault : goal.returns-in-Some-clause-fault
returns-in-Some-clause-fault c =
    rw c.in-Some.is (written_stop c.args.lines.now.lines.items c.args.file.now c.requires c.in-Ok.flat c.in-Some.stop c.fault_of_stop.result.line c.fault_of_stop.result.fault
    c.in-Ok.ensures.document c.fault_of_stop.ensures.line c.fault_of_stop.ensures.fault)

pub returns-in-Ok-document_of-clause-document : goal.returns-in-Ok-document_of-clause-document
returns-in-Ok-document_of-clause-document c =
    rw c.in-Ok-document_of.ensures (written_has c.args.lines.now.lines.items c.args.file.now c.requires c.in-Ok.flat c.in-Ok.ensures.document)
