use Rattle.ged_accept.proofs.laws.Accepting.{accepted_or_faulty}
use Rattle.ged_accept.proofs.laws.accepted_or_faulty.Goals as goal

pub returns : goal.returns
returns c = accepted_or_faulty c.args.profile c.args.file.now c.document_or_fault_of_file.ensures
