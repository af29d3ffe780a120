use Rattle.ged_tree.proofs.laws.FileFaults.{faulty_fails}
use Rattle.ged_tree.proofs.laws.documents.faulty_file_fails.Goals as goal

pub returns : goal.returns
returns c = faulty_fails
