use Rattle.ged_document.proofs.OneToOne.{nodes_by_trees, records_by_trees, documents_by_trees}
use Rattle.ged_document.proofs.laws.known_by_trees.Goals as goal

pub returns : goal.returns
returns c = record { nodes = nodes_by_trees; records = records_by_trees; documents = documents_by_trees }
