use Rattle.ged_tree.proofs.CallerLemmas.{few_of_document}
use Rattle.ged_document.proofs.LineTests.{levels_of_document, lines_of_document}
use Rattle.ged_document.specs.Records.{document_trees}
use Rattle.ged_document.proofs.document.Document.parts.Goals as goal

pub returns-clause-few : goal.returns-clause-few
returns-clause-few c = rw (← c.self.view_is) (few_of_document (document_trees c.self.inside.head c.self.inside.records.items) c.self.invariant).0

pub returns-clause-lines : goal.returns-clause-lines
returns-clause-lines c = rw (← c.self.view_is) (few_of_document (document_trees c.self.inside.head c.self.inside.records.items) c.self.invariant).1

pub returns-clause-levels : goal.returns-clause-levels
returns-clause-levels c = rw (← c.self.view_is) (levels_of_document (document_trees c.self.inside.head c.self.inside.records.items) c.self.invariant)

pub returns-clause-stand : goal.returns-clause-stand
returns-clause-stand c = rw (← c.self.view_is) (lines_of_document (document_trees c.self.inside.head c.self.inside.records.items) c.self.invariant)
