-- The trees of a document's parts.
use Rattle.std.specs.Prelude.{List, [], ◌∷◌, None}
use Rattle.ged_tree.specs.Trees.{Trees, none, tree, Tree, structure_of}
use Rattle.ged_document.specs.declared.node.RecordNode.{RecordNode}

-- the trees of records, side by side
abbrev pub record_trees : List RecordNode → Trees
record_trees [] = none
record_trees (r ∷ rs) = tree (structure_of r.xref r.node) r.node.children (record_trees rs)

-- HEAD's tree and, after it, the records' trees
abbrev pub document_trees : Tree → List RecordNode → Trees
document_trees head records = tree (structure_of None head) head.children (record_trees records)
