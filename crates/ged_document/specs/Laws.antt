-- Laws of nodes and of paths, each the contract of a public function.
use Rattle.std.specs.Prelude.{◌≡◌, ℕ, List}
use Rattle.ged_tree.specs.Trees.{Trees, Tree, trees_of}
use Rattle.ged_document.specs.Paths.{LeadsTo}
use Rattle.ged_document.specs.Records.{record_trees, document_trees}
use Rattle.ged_document.specs.declared.node.RecordNode.{RecordNode}

-- a path leads to one place at most
abbrev pub OnePlace : Type 0
OnePlace = (document : Trees) (path : List ℕ) (place other : ℕ) → LeadsTo path document place → LeadsTo path document other → place ≡ other

-- No two lists of nodes have the same trees: what is said of the trees says all of the nodes.
abbrev pub NodesByTrees : Type 0
NodesByTrees = (nodes others : List Tree) → trees_of nodes ≡ trees_of others → nodes ≡ others

-- no two lists of records have
abbrev pub RecordsByTrees : Type 0
RecordsByTrees = (records others : List RecordNode) → record_trees records ≡ record_trees others → records ≡ others

-- nor have HEAD and the records of two documents
abbrev pub DocumentsByTrees : Type 0
DocumentsByTrees = (head other : Tree) (records others : List RecordNode) → document_trees head records ≡ document_trees other others
    → (head ≡ other) × (records ≡ others)
