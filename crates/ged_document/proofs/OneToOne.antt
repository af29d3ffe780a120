-- Nodes, records and documents are known by their trees.
use Rattle.std.proofs.Common.{◌≡◌, [], ◌∷◌, Option, None, ap, refl}
use Rattle.ged_line.specs.Bytes.{Bytes}
use Rattle.ged_tree.specs.Trees.{Structure, Trees, none, tree, Tree, structure_of}
use Rattle.ged_document.specs.Laws.{NodesByTrees, RecordsByTrees, DocumentsByTrees}
use Rattle.ged_document.specs.declared.node.RecordNode.{RecordNode}

none_or_tree : (s : Structure) (b n : Trees) → none ≡ tree s b n → ⊥
none_or_tree s b n e = cc

tree_or_none : (s : Structure) (b n : Trees) → tree s b n ≡ none → ⊥
tree_or_none s b n e = cc

same_first : (s t : Structure) (b c n m : Trees) → tree s b n ≡ tree t c m → s ≡ t
same_first s t b c n m e = cc

same_below : (s t : Structure) (b c n m : Trees) → tree s b n ≡ tree t c m → b ≡ c
same_below s t b c n m e = cc

same_next : (s t : Structure) (b c n m : Trees) → tree s b n ≡ tree t c m → n ≡ m
same_next s t b c n m e = cc

-- a structure, and what stands below it
same_node : (x y : Option Bytes) (t u : Tree) → structure_of x t ≡ structure_of y u → t.children ≡ u.children → t ≡ u
same_node x y t u s c =
    let tags = ap (λ (z : Structure). z.tag) s in
    let payloads = ap (λ (z : Structure). z.payload) s in
    λ i. record { tag = tags i; payload = payloads i; children = c i }

same_record : (r q : RecordNode) → structure_of r.xref r.node ≡ structure_of q.xref q.node → r.node.children ≡ q.node.children → r ≡ q
same_record r q s c =
    let xrefs = ap (λ (z : Structure). z.xref) s in
    let nodes = same_node r.xref q.xref r.node q.node s c in
    λ i. record { xref = xrefs i; node = nodes i }

pub nodes_by_trees : NodesByTrees
nodes_by_trees [] [] e = refl
nodes_by_trees [] (u ∷ us) e = absurd (none_or_tree _ _ _ e)
nodes_by_trees (t ∷ ts) [] e = absurd (tree_or_none _ _ _ e)
nodes_by_trees (t ∷ ts) (u ∷ us) e =
    let first = same_node None None t u (same_first _ _ _ _ _ _ e) (same_below _ _ _ _ _ _ e) in
    let others = nodes_by_trees ts us (same_next _ _ _ _ _ _ e) in
    λ i. first i ∷ others i

pub records_by_trees : RecordsByTrees
records_by_trees [] [] e = refl
records_by_trees [] (q ∷ qs) e = absurd (none_or_tree _ _ _ e)
records_by_trees (r ∷ rs) [] e = absurd (tree_or_none _ _ _ e)
records_by_trees (r ∷ rs) (q ∷ qs) e =
    let first = same_record r q (same_first _ _ _ _ _ _ e) (same_below _ _ _ _ _ _ e) in
    let others = records_by_trees rs qs (same_next _ _ _ _ _ _ e) in
    λ i. first i ∷ others i

pub documents_by_trees : DocumentsByTrees
documents_by_trees head other records others e = (
  same_node None None head other (same_first _ _ _ _ _ _ e) (same_below _ _ _ _ _ _ e),
  records_by_trees records others (same_next _ _ _ _ _ _ e),
)
