-- What a document's first tree is, and the others are not.
use Rattle.std.proofs.Common.{◌≡◌, true, ◌&&◌, sym, ap, ◌∙◌}
use Rattle.std.specs.Prelude.{codes, bytes_eq, is_none, nat_lt, length, ◌+◌, ◌^◌}
use Rattle.std.proofs.lemmas.Bool.{and_parts}
use Rattle.std.specs.Cmp.Lexicographic.{bytes_decides}
use Rattle.ged_tree.specs.Trees.{Structure, Trees, tree, lines_count}
use Rattle.ged_tree.specs.DocumentLines.{document_lines}
use Rattle.ged_tree.proofs.CallerLemmas.{counted}
use Rattle.ged_tree.specs.Documents.{is_document, are_records, are_at}
use Rattle.ged_tree.specs.inner.DocumentParts.{is_head}

-- what is known of a document
pub record Parts (s : Structure) (below next : Trees) : Type 0 where
  pub head : is_head s ≡ true
  pub records : are_records next ≡ true
  pub places : are_at 0 (tree s below next) ≡ true
  pub small : nat_lt (length (document_lines (tree s below next))) (2 ^ 63) ≡ true

pub parts : (s : Structure) (below next : Trees) → is_document (tree s below next) ≡ true → Parts s below next
parts s below next h =
    let a = and_parts (is_head s && are_records next) (are_at 0 (tree s below next) && nat_lt (length (document_lines (tree s below next))) (2 ^ 63)) h in
    let b = and_parts (is_head s) (are_records next) a.0 in
    let c = and_parts (are_at 0 (tree s below next)) (nat_lt (length (document_lines (tree s below next))) (2 ^ 63)) a.1 in
    record { head = b.0; records = b.1; places = c.0; small = c.1 }

pub head_tag : (s : Structure) (below next : Trees) → is_document (tree s below next) ≡ true → s.tag ≡ codes "HEAD"
head_tag s below next h = (bytes_decides s.tag (codes "HEAD")).0 ((and_parts (bytes_eq s.tag (codes "HEAD")) (is_none s.xref) (parts s below next h).head).0)

-- trees with as many lines have lists of lines as long
pub same_length : (x y : Trees) → lines_count x ≡ lines_count y → length (document_lines x) ≡ length (document_lines y)
same_length x y e = counted x ∙ ap (λ k. k + 1) e ∙ sym (counted y)
