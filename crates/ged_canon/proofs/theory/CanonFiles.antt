-- The canonical spelling of a document is a file that has the document.
use Rattle.std.proofs.Common.{◌≡◌, true, List, [], ◌∷◌, refl, sym, subst}
use Rattle.std.specs.List.{AllByRecursion, list_all}
use Rattle.std.proofs.lemmas.Bool.{and_parts}
use Rattle.ged_line.specs.Bytes.{Bytes}
use Rattle.ged_line.specs.Lines.{LineParts, is_line}
use Rattle.ged_line.specs.Files.{FileText}
use Rattle.ged_line.proofs.CallerLemmas.{written_is_read}
use Rattle.ged_tree.specs.Trees.{Trees}
use Rattle.ged_tree.specs.Documents.{is_document, HasLines}
use Rattle.ged_tree.specs.DocumentLines.{document_lines}
use Rattle.ged_tree.specs.Building.{HasFile}
use Rattle.ged_tree.proofs.CallerLemmas.{are_lines}
use Rattle.ged_canon.specs.CanonText.{CanonText}

each_line : (lines : List LineParts) → list_all is_line lines ≡ true → AllByRecursion (λ line. is_line line ≡ true) lines
each_line [] h = tt
each_line (line ∷ lines) h = let parts = and_parts (is_line line) (list_all is_line lines) h in (parts.0, each_line lines parts.1)

pub has_file : (d : Trees) (bytes : Bytes) → is_document d ≡ true → CanonText d bytes → HasFile d bytes
has_file d bytes allowed spelled =
    let has : HasLines d (document_lines d) = record { allowed = allowed; told = refl } in
    let text = written_is_read (document_lines d) (each_line (document_lines d) (are_lines d (document_lines d) has).0) in
    (allowed, subst (FileText (document_lines d)) (sym spelled) text)
