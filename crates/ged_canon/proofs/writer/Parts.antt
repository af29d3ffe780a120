-- The identifiers of a document whose records are put in order.
use Rattle.std.proofs.Common.{◌≡◌, true, List, Option, Some, None, refl, sym, subst}
use Rattle.std.specs.Prelude.{bytes_eq, codes}
use Rattle.std.specs.Option.{is_none}
use Rattle.std.proofs.lemmas.Bool.{false≢true, and_parts}
use Rattle.ged_line.specs.Bytes.{Bytes}
use Rattle.ged_tree.specs.Trees.{Trees, none, tree, records_of}
use Rattle.ged_tree.specs.Documents.{is_document}
use Rattle.ged_link.specs.Links.{IsAmong, AreDistinct, xrefs, Resolved}
use Rattle.ged_link.specs.inner.Identifiers.{with_xref}
use Rattle.ged_canon.specs.declared.edition.Edition.{Edition}
use Rattle.ged_canon.specs.inner.Working.{used_document, sorted_document}
use Rattle.ged_canon.proofs.theory.Heads.{parts}
use Rattle.ged_canon.proofs.theory.Used.{sorted_xrefs, used_xrefs}
use Rattle.ged_canon.proofs.theory.Numbering.{resolved_sorted}

no_name : (x : Option Bytes) (names : List Bytes) → is_none x ≡ true → with_xref x names ≡ names
no_name None names h = refl
no_name (Some name) names h = absurd (false≢true h)

-- a document's identifiers are those of its records
pub document_xrefs : (d : Trees) → is_document d ≡ true → xrefs d ≡ xrefs (records_of d)
document_xrefs none h = refl
document_xrefs (tree s below next) h = no_name s.xref (xrefs next) ((and_parts (bytes_eq s.tag (codes "HEAD")) (is_none s.xref) (parts s below next h).head).1)

pub sorted_known : (edition : Edition) (d : Trees) (names : List Bytes) → is_document d ≡ true → names ≡ xrefs (sorted_document edition (used_document d)) → (name : Bytes) → IsAmong name names → IsAmong name (xrefs (records_of d))
sorted_known edition d names v e name k =
    subst (IsAmong name) (document_xrefs d v) ((used_xrefs d name (sorted_xrefs edition name (used_document d) (subst (IsAmong name) e k))).0)

pub sorted_distinct : (edition : Edition) (d : Trees) (names : List Bytes) → Resolved d → names ≡ xrefs (sorted_document edition (used_document d)) → AreDistinct names
sorted_distinct edition d names r e = subst AreDistinct (sym e) (resolved_sorted edition d r).distinct
