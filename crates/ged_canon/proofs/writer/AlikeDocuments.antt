-- Two documents have the same canonical document exactly where HEAD and their records have the same lines.
use Rattle.std.proofs.Common.{◌≡◌, ◌++◌, ◌∷◌, [], true, List, refl, sym, ap, ◌∙◌, subst}
use Rattle.ged_line.specs.Bytes.{Bytes, line_feed}
use Rattle.ged_line.specs.Spelling.{spelling}
use Rattle.ged_line.proofs.CallerLemmas.{one_reading}
use Rattle.ged_tree.specs.Trees.{Trees}
use Rattle.ged_tree.specs.Documents.{is_document}
use Rattle.ged_tree.specs.DocumentLines.{document_lines}
use Rattle.ged_tree.specs.inner.Trailers.{trailer_line}
use Rattle.ged_tree.proofs.CallerLemmas.{none_shared}
use Rattle.ged_link.specs.Links.{Resolved}
use Rattle.ged_schema.specs.Checked.{Checked}
use Rattle.ged_schema.specs.declared.context.Context.TheVariants.{File}
use Rattle.ged_canon.specs.declared.edition.Edition.{Edition}
use Rattle.ged_canon.specs.declared.writer.rank.RankedSibling.{RankedSibling}
use Rattle.ged_canon.specs.Steps.{Equivalent}
use Rattle.ged_canon.specs.CanonText.{CanonText}
use Rattle.ged_canon.specs.inner.Working.{is_named, used_document, sorted_document, canon}
use Rattle.ged_canon.specs.inner.Siblings.{sibling_trees, sibling_names}
use Rattle.ged_canon.specs.inner.CanonBytes.{numbered_siblings, spelled_siblings}
use Rattle.ged_canon.proofs.theory.CanonFiles.{has_file}
use Rattle.ged_canon.proofs.theory.Chains.{both, back}
use Rattle.ged_canon.proofs.theory.Normality.{canon_is_normal_form, ends_in_document}
use Rattle.ged_canon.proofs.theory.Undone.{step_back}
use Rattle.ged_canon.proofs.theory.Unique.{canon_equivalent}
use Rattle.ged_canon.proofs.writer.Records.{file_spelled, numbered_document_of}

-- one text spells one document
one_document : (d e : Trees) (bytes : Bytes) → is_document d ≡ true → is_document e ≡ true → CanonText d bytes → CanonText e bytes → d ≡ e
one_document d e bytes p q spelled other =
    let (_, first) = has_file d bytes p spelled in
    let (_, second) = has_file e bytes q other in
    let lines = one_reading bytes (document_lines d) (document_lines e) first second in
    none_shared d e (document_lines d) (record { allowed = p; told = refl }) (record { allowed = q; told = lines })

-- a document, all of whose siblings are listed in order
pub record IsListed (edition : Edition) (d : Trees) (xs : List RankedSibling) : Type 0 where
  pub document : is_document d ≡ true
  pub resolved : Resolved d
  pub checked : Checked d
  pub listed : sibling_trees (is_named d) edition File d xs ≡ sorted_document edition (used_document d)

module _ (edition : Edition) (d e : Trees) (xs ys : List RankedSibling) (first : IsListed edition d xs) (second : IsListed edition e ys) where
  abbrev own : List RankedSibling → Trees
  own zs = numbered_siblings (is_named d) edition (sibling_names d xs) d zs

  abbrev other : List RankedSibling → Trees
  other zs = numbered_siblings (is_named e) edition (sibling_names e ys) e zs

  -- they have one canonical document where one becomes the other by steps
  pub same_siblings : Equivalent edition d e → numbered_siblings (is_named d) edition (sibling_names d xs) d xs ≡ numbered_siblings (is_named e) edition (sibling_names e ys) e ys
  same_siblings steps =
      numbered_document_of edition d xs first.listed ∙ canon_equivalent edition d e steps ∙ sym (numbered_document_of edition e ys second.listed)

  steps_of : canon edition d ≡ canon edition e → Equivalent edition d e
  steps_of same =
      both (canon_is_normal_form edition d first.document first.resolved first.checked).equivalent
      (subst (λ (t : Trees). Equivalent edition t e) (sym same) (back (step_back edition) (canon_is_normal_form edition e second.document second.resolved second.checked).equivalent))

  -- one becomes the other where their siblings have the same lines
  pub same_lines : spelled_siblings (is_named d) edition (sibling_names d xs) d xs ≡ spelled_siblings (is_named e) edition (sibling_names e ys) e ys → Equivalent edition d e
  same_lines same =
      let mark : Bytes = 0xEF ∷ 0xBB ∷ 0xBF ∷ [] in
      let trailer = spelling trailer_line ++ line_feed ∷ [] in
      let middle = mark ++ spelled_siblings (is_named d) edition (sibling_names d xs) d xs in
      let is = ends_in_document d (canon edition d) first.document (canon_is_normal_form edition d first.document first.resolved first.checked).equivalent in
      let also = ends_in_document e (canon edition e) second.document (canon_is_normal_form edition e second.document second.resolved second.checked).equivalent in
      steps_of (one_document (canon edition d) (canon edition e) (middle ++ trailer) is also
      (file_spelled (is_named d) edition (sibling_names d xs) d (canon edition d) xs mark middle (middle ++ trailer) (numbered_document_of edition d xs first.listed) refl refl refl)
      (file_spelled (is_named e) edition (sibling_names e ys) e (canon edition e) ys mark middle (middle ++ trailer) (numbered_document_of edition e ys second.listed) refl (ap (λ bytes. mark ++ bytes) same) refl))
