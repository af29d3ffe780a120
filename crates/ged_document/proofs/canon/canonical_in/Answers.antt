use Rattle.std.proofs.Common.{◌≡◌, true, sym, ◌∙◌, subst}
use Rattle.std.proofs.lemmas.Result.{IfOk-weaker}
use Rattle.ged_line.specs.Bytes.{Bytes}
use Rattle.ged_tree.specs.Trees.{Trees}
use Rattle.ged_tree.specs.Documents.{is_document}
use Rattle.ged_tree.specs.Building.{HasFile}
use Rattle.ged_link.specs.Indexes.{IsIndexOf}
use Rattle.ged_schema.specs.Checked.{Checked}
use Rattle.ged_canon.specs.declared.edition.Edition.{Edition}
use Rattle.ged_canon.specs.Normal.{IsNormalForm}
use Rattle.ged_canon.specs.CanonText.{CanonText}
use Rattle.ged_canon.proofs.CallerLemmas.{has_file, document_kept, normal_form_is_unique}
use Rattle.ged_document.proofs.canon.canonical_in.Goals as goal

-- the canonical bytes of a table of a document are a file that has the document's normal form
has_form : (edition : Edition) (d table : Trees) (bytes seen : Bytes) → is_document d ≡ true → table ≡ d → seen ≡ bytes
    → (e : Trees) × IsNormalForm edition table e × CanonText e bytes → (e : Trees) × IsNormalForm edition d e × HasFile e seen
has_form edition d table bytes seen document same is (e, form, text) =
    let of_d : IsNormalForm edition d e = subst (λ t. IsNormalForm edition t e) same form in
    (e, of_d, has_file e seen (document_kept edition d e of_d.equivalent document) (is ∙ text))

pub known_table-requires : goal.known_table-requires
known_table-requires c =
    let d = c.args.document.now in
    (d, has_file d c.as_slice.result.now c.write_document.ensures.document (c.as_slice.ensures.value ∙ c.in_ok-file.ensures.text))

pub canonical_bytes_in-requires-clause-index : goal.canonical_bytes_in-requires-clause-index
canonical_bytes_in-requires-clause-index c =
    let d = c.args.document.now in
    let same = c.in_ok-table.ensures d (has_file d c.as_slice.result.now c.write_document.ensures.document (c.as_slice.ensures.value ∙ c.in_ok-file.ensures.text)) in
    subst (λ t. IsIndexOf t c.args.index.now) (sym same) c.requires.index

pub canonical_bytes_in-requires-clause-checked : goal.canonical_bytes_in-requires-clause-checked
canonical_bytes_in-requires-clause-checked c =
    let d = c.args.document.now in
    let same = c.in_ok-table.ensures d (has_file d c.as_slice.result.now c.write_document.ensures.document (c.as_slice.ensures.value ∙ c.in_ok-file.ensures.text)) in
    subst Checked (sym same) c.requires.checked

pub known_document-requires : goal.known_document-requires
known_document-requires c =
    let d = c.args.document.now in
    let same = c.in_ok-table.ensures d (has_file d c.as_slice.result.now c.write_document.ensures.document (c.as_slice.ensures.value ∙ c.in_ok-file.ensures.text)) in
    let made = has_form c.args.edition d c.in_ok-table.table c.in_ok-form.form.items c.as_slice-2.result.now c.write_document.ensures.document same c.as_slice-2.ensures.value c.in_ok-form.ensures.normal_form in
    (made.0, made.2)

pub returns-clause-normal_form : goal.returns-clause-normal_form
returns-clause-normal_form c =
    let d = c.args.document.now in
    let same = c.in_ok-table.ensures d (has_file d c.as_slice.result.now c.write_document.ensures.document (c.as_slice.ensures.value ∙ c.in_ok-file.ensures.text)) in
    let made = has_form c.args.edition d c.in_ok-table.table c.in_ok-form.form.items c.as_slice-2.result.now c.write_document.ensures.document same c.as_slice-2.ensures.value c.in_ok-form.ensures.normal_form in
    IfOk-weaker c.known_document.result _ _ (λ m is. subst (λ t. IsNormalForm c.args.edition d t) (sym is) made.1) (c.known_document.ensures made.0 made.2)

pub returns-clause-same : goal.returns-clause-same
returns-clause-same c = λ normal.
    let d = c.args.document.now in
    let same = c.in_ok-table.ensures d (has_file d c.as_slice.result.now c.write_document.ensures.document (c.as_slice.ensures.value ∙ c.in_ok-file.ensures.text)) in
    let made = has_form c.args.edition d c.in_ok-table.table c.in_ok-form.form.items c.as_slice-2.result.now c.write_document.ensures.document same c.as_slice-2.ensures.value c.in_ok-form.ensures.normal_form in
    IfOk-weaker c.known_document.result _ _ (λ m is. is ∙ sym (normal_form_is_unique c.args.edition d made.0 made.1.equivalent normal made.1.normal)) (c.known_document.ensures made.0 made.2)
