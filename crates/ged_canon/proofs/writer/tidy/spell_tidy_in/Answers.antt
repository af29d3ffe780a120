use Rattle.std.proofs.Common.{List, [], sym, ap, ◌∙◌, subst}
use Rattle.std.specs.List.{AllByRecursion}
use Rattle.ged_schema.specs.declared.context.Context.TheVariants.{File}
use Rattle.ged_canon.specs.declared.writer.rank.RankedSibling.{RankedSibling}
use Rattle.ged_canon.specs.inner.Working.{each_used, sorted_document}
use Rattle.ged_canon.specs.inner.Siblings.{StandsRanked, sibling_trees}
use Rattle.ged_canon.specs.inner.Written.{written}
use Rattle.ged_canon.proofs.theory.Tidy.{sorted_is_tidy_form}
use Rattle.ged_canon.proofs.writer.KeptNames.{unnumbered, sorted_stands, kept_listed, kept_document, only_tidy}
use Rattle.ged_canon.proofs.writer.Records.{siblings_stand, file_spelled}
use Rattle.ged_canon.proofs.writer.tidy.spell_tidy_in.Goals as goal

pub write_kept_records-requires : goal.write_kept_records-requires
write_kept_records-requires g c =
    let d = g.F.Forest.trees c.args.forest.now in
    let edition = c.args.edition in
    let xs = c.as_slice-records.result.now in
    let listed = ap (sibling_trees each_used edition File d) c.as_slice-records.ensures.value ∙ c.in_ok-siblings.ensures.trees each_used edition in
    record {
      document = c.document_siblings.ensures.document;
      within = subst (λ (xs : List RankedSibling). AllByRecursion (StandsRanked d) xs) (sym c.as_slice-records.ensures.value) c.in_ok-siblings.ensures.within;
      stand = siblings_stand each_used edition d (sorted_document edition d) xs (sorted_stands edition d c.document_siblings.ensures.document c.requires.checked) (kept_listed edition d xs listed);
    }

pub returns-clause-tidy_form : goal.returns-clause-tidy_form
returns-clause-tidy_form g c =
    let d = g.F.Forest.trees c.args.forest.now in
    let edition = c.args.edition in
    let xs = c.as_slice-records.result.now in
    let listed = ap (sibling_trees each_used edition File d) c.as_slice-records.ensures.value ∙ c.in_ok-siblings.ensures.trees each_used edition in
    let lines = c.in_ok-write_kept_records.ensures in
    let told = file_spelled each_used edition [] d (sorted_document edition d) xs (written c.text-file.result.now c.new-work.result.answer) (written c.text-file.result.now c.write_kept_records.new.work.answer) c.in_ok-form.form (kept_document edition d xs listed) (ap (written c.text-file.result.now) c.new-work.ensures ∙ c.in_ok-answer.ensures c.text-file.result.now) (lines (unnumbered d c.args.index.now c.requires.index)) (c.in_ok-form.ensures ∙ c.in_ok-push_parts.ensures) in
    (sorted_document edition d, sorted_is_tidy_form edition d c.document_siblings.ensures.document c.requires.checked, told)

pub returns-clause-only : goal.returns-clause-only
returns-clause-only g c = λ e form.
    let d = g.F.Forest.trees c.args.forest.now in
    let edition = c.args.edition in
    let xs = c.as_slice-records.result.now in
    let listed = ap (sibling_trees each_used edition File d) c.as_slice-records.ensures.value ∙ c.in_ok-siblings.ensures.trees each_used edition in
    let lines = c.in_ok-write_kept_records.ensures in
    let told = file_spelled each_used edition [] d (sorted_document edition d) xs (written c.text-file.result.now c.new-work.result.answer) (written c.text-file.result.now c.write_kept_records.new.work.answer) c.in_ok-form.form (kept_document edition d xs listed) (ap (written c.text-file.result.now) c.new-work.ensures ∙ c.in_ok-answer.ensures c.text-file.result.now) (lines (unnumbered d c.args.index.now c.requires.index)) (c.in_ok-form.ensures ∙ c.in_ok-push_parts.ensures) in
    only_tidy edition d e c.in_ok-form.form told form
