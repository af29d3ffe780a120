use Rattle.std.proofs.Common.{ℕ, List, length, sym, ap, ◌∙◌, subst, arith}
use Rattle.std.specs.List.{AllByRecursion}
use Rattle.ged_schema.specs.declared.context.Context.TheVariants.{File}
use Rattle.ged_canon.specs.declared.writer.rank.RankedSibling.{RankedSibling}
use Rattle.ged_canon.specs.inner.Working.{is_named, used_document, sorted_document, canon, AreNumbersOf, IsNumberingOf}
use Rattle.ged_canon.specs.inner.Siblings.{StandsRanked, sibling_trees, sibling_names}
use Rattle.ged_canon.specs.inner.Written.{written}
use Rattle.ged_canon.proofs.theory.Normality.{canon_is_normal_form}
use Rattle.ged_canon.proofs.writer.Parts.{sorted_known, sorted_distinct}
use Rattle.ged_canon.proofs.writer.Records.{names_listed, sorted_named, sorted_is_document, siblings_stand, numbered_document_of, file_spelled, only_form}
use Rattle.ged_canon.proofs.writer.document.spell_canonical_in.Goals as goal

pub numbers_in_order-requires-clause-within : goal.numbers_in_order-requires-clause-within
numbers_in_order-requires-clause-within g c =
    let d = g.F.Forest.trees c.args.forest.now in
    subst (λ (xs : List RankedSibling). AllByRecursion (StandsRanked d) xs) (sym c.as_slice-records.ensures.value) c.in_ok-siblings.ensures.within

pub numbers_in_order-requires-clause-count : goal.numbers_in_order-requires-clause-count
numbers_in_order-requires-clause-count g c = omega (arith, ap (λ (xs : List RankedSibling). length xs) c.as_slice-records.ensures.value, c.in_ok-siblings.ensures.count)

pub numbers_in_order-requires-clause-known : goal.numbers_in_order-requires-clause-known
numbers_in_order-requires-clause-known g c =
    let d = g.F.Forest.trees c.args.forest.now in
    let edition = c.args.edition in
    let xs = c.as_slice-records.result.now in
    let listed = ap (sibling_trees (is_named d) edition File d) c.as_slice-records.ensures.value ∙ c.in_ok-siblings.ensures.trees (is_named d) edition in
    sorted_known edition d (sibling_names d xs) c.document_siblings.ensures.document (names_listed edition d xs listed)

pub numbers_in_order-requires-clause-distinct : goal.numbers_in_order-requires-clause-distinct
numbers_in_order-requires-clause-distinct g c =
    let d = g.F.Forest.trees c.args.forest.now in
    let edition = c.args.edition in
    let xs = c.as_slice-records.result.now in
    let listed = ap (sibling_trees (is_named d) edition File d) c.as_slice-records.ensures.value ∙ c.in_ok-siblings.ensures.trees (is_named d) edition in
    sorted_distinct edition d (sibling_names d xs) c.requires.index.resolved (names_listed edition d xs listed)

pub write_records-requires : goal.write_records-requires
write_records-requires g c =
    let d = g.F.Forest.trees c.args.forest.now in
    let edition = c.args.edition in
    let xs = c.as_slice-records.result.now in
    let listed = ap (sibling_trees (is_named d) edition File d) c.as_slice-records.ensures.value ∙ c.in_ok-siblings.ensures.trees (is_named d) edition in
    record {
      document = c.document_siblings.ensures.document;
      within = subst (λ (xs : List RankedSibling). AllByRecursion (StandsRanked d) xs) (sym c.as_slice-records.ensures.value) c.in_ok-siblings.ensures.within;
      stand = siblings_stand (is_named d) edition d (sorted_document edition (used_document d)) xs (sorted_is_document edition d c.document_siblings.ensures.document c.requires.index.resolved c.requires.checked) listed;
    }

pub returns-clause-normal_form : goal.returns-clause-normal_form
returns-clause-normal_form g c =
    let d = g.F.Forest.trees c.args.forest.now in
    let edition = c.args.edition in
    let xs = c.as_slice-records.result.now in
    let names = sibling_names d xs in
    let listed = ap (sibling_trees (is_named d) edition File d) c.as_slice-records.ensures.value ∙ c.in_ok-siblings.ensures.trees (is_named d) edition in
    let numbering : IsNumberingOf d names c.args.index.now c.as_slice-numbers.result.now =
    (c.requires.index, subst (λ (ns : List ℕ). AreNumbersOf d names ns) (sym c.as_slice-numbers.ensures.value) c.in_ok-counted.ensures) in
    let named = sorted_named edition d names c.requires.index.resolved (names_listed edition d xs listed) in
    let lines = c.in_ok-write_records.ensures in
    let told = file_spelled (is_named d) edition names d (canon edition d) xs (written c.text-file.result.now c.new-work.result.answer) (written c.text-file.result.now c.write_records.new.work.answer) c.in_ok-form.form (numbered_document_of edition d xs listed) (ap (written c.text-file.result.now) c.new-work.ensures ∙ c.in_ok-answer.ensures c.text-file.result.now) (lines names numbering named) (c.in_ok-form.ensures ∙ c.in_ok-push_parts.ensures) in
    (canon edition d, canon_is_normal_form edition d c.document_siblings.ensures.document c.requires.index.resolved c.requires.checked, told)

pub returns-clause-only : goal.returns-clause-only
returns-clause-only g c = λ e form.
    let d = g.F.Forest.trees c.args.forest.now in
    let edition = c.args.edition in
    let xs = c.as_slice-records.result.now in
    let names = sibling_names d xs in
    let listed = ap (sibling_trees (is_named d) edition File d) c.as_slice-records.ensures.value ∙ c.in_ok-siblings.ensures.trees (is_named d) edition in
    let numbering : IsNumberingOf d names c.args.index.now c.as_slice-numbers.result.now =
    (c.requires.index, subst (λ (ns : List ℕ). AreNumbersOf d names ns) (sym c.as_slice-numbers.ensures.value) c.in_ok-counted.ensures) in
    let named = sorted_named edition d names c.requires.index.resolved (names_listed edition d xs listed) in
    let lines = c.in_ok-write_records.ensures in
    let told = file_spelled (is_named d) edition names d (canon edition d) xs (written c.text-file.result.now c.new-work.result.answer) (written c.text-file.result.now c.write_records.new.work.answer) c.in_ok-form.form (numbered_document_of edition d xs listed) (ap (written c.text-file.result.now) c.new-work.ensures ∙ c.in_ok-answer.ensures c.text-file.result.now) (lines names numbering named) (c.in_ok-form.ensures ∙ c.in_ok-push_parts.ensures) in
    only_form edition d e c.in_ok-form.form told form
