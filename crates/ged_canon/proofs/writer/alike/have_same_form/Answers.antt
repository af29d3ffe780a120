use Rattle.std.proofs.Common.{ℕ, List, sym, ap, ◌∙◌, subst}
use Rattle.std.specs.List.{AllByRecursion}
use Rattle.std.proofs.lemmas.Bool.{false≢true}
use Rattle.std.proofs.lemmas.Result.{IfOk-weaker}
use Rattle.ged_schema.specs.declared.context.Context.TheVariants.{File}
use Rattle.ged_canon.specs.declared.writer.rank.RankedSibling.{RankedSibling}
use Rattle.ged_canon.specs.inner.Working.{is_named, used_document, sorted_document, AreNumbersOf, IsNumberingOf}
use Rattle.ged_canon.specs.inner.Siblings.{StandsRanked, sibling_trees, sibling_names}
use Rattle.ged_canon.proofs.writer.AlikeDocuments.{IsListed, same_siblings, same_lines}
use Rattle.ged_canon.proofs.writer.AlikeRecords.{same_count}
use Rattle.ged_canon.proofs.writer.Parts.{sorted_known, sorted_distinct}
use Rattle.ged_canon.proofs.writer.Records.{names_listed, sorted_named, sorted_is_document, siblings_stand}
use Rattle.ged_canon.proofs.writer.alike.have_same_form.Goals as goal

pub returns-then-siblings-others : goal.returns-then-siblings-others
returns-then-siblings-others g c =
    let d = g.F.Forest.trees c.args.first.now.forest.now in
    let e = g.G.Forest.trees c.args.second.now.forest.now in
    let edition = c.args.edition in
    let xs = c.as_slice-siblings.result.now in
    let ys = c.as_slice-others.result.now in
    let listed = ap (sibling_trees (is_named d) edition File d) c.as_slice-siblings.ensures.value ∙ c.in_ok-siblings.ensures.trees (is_named d) edition in
    let other_listed = ap (sibling_trees (is_named e) edition File e) c.as_slice-others.ensures.value ∙ c.in_ok-others.ensures.trees (is_named e) edition in
    let own : IsListed edition d xs = record { document = c.document_siblings.ensures.document; resolved = c.requires.first_index.resolved; checked = c.requires.first_checked; listed = listed } in
    let other : IsListed edition e ys = record { document = c.document_siblings-2.ensures.document; resolved = c.requires.second_index.resolved; checked = c.requires.second_checked; listed = other_listed } in (
      (λ same. absurd (false≢true same)),
      (λ steps.
          let equal = same_count (is_named d) (is_named e) edition edition (sibling_names d xs) (sibling_names e ys) d e xs ys (same_siblings edition d e xs ys own other steps) in
          absurd (c.if-siblings-others.true equal)),
    )

pub numbers_in_order-requires-clause-known : goal.numbers_in_order-requires-clause-known
numbers_in_order-requires-clause-known g c =
    let d = g.F.Forest.trees c.args.first.now.forest.now in
    let edition = c.args.edition in
    let xs = c.as_slice-siblings.result.now in
    let listed = ap (sibling_trees (is_named d) edition File d) c.as_slice-siblings.ensures.value ∙ c.in_ok-siblings.ensures.trees (is_named d) edition in
    sorted_known edition d (sibling_names d xs) c.document_siblings.ensures.document (names_listed edition d xs listed)

pub numbers_in_order-requires-clause-distinct : goal.numbers_in_order-requires-clause-distinct
numbers_in_order-requires-clause-distinct g c =
    let d = g.F.Forest.trees c.args.first.now.forest.now in
    let edition = c.args.edition in
    let xs = c.as_slice-siblings.result.now in
    let listed = ap (sibling_trees (is_named d) edition File d) c.as_slice-siblings.ensures.value ∙ c.in_ok-siblings.ensures.trees (is_named d) edition in
    sorted_distinct edition d (sibling_names d xs) c.requires.first_index.resolved (names_listed edition d xs listed)

pub numbers_in_order-requires-2-clause-known : goal.numbers_in_order-requires-2-clause-known
numbers_in_order-requires-2-clause-known g c =
    let e = g.G.Forest.trees c.args.second.now.forest.now in
    let edition = c.args.edition in
    let ys = c.as_slice-others.result.now in
    let listed = ap (sibling_trees (is_named e) edition File e) c.as_slice-others.ensures.value ∙ c.in_ok-others.ensures.trees (is_named e) edition in
    sorted_known edition e (sibling_names e ys) c.document_siblings-2.ensures.document (names_listed edition e ys listed)

pub numbers_in_order-requires-2-clause-distinct : goal.numbers_in_order-requires-2-clause-distinct
numbers_in_order-requires-2-clause-distinct g c =
    let e = g.G.Forest.trees c.args.second.now.forest.now in
    let edition = c.args.edition in
    let ys = c.as_slice-others.result.now in
    let listed = ap (sibling_trees (is_named e) edition File e) c.as_slice-others.ensures.value ∙ c.in_ok-others.ensures.trees (is_named e) edition in
    sorted_distinct edition e (sibling_names e ys) c.requires.second_index.resolved (names_listed edition e ys listed)

pub are_alike-requires-clause-first : goal.are_alike-requires-clause-first
are_alike-requires-clause-first g c =
    let d = g.F.Forest.trees c.args.first.now.forest.now in
    let edition = c.args.edition in
    let xs = c.as_slice-siblings.result.now in
    let listed = ap (sibling_trees (is_named d) edition File d) c.as_slice-siblings.ensures.value ∙ c.in_ok-siblings.ensures.trees (is_named d) edition in
    record {
      document = c.document_siblings.ensures.document;
      within = subst (λ (zs : List RankedSibling). AllByRecursion (StandsRanked d) zs) (sym c.as_slice-siblings.ensures.value) c.in_ok-siblings.ensures.within;
      stand = siblings_stand (is_named d) edition d (sorted_document edition (used_document d)) xs (sorted_is_document edition d c.document_siblings.ensures.document c.requires.first_index.resolved c.requires.first_checked) listed;
    }

pub are_alike-requires-clause-second : goal.are_alike-requires-clause-second
are_alike-requires-clause-second g c =
    let e = g.G.Forest.trees c.args.second.now.forest.now in
    let edition = c.args.edition in
    let ys = c.as_slice-others.result.now in
    let listed = ap (sibling_trees (is_named e) edition File e) c.as_slice-others.ensures.value ∙ c.in_ok-others.ensures.trees (is_named e) edition in
    record {
      document = c.document_siblings-2.ensures.document;
      within = subst (λ (zs : List RankedSibling). AllByRecursion (StandsRanked e) zs) (sym c.as_slice-others.ensures.value) c.in_ok-others.ensures.within;
      stand = siblings_stand (is_named e) edition e (sorted_document edition (used_document e)) ys (sorted_is_document edition e c.document_siblings-2.ensures.document c.requires.second_index.resolved c.requires.second_checked) listed;
    }

pub returns : goal.returns
returns g c =
    let d = g.F.Forest.trees c.args.first.now.forest.now in
    let e = g.G.Forest.trees c.args.second.now.forest.now in
    let edition = c.args.edition in
    let xs = c.as_slice-siblings.result.now in
    let ys = c.as_slice-others.result.now in
    let names = sibling_names d xs in
    let other_names = sibling_names e ys in
    let listed = ap (sibling_trees (is_named d) edition File d) c.as_slice-siblings.ensures.value ∙ c.in_ok-siblings.ensures.trees (is_named d) edition in
    let other_listed = ap (sibling_trees (is_named e) edition File e) c.as_slice-others.ensures.value ∙ c.in_ok-others.ensures.trees (is_named e) edition in
    let own : IsListed edition d xs = record { document = c.document_siblings.ensures.document; resolved = c.requires.first_index.resolved; checked = c.requires.first_checked; listed = listed } in
    let other : IsListed edition e ys = record { document = c.document_siblings-2.ensures.document; resolved = c.requires.second_index.resolved; checked = c.requires.second_checked; listed = other_listed } in
    let numbering : IsNumberingOf d names c.args.first.now.index.now c.as_slice.result.now =
    (c.requires.first_index, subst (λ (ns : List ℕ). AreNumbersOf d names ns) (sym c.as_slice.ensures.value) c.in_ok-numbers.ensures) in
    let other_numbering : IsNumberingOf e other_names c.args.second.now.index.now c.as_slice-2.result.now =
    (c.requires.second_index, subst (λ (ns : List ℕ). AreNumbersOf e other_names ns) (sym c.as_slice-2.ensures.value) c.in_ok-other_numbers.ensures) in
    let named = sorted_named edition d names own.resolved (names_listed edition d xs listed) in
    let other_named = sorted_named edition e other_names other.resolved (names_listed edition e ys other_listed) in
    IfOk-weaker c.are_alike.result _ _
    (λ same tells.
    let (lines, equal) = tells names other_names numbering named other_numbering other_named in (
      (λ told. same_lines edition d e xs ys own other (lines told)),
      (λ steps. equal (same_siblings edition d e xs ys own other steps)),
    ))
    c.are_alike.ensures
