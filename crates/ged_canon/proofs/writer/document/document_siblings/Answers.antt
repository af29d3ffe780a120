use Rattle.std.proofs.Common.{List, [], ◌∷◌, ◌++◌, length, drop, sym, ap, ◌∙◌, subst, arith}
use Rattle.std.specs.List.{AllByRecursion}
use Rattle.ged_link.specs.Links.{identifiers}
use Rattle.ged_schema.specs.declared.context.Context.TheVariants.{File}
use Rattle.ged_canon.specs.declared.writer.rank.RankedSibling.{RankedSibling}
use Rattle.ged_canon.specs.inner.Siblings.{StandsRanked, sibling_trees}
use Rattle.ged_canon.proofs.writer.Records.{document_listed, records_listed}
use Rattle.ged_canon.proofs.writer.SortedTail.{headed}
use Rattle.ged_canon.proofs.writer.document.document_siblings.Goals as goal

pub returns-clause-within : goal.returns-clause-within
returns-clause-within g c =
    let d = g.F.Forest.trees c.args.forest.now in
    let head = c.ranked_sibling.result in
    subst (λ (xs : List RankedSibling). AllByRecursion (StandsRanked d) xs)
    (sym (headed c.push.new.self.items c.push_sorted.new.siblings.items head (c.in_ok-push.ensures.items ∙ ap (λ (xs : List RankedSibling). xs ++ head ∷ []) c.in_ok-made.ensures.items) c.in_ok-push_sorted.ensures.kept))
    (c.ranked_sibling.ensures.stands, c.in_ok-push_sorted.ensures.within)

pub returns-clause-count : goal.returns-clause-count
returns-clause-count g c =
    let d = g.F.Forest.trees c.args.forest.now in
    let head = c.ranked_sibling.result in
    let long = ap (λ (xs : List RankedSibling). length xs) (headed c.push.new.self.items c.push_sorted.new.siblings.items head (c.in_ok-push.ensures.items ∙ ap (λ (xs : List RankedSibling). xs ++ head ∷ []) c.in_ok-made.ensures.items) c.in_ok-push_sorted.ensures.kept) in
    let same = ap (λ t. length (identifiers t)) (records_listed d c.end_of_all-end.result c.in-Some.records c.end_of_all-end.ensures.all c.in-Some.ensures) in
    omega (arith, long, c.in_ok-push_sorted.ensures.count, same)

pub returns-clause-trees : goal.returns-clause-trees
returns-clause-trees g c = λ used edition.
    let d = g.F.Forest.trees c.args.forest.now in
    let head = c.ranked_sibling.result in
    let behind = drop (length c.push.new.self.items) c.push_sorted.new.siblings.items in
    ap (sibling_trees used edition File d) (headed c.push.new.self.items c.push_sorted.new.siblings.items head (c.in_ok-push.ensures.items ∙ ap (λ (xs : List RankedSibling). xs ++ head ∷ []) c.in_ok-made.ensures.items) c.in_ok-push_sorted.ensures.kept)
    ∙ document_listed used edition d c.end_of_all-end.result c.in-Some.records head behind c.end_of_all-end.ensures.all c.end_of_all-end.ensures.run c.in-Some.ensures c.ranked_sibling.ensures.place
    (c.in_ok-push_sorted.ensures.trees used edition File)
