use Rattle.std.proofs.Common.{rules, List, sym, ◌∙◌, subst}
use Rattle.std.specs.Ordering.{is_lt}
use Rattle.std.proofs.lemmas.List.Sorted.{ranks_by}
use Rattle.std.proofs.lemmas.Fn.{always_returns_same}
use Rattle.std.proofs.lemmas.Result.{on_ok_weaker}
use Rattle.ged_line.specs.Names.{tag_order}
use Rattle.ged_canon.specs.declared.writer.rank.RankedSibling.{RankedSibling}
use Rattle.ged_canon.specs.inner.Siblings.{AreGrouped, sibling_key}
use Rattle.ged_canon.proofs.theory.Sorting.{tags_total}
use Rattle.ged_canon.proofs.writer.StableSort.{a_stable_sort}
use Rattle.ged_canon.proofs.writer.SortKeys.{keyed_is, put_grouped}
use Rattle.ged_canon.proofs.writer.compared.compare_any.Goals as goal

pub returns-clause-trees : goal.returns-clause-trees
returns-clause-trees g c =
    let d = g.F.Forest.trees c.args.forest.now in
    let xs = c.args.siblings.now in
    let key = sibling_key d in
    let before = λ (x y : RankedSibling). is_lt (tag_order (key x) (key y)) in
    let computes = always_returns_same _ _ _ (λ a r f' q. search rules) in
    let stable = c.sort_by.ensures.stable before (ranks_by tags_total key) computes in
    on_ok_weaker c.sort_by.result
    (λ sorts. subst (λ (l : List RankedSibling). AreGrouped d xs l)
    (sym (a_stable_sort key xs c.sort_by.new.self (sorts before (ranks_by tags_total key) computes) stable ∙ keyed_is d xs c.requires))
    (put_grouped d xs))
    c.sort_by.ensures.sorted
