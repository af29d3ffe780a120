use Rattle.std.proofs.Common.{ℕ, ◌≡◌, ◌≤◌, ◌-◌, List, Result, Ok, Err, OnOk, length, take, drop, sym, ap, ◌∙◌, subst, arith, length-drop}
use Rattle.std.specs.List.{AllByRecursion}
use Rattle.std.specs.List.Sorted.{IsPermutation}
use Rattle.std.proofs.lemmas.List.{take_all}
use Rattle.std.proofs.lemmas.List.Sorted.{length_permutation}
use Rattle.std.proofs.lemmas.Result.{on_ok_weaker}
use Rattle.ged_tree.specs.Runs.{trees_between}
use Rattle.ged_canon.specs.declared.writer.rank.RankedSibling.{RankedSibling}
use Rattle.ged_canon.specs.inner.Working.{grouped, sorted, used_trees}
use Rattle.ged_canon.specs.inner.Siblings.{StandsRanked, IsTold, sibling_trees}
use Rattle.ged_canon.proofs.writer.StableSort.{grouped_is_sorted}
use Rattle.ged_canon.proofs.writer.SiblingTrees.{all_permuted}
use Rattle.ged_canon.proofs.writer.SortedTail.{kept_long, written_tail}
use Rattle.ged_canon.proofs.writer.siblings.push_sorted.Goals as goal

either_way : {A E P : Type 0} (r : Result A E) → P → OnOk r P
either_way (Ok a) p = p
either_way (Err e) p = tt

-- what a vector has from where the pushed siblings begin is these
part_behind : (old pushed all : List RankedSibling) (base : ℕ) → base ≡ length old → all ≡ pushed
    → take (length all - base) (drop base all) ≡ drop (length old) pushed
part_behind old pushed all base from whole =
    take_all (length all - base) (drop base all) (omega (arith, length-drop base all)) ∙ (λ i. drop (from i) (whole i))

pub sort_siblings-requires-clause-stand : goal.sort_siblings-requires-clause-stand
sort_siblings-requires-clause-stand g c =
    let d = g.F.Forest.trees c.args.forest.now in
    let old = c.args.siblings.now.items in
    let pushed = c.push_siblings.new.siblings.items in
    let all = c.deref_mut.result.now in
    let base = c.len-base.result in
    let from : base ≡ length old = omega arith in
    let whole : all ≡ pushed = c.deref_mut.ensures.value in
    let part = part_behind old pushed all base from whole in
    subst (λ (xs : List RankedSibling). AllByRecursion (StandsRanked d) xs) (sym part) c.in_ok-are_told.ensures.within

pub sort_siblings-requires-clause-told : goal.sort_siblings-requires-clause-told
sort_siblings-requires-clause-told g c = λ told.
    let old = c.args.siblings.now.items in
    let pushed = c.push_siblings.new.siblings.items in
    let all = c.deref_mut.result.now in
    let base = c.len-base.result in
    let from : base ≡ length old = omega arith in
    let whole : all ≡ pushed = c.deref_mut.ensures.value in
    let part = part_behind old pushed all base from whole in
    subst (λ (xs : List RankedSibling). AllByRecursion IsTold xs) (sym part) (c.in_ok-are_told.ensures.told told)

pub returns-clause-within : goal.returns-clause-within
returns-clause-within g c =
    let d = g.F.Forest.trees c.args.forest.now in
    let old = c.args.siblings.now.items in
    let pushed = c.push_siblings.new.siblings.items in
    let all = c.deref_mut.result.now in
    let ys = c.sort_siblings.new.siblings in
    let base = c.len-base.result in
    let from : base ≡ length old = omega arith in
    let whole : all ≡ pushed = c.deref_mut.ensures.value in
    let long : length old ≤ length pushed = kept_long old pushed c.in_ok-are_told.ensures.kept in
    let count : length all ≡ length pushed = ap (λ (xs : List RankedSibling). length xs) whole in
    let room : base ≤ length all = omega arith in
    let part = part_behind old pushed all base from whole in
    let moved : IsPermutation (drop (length old) pushed) ys = subst (λ (xs : List RankedSibling). IsPermutation xs ys) part c.sort_siblings.ensures.permutation in
    let same : length ys ≡ length all - base = omega (arith, length_permutation (drop (length old) pushed) ys moved, length-drop (length old) pushed) in
    let tail = written_tail base c.push_siblings.new.siblings.len (length old) all ys pushed room (omega arith) (omega arith) same (sym from) in
    subst (λ (xs : List RankedSibling). OnOk c.sort_siblings.result (AllByRecursion (StandsRanked d) xs)) (sym tail)
    (either_way c.sort_siblings.result (all_permuted (StandsRanked d) (drop (length old) pushed) ys moved c.in_ok-are_told.ensures.within))

pub returns-clause-trees : goal.returns-clause-trees
returns-clause-trees g c = λ used edition context.
    let d = g.F.Forest.trees c.args.forest.now in
    let old = c.args.siblings.now.items in
    let pushed = c.push_siblings.new.siblings.items in
    let all = c.deref_mut.result.now in
    let ys = c.sort_siblings.new.siblings in
    let base = c.len-base.result in
    let from : base ≡ length old = omega arith in
    let whole : all ≡ pushed = c.deref_mut.ensures.value in
    let long : length old ≤ length pushed = kept_long old pushed c.in_ok-are_told.ensures.kept in
    let count : length all ≡ length pushed = ap (λ (xs : List RankedSibling). length xs) whole in
    let room : base ≤ length all = omega arith in
    let part = part_behind old pushed all base from whole in
    let moved : IsPermutation (drop (length old) pushed) ys = subst (λ (xs : List RankedSibling). IsPermutation xs ys) part c.sort_siblings.ensures.permutation in
    let same : length ys ≡ length all - base = omega (arith, length_permutation (drop (length old) pushed) ys moved, length-drop (length old) pushed) in
    let tail = written_tail base c.push_siblings.new.siblings.len (length old) all ys pushed room (omega arith) (omega arith) same (sym from) in
    subst (λ (xs : List RankedSibling). OnOk c.sort_siblings.result (sibling_trees used edition context d xs ≡ sorted edition context (used_trees used (trees_between d c.args.start c.args.end)))) (sym tail)
    (on_ok_weaker c.sort_siblings.result
    (λ put. put used edition context
    ∙ ap (λ (xs : List RankedSibling). grouped (sibling_trees used edition context d xs)) part
    ∙ ap grouped (c.in_ok-are_told.ensures.trees used edition context)
    ∙ grouped_is_sorted edition context (used_trees used (trees_between d c.args.start c.args.end)))
    c.sort_siblings.ensures.trees)
