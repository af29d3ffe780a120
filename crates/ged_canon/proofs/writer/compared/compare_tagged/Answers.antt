use Rattle.std.proofs.Common.{rules, ◌≡◌, List, length, sym, ap, ◌∙◌, subst, arith}
use Rattle.std.specs.Ordering.{is_lt}
use Rattle.std.specs.List.Sorted.{IsPermutation}
use Rattle.std.proofs.lemmas.List.Sorted.{ranks_by, answers_always, length_permutation}
use Rattle.ged_line.specs.Names.{tag_order}
use Rattle.ged_canon.specs.declared.writer.rank.RankedSibling.{RankedSibling}
use Rattle.ged_canon.specs.declared.writer.rank.TaggedSibling.{TaggedSibling}
use Rattle.ged_canon.specs.inner.Siblings.{AreGrouped, own_tag, untagged}
use Rattle.ged_canon.proofs.theory.Sorting.{tags_total}
use Rattle.ged_canon.proofs.writer.StableSort.{a_stable_sort, put_all}
use Rattle.ged_canon.proofs.writer.SortKeys.{all_permutes, length_untagged, put_grouped, tagged_is}
use Rattle.ged_canon.proofs.writer.compared.compare_tagged.Given.{Over}
use Rattle.ged_canon.proofs.writer.compared.compare_tagged.Goals as goal

pub write_back-requires : goal.write_back-requires
write_back-requires g c =
    let xs = c.in_ok-tagged.tagged.items in
    let ys = c.sort_by.new.self.items in
    let moved = length_permutation xs ys c.in_ok-sort_by.ensures.permutation in
    let all = ap (λ (l : List RankedSibling). length l) c.in_ok-tagged.ensures.siblings in
    omega (arith, moved, all, length_untagged xs, ap (λ (l : List TaggedSibling). length l) c.deref.ensures.value)

-- they are put in the order of their own tags
is_put : (g : Over) (c : goal.After-drop-tagged-2 g) → c.write_back.new.siblings ≡ put_all (own_tag (g.F.Forest.trees c.args.forest.now)) c.args.siblings.now
is_put g c =
    let d = g.F.Forest.trees c.args.forest.now in
    let xs = c.in_ok-tagged.tagged.items in
    let ys = c.sort_by.new.self.items in
    let tag = λ (x : TaggedSibling). x.tag.now in
    let before = λ (x y : TaggedSibling). is_lt (tag_order (tag x) (tag y)) in
    let answers = answers_always _ _ _ (λ f a r f' q. search rules) in
    let stable = c.in_ok-sort_by.ensures.stable before (ranks_by tags_total tag) answers in
    let sorted = c.in_ok-sort_by.ensures.sorted before (ranks_by tags_total tag) answers in
    c.write_back.ensures
    ∙ ap untagged (c.deref.ensures.value ∙ a_stable_sort tag xs ys sorted stable)
    ∙ tagged_is d xs c.in_ok-tagged.ensures.tags
    ∙ ap (put_all (own_tag d)) c.in_ok-tagged.ensures.siblings

pub returns-clause-permutation : goal.returns-clause-permutation
returns-clause-permutation g c =
    let xs = c.args.siblings.now in
    subst (λ (l : List RankedSibling). IsPermutation xs l) (sym (is_put g c)) (all_permutes (own_tag (g.F.Forest.trees c.args.forest.now)) xs)

pub returns-clause-trees : goal.returns-clause-trees
returns-clause-trees g c =
    let d = g.F.Forest.trees c.args.forest.now in
    let xs = c.args.siblings.now in
    subst (λ (l : List RankedSibling). AreGrouped d xs l) (sym (is_put g c)) (put_grouped d xs)
