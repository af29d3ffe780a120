use Rattle.std.proofs.Common.{◌≡◌, List, length, sym, ap, ◌∙◌, subst}
use Rattle.std.specs.List.Sorted.{IsPermutation}
use Rattle.std.proofs.lemmas.List.Sorted.{length_permutation}
use Rattle.ged_canon.specs.declared.writer.rank.RankedSibling.{RankedSibling}
use Rattle.ged_canon.specs.inner.Siblings.{AreGrouped, own_tag, rank_key}
use Rattle.ged_canon.specs.inner.Gathered.{members, joined}
use Rattle.ged_canon.proofs.writer.StableSort.{put_all}
use Rattle.ged_canon.proofs.writer.SortKeys.{all_permutes, put_grouped, ranked_is}
use Rattle.ged_canon.proofs.writer.RankGroups.{gathered_is, all_told}
use Rattle.ged_canon.proofs.writer.gathered.place_siblings.Goals as goal

pub write_groups-requires : goal.write_groups-requires
write_groups-requires c =
    let xs = c.args.siblings.now in
    let full = c.if-not-branch.false in
    let f = c.in_ok-fill_groups.ensures in
    let is : joined (members c.fill_groups.new.groups) ≡ put_all rank_key xs = ap joined (f.filled full) ∙ gathered_is c.args.ranks.now xs c.requires.rising (f.among full) in
    ap (λ (l : List RankedSibling). length l) is ∙ length_permutation xs (put_all rank_key xs) (all_permutes rank_key xs)

pub returns-clause-permutation : goal.returns-clause-permutation
returns-clause-permutation c =
    let xs = c.args.siblings.now in
    let full = c.if-not-branch.false in
    let f = c.in_ok-fill_groups.ensures in
    let is : c.write_groups.new.siblings ≡ put_all rank_key xs = c.write_groups.ensures ∙ ap joined (f.filled full) ∙ gathered_is c.args.ranks.now xs c.requires.rising (f.among full) in
    subst (λ (l : List RankedSibling). IsPermutation xs l) (sym is) (all_permutes rank_key xs)

pub returns-clause-trees : goal.returns-clause-trees
returns-clause-trees c = λ d stand all.
    let xs = c.args.siblings.now in
    let full = c.if-not-branch.false in
    let f = c.in_ok-fill_groups.ensures in
    let is : c.write_groups.new.siblings ≡ put_all (own_tag d) xs = c.write_groups.ensures ∙ ap joined (f.filled full) ∙ gathered_is c.args.ranks.now xs c.requires.rising (f.among full) ∙ ranked_is d xs stand (all_told c.args.ranks.now xs c.requires.rising (f.among full)) in
    subst (λ (l : List RankedSibling). AreGrouped d xs l) (sym is) (put_grouped d xs)
