use Rattle.std.proofs.Common.{◌≡◌, ◌+◌, ◌-◌, ◌*◌, true, length, take, drop}
use Rattle.std.specs.List.{AllByRecursion}
use Rattle.ged_tree.specs.Runs.{IsRunOfTrees, trees_between}
use Rattle.ged_schema.specs.declared.context.Context.TheVariants.{File}
use Rattle.ged_canon.specs.declared.edition.Edition.TheVariants.{First}
use Rattle.ged_canon.specs.inner.Siblings.{StandsRanked, sibling_trees}
use Rattle.ged_canon.specs.inner.Paired.{Bare, BecomeSame, ByNames}
use Rattle.ged_canon.proofs.writer.AlikeTrees.{ListedSame}
use Rattle.ged_canon.proofs.writer.alike_runs.+pairs.Given as goal

-- each call below a structure is one level deeper, down to level 100
abbrev pub decreases-are_trees_alike : goal.decreases-are_trees_alike
decreases-are_trees_alike g l = 3 * (101 - l.level)

abbrev pub decreases-are_sorted_alike : goal.decreases-are_sorted_alike
decreases-are_sorted_alike g l = 3 * (101 - l.level) + 1

abbrev pub decreases-are_runs_alike : goal.decreases-are_runs_alike
decreases-are_runs_alike g l = 3 * (101 - l.level) + 2

-- the runs become the same where what is left of them does
abbrev pub invariant-are_runs_alike-loop-after : goal.invariant-are_runs_alike-loop-after
invariant-are_runs_alike-loop-after g l =
    let d = g.F.Forest.trees l.first.forest.now in
    let e = g.G.Forest.trees l.second.forest.now in
    let left = trees_between d l.place l.run.end in
    let others = trees_between e l.other_place l.other.end in
    record {
      run : IsRunOfTrees d l.place l.run.end;
      other : IsRunOfTrees e l.other_place l.other.end;
      bare : Bare left;
      other_bare : Bare others;
      kept : l.work.siblings.items ≡ l.fn.work.siblings.items;
      others_kept : l.work.others.items ≡ l.fn.work.others.items;
      told : ByNames d l.first.plan e l.second.plan (λ new new_other. BecomeSame new new_other left others
          → BecomeSame new new_other (trees_between d l.run.start l.run.end) (trees_between e l.other.start l.other.end));
    }

abbrev pub decreases-are_runs_alike-loop-after : goal.decreases-are_runs_alike-loop-after
decreases-are_runs_alike-loop-after g l = l.run.end - l.place

-- so do they where the siblings that are left do
abbrev pub invariant-are_sorted_alike-loop-number : goal.invariant-are_sorted_alike-loop-number
invariant-are_sorted_alike-loop-number g l =
    let d = g.F.Forest.trees l.first.forest.now in
    let e = g.G.Forest.trees l.second.forest.now in
    let left = drop (l.base + l.number) l.work.siblings.items in
    let others = drop (l.other_base + l.number) l.work.others.items in
    record {
      kept : take l.base l.work.siblings.items ≡ l.fn.work.siblings.items;
      others_kept : take l.other_base l.work.others.items ≡ l.fn.work.others.items;
      count : l.base + l.count ≡ length l.work.siblings.items;
      other_count : l.other_base + l.count ≡ length l.work.others.items;
      within : AllByRecursion (StandsRanked d) left;
      others_within : AllByRecursion (StandsRanked e) others;
      bare : Bare (sibling_trees (λ name. true) First File d left);
      others_bare : Bare (sibling_trees (λ name. true) First File e others);
      told : ByNames d l.first.plan e l.second.plan (λ new new_other. ListedSame new new_other d e left others
          → BecomeSame new new_other (trees_between d l.fn.run.start l.fn.run.end) (trees_between e l.fn.other.start l.fn.other.end));
    }

abbrev pub decreases-are_sorted_alike-loop-number : goal.decreases-are_sorted_alike-loop-number
decreases-are_sorted_alike-loop-number g l = l.count - l.number
