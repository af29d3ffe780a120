use Rattle.std.proofs.Common.{◌≡◌, ◌+◌, ◌-◌, ◌≤◌, Bool, IsTrue, List, ◌++◌, length, take, drop}
use Rattle.std.specs.List.{AllByRecursion}
use Rattle.ged_line.specs.Bytes.{Bytes}
use Rattle.ged_tree.specs.Runs.{IsRunOfTrees, trees_between}
use Rattle.ged_link.specs.Links.{identifiers}
use Rattle.ged_schema.specs.declared.context.Context.{Context}
use Rattle.ged_canon.specs.declared.edition.Edition.{Edition}
use Rattle.ged_canon.specs.declared.writer.rank.RankedSibling.{RankedSibling}
use Rattle.ged_canon.specs.inner.Working.{used_trees, each_sorted}
use Rattle.ged_canon.specs.inner.Siblings.{StandsRanked, IsTold, sibling_trees}
use Rattle.ged_canon.proofs.writer.siblings.push_siblings.Given as goal

-- siblings that stand for what is left of the run, behind those so far, stand for the whole run
abbrev pub invariant-loop-after : goal.invariant-loop-after
invariant-loop-after g l =
    let trees = g.F.Forest.trees l.forest in
    let made = drop (length l.fn.siblings.items) l.siblings.items in
    record {
      run : IsRunOfTrees trees l.place l.end;
      kept : take (length l.fn.siblings.items) l.siblings.items ≡ l.fn.siblings.items;
      long : length l.fn.siblings.items ≤ length l.siblings.items;
      within : AllByRecursion (StandsRanked trees) made;
      told : IsTrue l.are_told → AllByRecursion IsTold made;
      counted : length made + length (identifiers (trees_between trees l.place l.end)) ≡ length (identifiers (trees_between trees l.start l.end));
      listed : (used : Bytes → Bool) (edition : Edition) (context : Context) (rest : List RankedSibling)
          → sibling_trees used edition context trees rest ≡ each_sorted edition context (used_trees used (trees_between trees l.place l.end))
          → sibling_trees used edition context trees (made ++ rest) ≡ each_sorted edition context (used_trees used (trees_between trees l.start l.end));
    }

abbrev pub decreases-loop-after : goal.decreases-loop-after
decreases-loop-after g l = l.end - l.place
