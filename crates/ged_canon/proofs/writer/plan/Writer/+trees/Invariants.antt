use Rattle.std.proofs.Common.{◌≡◌, ◌+◌, ◌-◌, ◌*◌, ◌++◌, true, List, length, take, drop}
use Rattle.std.specs.List.{AllByRecursion}
use Rattle.ged_line.specs.Bytes.{Bytes}
use Rattle.ged_line.specs.Spelling.{spelled_lines}
use Rattle.ged_tree.specs.Documents.{are_at}
use Rattle.ged_tree.specs.DocumentLines.{lines_of}
use Rattle.ged_tree.specs.Runs.{IsRunOfTrees, trees_between}
use Rattle.ged_canon.specs.Steps.{renamed}
use Rattle.ged_canon.specs.inner.Working.{number_of, sorted, each_sorted, IsNumberingOf}
use Rattle.ged_canon.specs.inner.Siblings.{StandsRanked, sibling_trees}
use Rattle.ged_canon.specs.inner.Written.{written}
use Rattle.ged_canon.proofs.writer.plan.Writer.+trees.Given as goal

-- each call below a structure is one level deeper, down to level 100
abbrev pub decreases-write_tree : goal.decreases-write_tree
decreases-write_tree g l = 5 * (101 - l.level)

abbrev pub decreases-write_by_row : goal.decreases-write_by_row
decreases-write_by_row g l = 5 * (101 - l.level) + 1

abbrev pub decreases-write_sibling : goal.decreases-write_sibling
decreases-write_sibling g l = 5 * (101 - l.level) + 2

abbrev pub decreases-write_sorted : goal.decreases-write_sorted
decreases-write_sorted g l = 5 * (101 - l.level) + 3

abbrev pub decreases-write_run : goal.decreases-write_run
decreases-write_run g l = 5 * (101 - l.level) + 4

-- what is written, and what is left of a run that is in order, are the whole
abbrev pub invariant-write_run-loop-after : goal.invariant-write_run-loop-after
invariant-write_run-loop-after g l =
    let d = g.F.Forest.trees l.self.forest.now in
    let left = each_sorted l.self.plan.edition l.fn.context (trees_between d l.place l.end) in
    record {
      run : IsRunOfTrees d l.place l.end;
      kept : l.work.siblings.items ≡ l.fn.work.siblings.items;
      stand : are_at l.level left ≡ true;
      told : (names : List Bytes) → IsNumberingOf d names l.self.plan.index.now l.self.plan.numbers.now →
          written l.self.plan.file.now l.work.answer ++ spelled_lines (lines_of l.level (renamed (number_of 1 names) left))
          ≡ written l.self.plan.file.now l.fn.work.answer ++ spelled_lines (lines_of l.level (renamed (number_of 1 names) (sorted l.self.plan.edition l.fn.context (trees_between d l.start l.end))));
    }

abbrev pub decreases-write_run-loop-after : goal.decreases-write_run-loop-after
decreases-write_run-loop-after g l = l.end - l.place

-- what is written, and what is left of the siblings, are the whole
abbrev pub invariant-write_sorted-loop-number : goal.invariant-write_sorted-loop-number
invariant-write_sorted-loop-number g l =
    let d = g.F.Forest.trees l.self.forest.now in
    let listed = drop l.number l.work.siblings.items in
    let left = sibling_trees (λ name. true) l.self.plan.edition l.fn.context d listed in
    record {
      kept : take l.base l.work.siblings.items ≡ l.fn.work.siblings.items;
      within : AllByRecursion (StandsRanked d) listed;
      stand : are_at l.level left ≡ true;
      told : (names : List Bytes) → IsNumberingOf d names l.self.plan.index.now l.self.plan.numbers.now →
          written l.self.plan.file.now l.work.answer ++ spelled_lines (lines_of l.level (renamed (number_of 1 names) left))
          ≡ written l.self.plan.file.now l.fn.work.answer ++ spelled_lines (lines_of l.level (renamed (number_of 1 names) (sorted l.self.plan.edition l.fn.context (trees_between d l.start l.end))));
    }

abbrev pub decreases-write_sorted-loop-number : goal.decreases-write_sorted-loop-number
decreases-write_sorted-loop-number g l = length l.work.siblings.items - l.number
