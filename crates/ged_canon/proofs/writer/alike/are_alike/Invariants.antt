use Rattle.std.proofs.Common.{◌≡◌, ◌-◌, [], true, List, drop, length}
use Rattle.std.specs.List.{AllByRecursion}
use Rattle.ged_line.specs.Bytes.{Bytes}
use Rattle.ged_tree.specs.Documents.{are_at}
use Rattle.ged_schema.specs.declared.context.Context.TheVariants.{File}
use Rattle.ged_canon.specs.inner.Working.{is_named, IsNumberingOf}
use Rattle.ged_canon.specs.inner.Siblings.{StandsRanked, sibling_trees}
use Rattle.ged_canon.specs.inner.CanonBytes.{AreNamed, spelled_siblings, numbered_siblings}
use Rattle.ged_canon.specs.inner.Written.{written}
use Rattle.ged_canon.proofs.writer.alike.are_alike.Given as goal

-- nothing but the siblings that are left tells whether all are the same
abbrev pub invariant-loop-number : goal.invariant-loop-number
invariant-loop-number g l =
    let d = g.F.Forest.trees l.first.forest.now in
    let e = g.G.Forest.trees l.second.forest.now in
    let left = drop l.number l.siblings in
    let others = drop l.number l.others in
    record {
      empty : written l.first.plan.file.now l.work.work.answer ≡ [];
      other_empty : written l.second.plan.file.now l.work.other_work.answer ≡ [];
      within : AllByRecursion (StandsRanked d) left;
      stand : are_at 0 (sibling_trees (is_named d) l.first.plan.edition File d left) ≡ true;
      others_within : AllByRecursion (StandsRanked e) others;
      others_stand : are_at 0 (sibling_trees (is_named e) l.second.plan.edition File e others) ≡ true;
      told : (names other_names : List Bytes) → IsNumberingOf d names l.first.plan.index.now l.first.plan.numbers.now → AreNamed d names
          → IsNumberingOf e other_names l.second.plan.index.now l.second.plan.numbers.now → AreNamed e other_names
          → (spelled_siblings (is_named d) l.first.plan.edition names d left ≡ spelled_siblings (is_named e) l.second.plan.edition other_names e others
          → spelled_siblings (is_named d) l.first.plan.edition names d l.siblings ≡ spelled_siblings (is_named e) l.second.plan.edition other_names e l.others)
          × (numbered_siblings (is_named d) l.first.plan.edition names d l.siblings ≡ numbered_siblings (is_named e) l.second.plan.edition other_names e l.others
          → numbered_siblings (is_named d) l.first.plan.edition names d left ≡ numbered_siblings (is_named e) l.second.plan.edition other_names e others);
    }

abbrev pub decreases-loop-number : goal.decreases-loop-number
decreases-loop-number g l = length l.siblings - l.number
