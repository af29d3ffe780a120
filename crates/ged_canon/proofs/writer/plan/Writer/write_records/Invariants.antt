use Rattle.std.proofs.Common.{◌≡◌, ◌++◌, true, List, drop}
use Rattle.std.specs.List.{AllByRecursion}
use Rattle.ged_line.specs.Bytes.{Bytes}
use Rattle.ged_tree.specs.Documents.{are_at}
use Rattle.ged_schema.specs.declared.context.Context.TheVariants.{File}
use Rattle.ged_canon.specs.inner.Working.{is_named, IsNumberingOf}
use Rattle.ged_canon.specs.inner.Siblings.{StandsRanked, sibling_trees}
use Rattle.ged_canon.specs.inner.CanonBytes.{AreNamed, spelled_siblings}
use Rattle.ged_canon.specs.inner.Written.{written}
use Rattle.ged_canon.proofs.writer.plan.Writer.write_records.Given as goal

-- what is written, and what is left of the siblings, are the whole
abbrev pub invariant-loop-each : goal.invariant-loop-each
invariant-loop-each g l =
    let d = g.F.Forest.trees l.self.forest.now in
    let left = drop l.each-index l.siblings in
    record {
      within : AllByRecursion (StandsRanked d) left;
      stand : are_at 0 (sibling_trees (is_named d) l.self.plan.edition File d left) ≡ true;
      told : (names : List Bytes) → IsNumberingOf d names l.self.plan.index.now l.self.plan.numbers.now → AreNamed d names →
          written l.self.plan.file.now l.work.answer ++ spelled_siblings (is_named d) l.self.plan.edition names d left ≡ written l.self.plan.file.now l.fn.work.answer ++ spelled_siblings (is_named d) l.self.plan.edition names d l.siblings;
    }
