use Rattle.std.proofs.Common.{◌≡◌, ◌++◌, true, [], drop}
use Rattle.std.specs.List.{AllByRecursion}
use Rattle.ged_tree.specs.Documents.{are_at}
use Rattle.ged_schema.specs.declared.context.Context.TheVariants.{File}
use Rattle.ged_canon.specs.inner.Working.{each_used, IsNumberingOf}
use Rattle.ged_canon.specs.inner.Siblings.{StandsRanked, sibling_trees}
use Rattle.ged_canon.specs.inner.CanonBytes.{spelled_siblings}
use Rattle.ged_canon.specs.inner.Written.{written}
use Rattle.ged_canon.proofs.writer.plan.Writer.write_kept_records.Given as goal

-- what is written, and what is left of the siblings, are the whole
abbrev pub invariant-loop-each : goal.invariant-loop-each
invariant-loop-each g l =
    let d = g.F.Forest.trees l.self.forest.now in
    let left = drop l.each-index l.siblings in
    record {
      within : AllByRecursion (StandsRanked d) left;
      stand : are_at 0 (sibling_trees each_used l.self.plan.edition File d left) ≡ true;
      told : IsNumberingOf d [] l.self.plan.index.now l.self.plan.numbers.now →
          written l.self.plan.file.now l.work.answer ++ spelled_siblings each_used l.self.plan.edition [] d left ≡ written l.self.plan.file.now l.fn.work.answer ++ spelled_siblings each_used l.self.plan.edition [] d l.siblings;
    }
