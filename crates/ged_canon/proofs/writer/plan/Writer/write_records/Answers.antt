use Rattle.std.proofs.Common.{◌≡◌, ◌+◌, ◌++◌, List, [], ◌∷◌, drop, get_or, refl, sym, ap, ◌∙◌, subst, append-nil, arith}
use Rattle.std.specs.List.{AllByRecursion}
use Rattle.std.proofs.lemmas.List.{drop_all, get_or_default}
use Rattle.ged_tree.specs.Documents.{are_at}
use Rattle.ged_schema.specs.declared.context.Context.TheVariants.{File}
use Rattle.ged_canon.specs.declared.writer.rank.RankedSibling.{RankedSibling}
use Rattle.ged_canon.specs.inner.Working.{is_named}
use Rattle.ged_canon.specs.inner.Siblings.{StandsRanked, sibling_trees}
use Rattle.ged_canon.specs.inner.CanonBytes.{spelled_siblings}
use Rattle.ged_canon.specs.inner.Written.{written}
use Rattle.ged_canon.proofs.writer.Records.{first_stands, others_stand, left_after}
use Rattle.ged_canon.proofs.writer.RunsWritten.{next_left}
use Rattle.ged_canon.proofs.writer.plan.Writer.write_records.Goals as goal

pub loop-each-init : goal.loop-each-init
loop-each-init g c = record { within = c.requires.within; stand = c.requires.stand; told = λ names h named. refl }

pub write_record-requires : goal.write_record-requires
write_record-requires g c =
    let d = g.F.Forest.trees c.args.self.now.forest.now in
    let edition = c.args.self.now.plan.edition in
    let xs = c.args.siblings.now in
    let at = c.loop-each.each-index in
    let x : RankedSibling = get_or xs at (record { rank = 0; place = 0 }) in
    let split = next_left xs at x c.loop-each-test.true (get_or_default xs at (record { rank = 0; place = 0 }) x c.loop-each-test.true) in
    let all : AllByRecursion (StandsRanked d) (x ∷ drop (at + 1) xs) =
    subst (λ (ys : List RankedSibling). AllByRecursion (StandsRanked d) ys) split c.loop-each.invariant.within in
    record {
      document = c.requires.document;
      within = (all.0, tt);
      stand = first_stands (is_named d) edition d x (drop (at + 1) xs)
          (ap (λ (ys : List RankedSibling). are_at 0 (sibling_trees (is_named d) edition File d ys)) (sym split) ∙ c.loop-each.invariant.stand);
    }

pub loop-each-preserved : goal.loop-each-preserved
loop-each-preserved g c =
    let d = g.F.Forest.trees c.args.self.now.forest.now in
    let edition = c.args.self.now.plan.edition in
    let xs = c.args.siblings.now in
    let at = c.loop-each.each-index in
    let x : RankedSibling = get_or xs at (record { rank = 0; place = 0 }) in
    let split = next_left xs at x c.loop-each-test.true (get_or_default xs at (record { rank = 0; place = 0 }) x c.loop-each-test.true) in
    let all : AllByRecursion (StandsRanked d) (x ∷ drop (at + 1) xs) =
    subst (λ (ys : List RankedSibling). AllByRecursion (StandsRanked d) ys) split c.loop-each.invariant.within in
    record {
      within = all.1;
      stand = others_stand (is_named d) edition d x (drop (at + 1) xs)
          (ap (λ (ys : List RankedSibling). are_at 0 (sibling_trees (is_named d) edition File d ys)) (sym split) ∙ c.loop-each.invariant.stand);
      told = λ names h named. left_after (is_named d) edition names d xs at (x) (written c.args.self.now.plan.file.now c.args.work.now.answer) (written c.args.self.now.plan.file.now c.loop-each.work.answer) (written c.args.self.now.plan.file.now c.write_record.new.work.answer) (spelled_siblings (is_named d) edition names d xs)
          split (c.loop-each.invariant.told names h named) (c.in_ok-write_record.ensures names h named);
    }

pub returns : goal.returns
returns g c = λ names h named.
    let d = g.F.Forest.trees c.args.self.now.forest.now in
    let xs = c.args.siblings.now in
    let none_left : drop c.loop-each.each-index xs ≡ [] = drop_all c.loop-each.each-index xs (omega arith) in
    sym (append-nil (written c.args.self.now.plan.file.now c.loop-each.work.answer))
    ∙ ap (λ (ys : List RankedSibling). written c.args.self.now.plan.file.now c.loop-each.work.answer ++ spelled_siblings (is_named d) c.args.self.now.plan.edition names d ys) (sym none_left)
    ∙ c.loop-each.invariant.told names h named
