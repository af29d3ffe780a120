use Rattle.std.proofs.Common.{◌≡◌, ◌+◌, ◌++◌, List, [], ◌∷◌, drop, get_or, refl, sym, ap, ◌∙◌, subst, append-nil, arith}
use Rattle.std.specs.List.{AllByRecursion}
use Rattle.std.proofs.lemmas.List.{drop_all, get_or_default}
use Rattle.ged_tree.specs.Documents.{are_at}
use Rattle.ged_schema.specs.declared.context.Context.TheVariants.{File}
use Rattle.ged_canon.specs.declared.writer.rank.RankedSibling.{RankedSibling}
use Rattle.ged_canon.specs.inner.Working.{each_used}
use Rattle.ged_canon.specs.inner.Siblings.{StandsRanked, sibling_trees}
use Rattle.ged_canon.specs.inner.CanonBytes.{spelled_siblings}
use Rattle.ged_canon.specs.inner.Written.{written}
use Rattle.ged_canon.proofs.writer.Records.{first_stands, others_stand, left_after}
use Rattle.ged_canon.proofs.writer.RunsWritten.{next_left}
use Rattle.ged_canon.proofs.writer.plan.Writer.write_kept_records.Goals as goal

pub loop-each-init : goal.loop-each-init
loop-each-init g c = record { within = c.requires.within; stand = c.requires.stand; told = λ h. refl }

pub write_kept_record-requires : goal.write_kept_record-requires
write_kept_record-requires g c =
    let d = g.F.Forest.trees c.args.self.now.forest.now in
    let edition = c.args.self.now.plan.edition in
    let xs = c.args.siblings.now in
    let at = c.loop-each.each-index in
    let x : RankedSibling = get_or xs at (record { rank = 0; place = 0 }) in
    let split = next_left xs at x c.loop-each-test.true (get_or_default xs at (record { rank = 0; place = 0 }) x c.loop-each-test.true) in
    let all : AllByRecursion (StandsRanked d) (x ∷ drop (at + 1) xs) =
    subst (λ (ys : List RankedSibling). AllByRecursion (StandsRanked d) ys) split c.loop-each.invariant.within in
    record {
      document = c.requires.document;
      within = (all.0, tt);
      stand = first_stands each_used edition d x (drop (at + 1) xs)
          (ap (λ (ys : List RankedSibling). are_at 0 (sibling_trees each_used edition File d ys)) (sym split) ∙ c.loop-each.invariant.stand);
    }

pub loop-each-preserved : goal.loop-each-preserved
loop-each-preserved g c =
    let d = g.F.Forest.trees c.args.self.now.forest.now in
    let edition = c.args.self.now.plan.edition in
    let xs = c.args.siblings.now in
    let at = c.loop-each.each-index in
    let x : RankedSibling = get_or xs at (record { rank = 0; place = 0 }) in
    let split = next_left xs at x c.loop-each-test.true (get_or_default xs at (record { rank = 0; place = 0 }) x c.loop-each-test.true) in
    let all : AllByRecursion (StandsRanked d) (x ∷ drop (at + 1) xs) =
    subst (λ (ys : List RankedSibling). AllByRecursion (StandsRanked d) ys) split c.loop-each.invariant.within in
    record {
      within = all.1;
      stand = others_stand each_used edition d x (drop (at + 1) xs)
          (ap (λ (ys : List RankedSibling). are_at 0 (sibling_trees each_used edition File d ys)) (sym split) ∙ c.loop-each.invariant.stand);
      told = λ h. left_after each_used edition [] d xs at (x) (written c.args.self.now.plan.file.now c.args.work.now.answer) (written c.args.self.now.plan.file.now c.loop-each.work.answer) (written c.args.self.now.plan.file.now c.write_kept_record.new.work.answer) (spelled_siblings each_used edition [] d xs)
          split (c.loop-each.invariant.told h) (c.in_ok-write_kept_record.ensures h);
    }

pub returns : goal.returns
returns g c = λ h.
    let d = g.F.Forest.trees c.args.self.now.forest.now in
    let xs = c.args.siblings.now in
    let none_left : drop c.loop-each.each-index xs ≡ [] = drop_all c.loop-each.each-index xs (omega arith) in
    sym (append-nil (written c.args.self.now.plan.file.now c.loop-each.work.answer))
    ∙ ap (λ (ys : List RankedSibling). written c.args.self.now.plan.file.now c.loop-each.work.answer ++ spelled_siblings each_used c.args.self.now.plan.edition [] d ys) (sym none_left)
    ∙ c.loop-each.invariant.told h
