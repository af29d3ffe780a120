use Rattle.std.proofs.Common.{arith, ap, subst, ◌≡◌}
use Rattle.ged_tree.specs.Trees.{Trees, trees_count}
use Rattle.ged_tree.specs.Runs.{trees_between}
use Rattle.ged_schema.specs.declared.context.Context.TheVariants.{File}
use Rattle.ged_schema.specs.Checked.{AreChecked}
use Rattle.ged_schema.proofs.Marking.{on_true}
use Rattle.ged_schema.proofs.Runs.{fault_place, tested, refuted}
use Rattle.ged_schema.proofs.Noting.{noted_alone}
use Rattle.ged_schema.proofs.checking.check_tables.Goals as goal

pub returns-then-pass : goal.returns-then-pass
returns-then-pass g c =
    let d = g.F.Forest.trees c.args.forest.now in
    let (_, checked, noted) = on_true c.all_pass.result c.all_pass.ensures c.if-all_pass.true in
    let all = c.end_of_all-end.ensures.all in
    (subst (λ (x : Trees). AreChecked d File x) all checked, tested c.all_pass.new.pass.noted (noted_alone File c.all_pass.new.pass.noted _ d all noted) c.if-pass.true)

pub returns-else-pass : goal.returns-else-pass
returns-else-pass g c =
    let d = g.F.Forest.trees c.args.forest.now in
    let (_, checked, noted) = on_true c.all_pass.result c.all_pass.ensures c.if-all_pass.true in
    let all = c.end_of_all-end.ensures.all in
    (subst (λ (x : Trees). AreChecked d File x) all checked, refuted c.all_pass.new.pass.noted (noted_alone File c.all_pass.new.pass.noted _ d all noted) c.if-pass.false)

pub line-requires : goal.line-requires
line-requires g c =
    let d = g.F.Forest.trees c.args.forest.now in
    let all : trees_count (trees_between d 0 c.end_of_all-end.result) ≡ trees_count d = ap trees_count c.end_of_all-end.ensures.all in
    omega (arith, fault_place d File 0 (trees_between d 0 c.end_of_all-end.result) c.in-Some.field-0 c.in-Some.ensures, all)
