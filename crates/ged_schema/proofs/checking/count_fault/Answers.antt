use Rattle.std.proofs.Common.{arith, sym, ap, ◌∙◌, subst, ◌+◌, get_or, List, inl, inr}
use Rattle.std.specs.List.{AllByRecursion}
use Rattle.ged_tree.specs.Runs.{trees_between}
use Rattle.ged_schema.specs.Rows.{Row}
use Rattle.ged_schema.specs.Tables.{rows}
use Rattle.ged_schema.specs.Checked.{CountsRight}
use Rattle.ged_schema.specs.Faults.{FirstCountFault}
use Rattle.ged_schema.proofs.Numbers.{rule_stands, rules_left}
use Rattle.ged_schema.proofs.checking.count_fault.Goals as goal

pub row_fault-requires-clause-counted : goal.row_fault-requires-clause-counted
row_fault-requires-clause-counted g c =
    let at = rule_stands c.rows-rule-items.result.now (rows c.args.context) c.loop-rule.rule-index _ c.rows-rule-items.ensures.rows c.loop-rule-test.true in
    ap (λ i. get_or c.count_rows-counts.result i 0) c.loop-rule.invariant.number ∙ c.count_rows-counts.ensures c.loop-rule.rule-index _ at

pub returns-in-Some : goal.returns-in-Some
returns-in-Some g c =
    let below = trees_between (g.F.Forest.trees c.args.forest.now) (c.args.place + 1) c.args.after in
    let left = rules_left c.rows-rule-items.result.now (rows c.args.context) c.loop-rule.rule-index _ c.rows-rule-items.ensures.rows c.loop-rule-test.true in
    c.loop-rule.invariant.fault c.in-Some.fault (subst (λ (rs : List Row). FirstCountFault c.args.place below rs c.in-Some.fault) (sym left) (inl c.in-Some.ensures))

pub loop-rule-preserved : goal.loop-rule-preserved
loop-rule-preserved g c =
    let below = trees_between (g.F.Forest.trees c.args.forest.now) (c.args.place + 1) c.args.after in
    let left = rules_left c.rows-rule-items.result.now (rows c.args.context) c.loop-rule.rule-index _ c.rows-rule-items.ensures.rows c.loop-rule-test.true in
    record {
      number = omega (arith, c.loop-rule.invariant.number);
      right = λ rest. c.loop-rule.invariant.right (subst (λ (rs : List Row). AllByRecursion (CountsRight below) rs) (sym left) (c.in_default.ensures, rest));
      fault = λ f later. c.loop-rule.invariant.fault f (subst (λ (rs : List Row). FirstCountFault c.args.place below rs f) (sym left) (inr (c.in_default.ensures, later)));
    }
