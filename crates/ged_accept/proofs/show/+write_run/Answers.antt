use Rattle.std.proofs.Common.{◌+◌, ◌++◌, ◌∙◌, refl, ap, arith, option_map}
use Rattle.std.specs.Option.{option_copied}
use Rattle.ged_tree.specs.Runs.{trees_between}
use Rattle.ged_tree.proofs.CallerLemmas.{run_ends}
use Rattle.ged_schema.specs.Rows.{as_row}
use Rattle.ged_schema.specs.Tables.{below_row}
use Rattle.ged_accept.specs.Shown.{shown, structure_line}
use Rattle.ged_accept.proofs.Showing.{on_err, shown_none, shown_more, shown_stops, step_shown}
use Rattle.ged_accept.proofs.show.+write_run.Goals as goal

pub loop-after-init : goal.loop-after-init
loop-after-init g t c = record { run = c.requires.run; ahead = omega arith; failed = c.requires.failed; fate = refl; told = shown_none _ _ _ }

pub returns-in_err-write_line-clause-err : goal.returns-in_err-write_line-clause-err
returns-in_err-write_line-clause-err g t c =
    let trees = g.F.Forest.trees c.args.forest.now in
    let r = option_map as_row (option_copied c.row-rule.result) in
    let whole = shown c.args.level c.args.context (trees_between trees c.args.start c.args.end) in
    let rest = shown c.args.level c.args.context (trees_between trees c.loop-after.place c.args.end) in
    let line = structure_line c.args.level c.tag-tag.result.now r in
    let below = shown (c.args.level + 1) (below_row r) (trees_between trees (c.loop-after.place + 1) c.in-Some.after) in
    let left = shown c.args.level c.args.context (trees_between trees c.in-Some.after c.args.end) in
    let step =
    step_shown trees c.args.level c.args.context c.of-rows.result (below_row r) c.loop-after.place c.args.end c.in-Some.after c.tag-tag.result.now r
    c.in-Some.ensures c.tag-tag.ensures c.of-rows.ensures c.row-rule.ensures refl in
    on_err {text = whole} c.from_residual.result c.in_err-write_line.ensures.err.0
    (shown_stops whole rest line (below ++ left) c.loop-after.invariant.told step c.in_err-write_line.ensures.err.1)

pub returns-in_err-write_run-clause-err : goal.returns-in_err-write_run-clause-err
returns-in_err-write_run-clause-err g t c =
    let trees = g.F.Forest.trees c.args.forest.now in
    let r = option_map as_row (option_copied c.row-rule.result) in
    let whole = shown c.args.level c.args.context (trees_between trees c.args.start c.args.end) in
    let rest = shown c.args.level c.args.context (trees_between trees c.loop-after.place c.args.end) in
    let line = structure_line c.args.level c.tag-tag.result.now r in
    let below = shown (c.args.level + 1) c.context_below-below.result (trees_between trees (c.loop-after.place + 1) c.in-Some.after) in
    let left = shown c.args.level c.args.context (trees_between trees c.in-Some.after c.args.end) in
    let step =
    step_shown trees c.args.level c.args.context c.of-rows.result c.context_below-below.result c.loop-after.place c.args.end c.in-Some.after c.tag-tag.result.now r
    c.in-Some.ensures c.tag-tag.ensures c.of-rows.ensures c.row-rule.ensures c.context_below-below.ensures in
    on_err {text = whole} c.from_residual-in_err-write_run.result c.in_err-write_run.ensures.err.0
    (shown_stops whole (below ++ left) below left (shown_more whole rest line (below ++ left) c.loop-after.invariant.told step c.in_ok-write_line.ensures.ok.1) refl c.in_err-write_run.ensures.err.1)

pub loop-after-preserved : goal.loop-after-preserved
loop-after-preserved g t c =
    let trees = g.F.Forest.trees c.args.forest.now in
    let r = option_map as_row (option_copied c.row-rule.result) in
    let whole = shown c.args.level c.args.context (trees_between trees c.args.start c.args.end) in
    let rest = shown c.args.level c.args.context (trees_between trees c.loop-after.place c.args.end) in
    let line = structure_line c.args.level c.tag-tag.result.now r in
    let left = shown c.args.level c.args.context (trees_between trees c.in-Some.after c.args.end) in
    let step =
    step_shown trees c.args.level c.args.context c.of-rows.result (below_row r) c.loop-after.place c.args.end c.in-Some.after c.tag-tag.result.now r
    c.in-Some.ensures c.tag-tag.ensures c.of-rows.ensures c.row-rule.ensures refl in
    let none = ap (shown (c.args.level + 1) (below_row r)) (run_ends trees (c.loop-after.place + 1) c.in-Some.after c.if-place-after.false) in
    record {
      run = c.in-Some.ensures.rest;
      ahead = omega (arith, c.in-Some.ensures.forth, c.loop-after.invariant.ahead);
      failed = c.in_ok-write_line.ensures.ok.0;
      fate = c.in_ok-write_line.ensures.fate ∙ c.loop-after.invariant.fate;
      told = shown_more whole rest line left c.loop-after.invariant.told (step ∙ ap (λ xs. line ++ (xs ++ left)) none) c.in_ok-write_line.ensures.ok.1;
    }

pub loop-after-preserved-in_ok-write_run : goal.loop-after-preserved-in_ok-write_run
loop-after-preserved-in_ok-write_run g t c =
    let trees = g.F.Forest.trees c.args.forest.now in
    let r = option_map as_row (option_copied c.row-rule.result) in
    let whole = shown c.args.level c.args.context (trees_between trees c.args.start c.args.end) in
    let rest = shown c.args.level c.args.context (trees_between trees c.loop-after.place c.args.end) in
    let line = structure_line c.args.level c.tag-tag.result.now r in
    let below = shown (c.args.level + 1) c.context_below-below.result (trees_between trees (c.loop-after.place + 1) c.in-Some.after) in
    let left = shown c.args.level c.args.context (trees_between trees c.in-Some.after c.args.end) in
    let step =
    step_shown trees c.args.level c.args.context c.of-rows.result c.context_below-below.result c.loop-after.place c.args.end c.in-Some.after c.tag-tag.result.now r
    c.in-Some.ensures c.tag-tag.ensures c.of-rows.ensures c.row-rule.ensures c.context_below-below.ensures in
    record {
      run = c.in-Some.ensures.rest;
      ahead = omega (arith, c.in-Some.ensures.forth, c.loop-after.invariant.ahead);
      failed = c.in_ok-write_run.ensures.ok.0;
      fate = c.in_ok-write_run.ensures.fate ∙ c.in_ok-write_line.ensures.fate ∙ c.loop-after.invariant.fate;
      told = shown_more whole (below ++ left) below left (shown_more whole rest line (below ++ left) c.loop-after.invariant.told step c.in_ok-write_line.ensures.ok.1) refl c.in_ok-write_run.ensures.ok.1;
    }
