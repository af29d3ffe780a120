use Rattle.std.proofs.Common.{arith, sym, ap, ◌∙◌, ◌≡◌, ◌+◌, None, option_map}
use Rattle.ged_tree.specs.Places.{structure_at}
use Rattle.ged_tree.specs.Runs.{trees_between}
use Rattle.ged_schema.specs.Rows.{as_row}
use Rattle.ged_schema.specs.Tables.{row}
use Rattle.ged_schema.proofs.Runs.{checked_none, fault_none}
use Rattle.ged_schema.proofs.checking.+check_between.Goals as goal

pub loop-after-preserved : goal.loop-after-preserved
loop-after-preserved g t c =
    let d = g.F.Forest.trees c.args.forest.now in
    let place = c.loop-after.place in
    let after = c.in-Some.after in
    let s = structure_at d place in
    let here = trees_between d place c.args.end in
    let below = trees_between d (place + 1) after in
    let next = trees_between d after c.args.end in
    let nothing : row c.args.context s.tag ≡ None = ap (row c.args.context) (sym c.tag.ensures) ∙ sym c.lookup_name.ensures ∙ ap (option_map as_row) c.in_default-lookup_name.is in
    record {
      run = c.in-Some.ensures.rest;
      ahead = omega (arith, c.loop-after.invariant.ahead, c.in-Some.ensures.forth);
      checked = λ rest. c.loop-after.invariant.checked (checked_none d c.args.context here s below next c.in-Some.ensures.first nothing rest);
      fault = λ f later. c.loop-after.invariant.fault f (fault_none d c.args.context here s below next c.in-Some.ensures.first place after c.in-Some.ensures.below.fills f nothing later);
    }
