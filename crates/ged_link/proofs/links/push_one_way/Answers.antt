use Rattle.std.proofs.Common.{◌+◌, sym, ◌∙◌}
use Rattle.ged_tree.specs.Places.{structure_at}
use Rattle.ged_tree.specs.Runs.{trees_between, IsStep}
use Rattle.ged_link.specs.Indexes.{place_in}
use Rattle.ged_link.proofs.WalkLemmas.{one_way_pushed}
use Rattle.ged_link.proofs.links.push_one_way.Goals as goal

pub loop-after-preserved-in_ok-push : goal.loop-after-preserved-in_ok-push
loop-after-preserved-in_ok-push g c =
    let w = g.F.Forest.trees c.args.forest.now in
    let p = c.loop-after.place in
    let e = c.args.end in
    let a = c.in-Some.after in
    let step : IsStep w p e a = c.in-Some.ensures in
    record {
      run = step.rest;
      told = one_way_pushed (place_in c.args.records.now.names.now) w (structure_at w c.args.from).tag c.args.from p a (trees_between w p e) (structure_at w p) (trees_between w (p + 1) a) (trees_between w a e) c.loop-after.places.items c.push.new.self.items step.first step.below.fills
          (sym c.is_one_way.ensures ∙ c.if-is_one_way.true) c.in_ok-push.ensures.items ∙ c.loop-after.invariant.told;
    }
