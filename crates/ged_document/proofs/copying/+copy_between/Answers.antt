use Rattle.std.proofs.Common.{◌∙◌, sym, arith}
use Rattle.ged_tree.specs.Trees.{trees_of}
use Rattle.ged_tree.specs.Runs.{trees_between}
use Rattle.ged_tree.proofs.CallerLemmas.{beside_none}
use Rattle.ged_document.proofs.Copies.{copied_more, tag_read, payload_read, below_rest}
use Rattle.ged_document.proofs.copying.+copy_between.Goals as goal

pub copy_node-requires-clause-tag : goal.copy_node-requires-clause-tag
copy_node-requires-clause-tag g t c =
    tag_read (g.F.Forest.trees c.args.forest.now) c.loop-after.place c.args.end c.in-Some.after c.in-Some.ensures c.loop-after.invariant.below

pub copy_node-requires-clause-payload : goal.copy_node-requires-clause-payload
copy_node-requires-clause-payload g t c =
    let below = c.loop-after.invariant.below in
    (below.level, payload_read (g.F.Forest.trees c.args.forest.now) c.loop-after.place c.args.end c.in-Some.after c.in-Some.ensures below)

pub loop-after-preserved : goal.loop-after-preserved
loop-after-preserved g t c =
    let w = g.F.Forest.trees c.args.forest.now in
    let place = c.loop-after.place in
    record {
      run = c.in-Some.ensures.rest;
      ahead = omega (arith, c.loop-after.invariant.ahead, c.in-Some.ensures.forth);
      below = below_rest w place c.args.end c.in-Some.after c.in-Some.ensures c.loop-after.invariant.below;
      told = copied_more w place c.args.end c.in-Some.after c.loop-after.nodes.items c.push.new.self.items
          c.in_ok-node.node (trees_between w c.args.start c.args.end) c.in-Some.ensures c.loop-after.invariant.below
          c.in_ok-node.ensures.tag c.in_ok-node.ensures.payload (c.in_ok-node.ensures.children ∙ c.in_ok-children.ensures) c.loop-after.invariant.told c.in_ok-push.ensures.items;
    }

pub returns : goal.returns
returns g t c = sym (beside_none (trees_of c.loop-after.nodes.items)) ∙ rw c.in_default.ensures at c.loop-after.invariant.told
