use Rattle.std.proofs.Common.{◌∙◌, sym}
use Rattle.ged_document.specs.Records.{record_trees}
use Rattle.ged_tree.specs.Runs.{trees_between}
use Rattle.ged_tree.proofs.CallerLemmas.{beside_none}
use Rattle.ged_document.proofs.Copies.{record_more, record_rest}
use Rattle.ged_document.proofs.copying.copy_records.Goals as goal

pub loop-after-preserved : goal.loop-after-preserved
loop-after-preserved g c =
    let w = g.F.Forest.trees c.args.forest.now in
    let place = c.loop-after.place in
    record {
      run = c.in-Some.ensures.rest;
      fits = record_rest w place c.args.end c.in-Some.after c.in-Some.ensures c.loop-after.invariant.fits;
      told = record_more w place c.args.end c.in-Some.after c.loop-after.records.items c.push.new.self.items
          (record { xref = c.in_ok-xref.xref; node = c.in_ok-node.node }) (trees_between w c.args.start c.args.end) c.in-Some.ensures
          (c.in_ok-xref.ensures ∙ c.xref.ensures) c.in_ok-node.ensures.tag c.in_ok-node.ensures.payload c.in_ok-node.ensures.children c.loop-after.invariant.told c.in_ok-push.ensures.items;
    }

pub returns : goal.returns
returns g c = sym (beside_none (record_trees c.loop-after.records.items)) ∙ rw c.in_default.ensures at c.loop-after.invariant.told
