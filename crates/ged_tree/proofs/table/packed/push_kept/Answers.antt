use Rattle.std.proofs.Common.{[], ◌∙◌}
use Rattle.std.proofs.Math.Seq.{set-append_seam}
use Rattle.ged_tree.proofs.table.packed.push_kept.Goals as goal

pub returns : goal.returns
returns c = rw (c.in_ok-push.ensures.items, c.len-place.ensures ∙ c.args.structures.now.ok.0) (set-append_seam c.args.structures.now.items _ [] c.args.structure)
