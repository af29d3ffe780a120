use Rattle.std.proofs.Common.{refl, sym, ◌∙◌}
use Rattle.std.proofs.lemmas.List.{length-map}
use Rattle.ged_tree.specs.Rows.{kept_level, kept_levels}
use Rattle.ged_tree.specs.declared.table.packed.TextApart.{TextApart}
use Rattle.ged_tree.specs.declared.table.builder.TableBuilder.{TableBuilder}
use Rattle.ged_tree.proofs.table.Pushing.{put_apart}
use Rattle.ged_tree.proofs.table.builder.TableBuilder.push_apart.Goals as goal

pub returns : goal.returns
returns c = λ line shows.
    let old = c.args.self.now in
    let new : TableBuilder = record { judge = old.judge; count = old.count; file = old.file; structures = c.push-2.new.self; sizes = c.push-3.new.self; apart = c.push.new.self; further = old.further } in
    let t : TextApart = record { place = c.len-place.result; text = c.args.text } in
    let count = c.len-place.ensures ∙ old.structures.ok.0 ∙ sym (length-map old.structures.items kept_level) in
    put_apart old new line c.args.text.now c.args.structure shows
    refl refl refl refl c.in_ok-push-2.ensures.items (λ sized. rw (sym c.level.ensures) (c.in_ok-push-3.ensures (kept_levels old.structures.items) count sized)) t c.in_ok-push.ensures.items (c.len-place.ensures ∙ old.structures.ok.0) refl c.requires
