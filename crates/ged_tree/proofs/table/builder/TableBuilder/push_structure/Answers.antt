use Rattle.std.proofs.Common.{ℕ, ◌<◌, ◌≡◌, ◌∙◌, refl, ap, sym, subst, arith}
use Rattle.std.proofs.lemmas.List.{length-map}
use Rattle.ged_line.specs.Lines.{LineParts}
use Rattle.ged_tree.specs.Rows.{kept_level, kept_levels}
use Rattle.ged_tree.specs.inner.Tables.{IsSliceAt}
use Rattle.ged_tree.specs.declared.table.builder.TableBuilder.{TableBuilder}
use Rattle.ged_tree.proofs.table.Pushing.{put_slice}
use Rattle.ged_tree.proofs.table.builder.TableBuilder.push_structure.Goals as goal

pub returns : goal.returns
returns c =
    let old = c.args.self.now in
    let new : TableBuilder = record { judge = old.judge; count = old.count; file = old.file; structures = c.push_kept.new.structures; sizes = c.push.new.self; apart = old.apart; further = old.further } in
    let s = c.structure_of_line-2.result in
    let made = c.structure_of_line-2.ensures in
    let text = c.args.spelled.now.text.now in
    let kept = c.in-Some.ensures.true_ones in
    let slice = rw kept.0 at c.requires.slice in
    let short : s.length < 255 = omega (arith, made.length, kept.2) in
    let count = c.len-place.ensures ∙ old.structures.ok.0 ∙ sym (length-map old.structures.items kept_level) in
    let level : kept_level s ≡ c.level.result = ap (λ (l : LineParts). l.level) made.line.line_is ∙ sym c.level.ensures.level in
    put_slice old new c.args.spelled.now.line text s made.line
    refl refl refl refl c.in_ok-push_kept.ensures (λ sized. rw level (c.in_ok-push.ensures (kept_levels old.structures.items) count sized)) refl
    (subst (λ (at : ℕ). IsSliceAt old.file.now at text) (sym made.start) slice) (made.length ∙ sym kept.1) short
