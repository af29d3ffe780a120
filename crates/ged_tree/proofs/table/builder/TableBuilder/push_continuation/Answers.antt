use Rattle.std.proofs.Common.{◌≡◌, ◌∙◌, refl, rules}
use Rattle.std.specs.Prelude.{IfSome}
use Rattle.std.specs.Str.{IsUtf8}
use Rattle.ged_tree.specs.inner.Tables.{line_text, IsSliceAt}
use Rattle.ged_tree.specs.declared.table.builder.TableBuilder.{TableBuilder}
use Rattle.ged_tree.proofs.table.FurtherTexts.{text_told}
use Rattle.ged_tree.proofs.table.Pushing.{above_is_no_trailer, put_further}
use Rattle.ged_tree.proofs.table.builder.TableBuilder.push_continuation.Goals as goal

pub returns : goal.returns
returns c = λ role.
    let old = c.args.self.now in
    let line = c.args.spelled.now.line in
    let bytes = c.args.spelled.now.text.now in
    let file = old.file.now in
    let new : TableBuilder = record { judge = old.judge; count = old.count; file = old.file; structures = c.tell_further.new.structures; sizes = old.sizes; apart = old.apart; further = c.push.new.self } in
    let text = c.text_of_line-text.result.now in
    let is : text ≡ line_text line.value = c.text_of_line-text.ensures in
    let utf8 : IsUtf8 text = search rules in
    let there : IfSome c.start_behind-start.result (λ at. IsSliceAt file at text) = text_told line bytes text file c.args.start c.start_behind-start.result c.requires.text is utf8 c.requires.slice c.start_behind-start.ensures.told c.start_behind-start.ensures.untold in
    put_further old new line c.len-after.result text
    (above_is_no_trailer line role.0) role.1 refl refl refl refl refl
    c.tell_further.ensures (c.in_ok-push.ensures file there) (c.len-after.ensures ∙ old.structures.ok.0) is
