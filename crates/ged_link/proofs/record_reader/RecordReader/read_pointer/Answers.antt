use Rattle.std.proofs.Common.{◌≡◌, sym, subst, ap, ◌∙◌, ◌∷◌, ◌++◌, []}
use Rattle.std.proofs.lemmas.List.{append-nil}
use Rattle.ged_line.specs.Bytes.{Bytes}
use Rattle.ged_line.specs.Lines.{LineParts}
use Rattle.ged_line.specs.Views.{viewed_value}
use Rattle.ged_link.specs.inner.PointerLists.{line_pointer, line_pointers, AreListedPointers}
use Rattle.ged_link.proofs.RecordLineLemmas.{on_ok_too}
use Rattle.ged_link.proofs.PointerLemmas.{one_line, no_pointer}
use Rattle.ged_link.proofs.record_reader.RecordReader.read_pointer.Goals as goal

pub returns-in_default-clause-pointers : goal.returns-in_default-clause-pointers
returns-in_default-clause-pointers c lines are =
    let line : LineParts = c.args.line.now in
    let same : line_pointers (lines ++ line ∷ []) ≡ line_pointers lines =
    one_line lines line ∙ ap (λ ps. line_pointers lines ++ ps) (no_pointer line.tag c.value.result line.value c.value.ensures.value c.in_default.not-Pointer) ∙ append-nil (line_pointers lines) in
    subst (λ ps. AreListedPointers c.args.self.now.pointers.items ps) (sym same) are

pub returns-clause-pointers : goal.returns-clause-pointers
returns-clause-pointers c =
    let line : LineParts = c.args.line.now in
    let name = c.in-Pointer.name.now in
    let own : line_pointer line.tag line.value ≡ (c.tag.result.now, name) ∷ [] =
    ap (line_pointer line.tag) (sym c.value.ensures.value ∙ ap viewed_value c.in-Pointer.is) ∙ ap (λ (tag : Bytes). (tag, name) ∷ []) (sym c.tag.ensures.tag) in
    on_ok_too c.list_pointer.result
    (λ listed lines are. subst (λ ps. AreListedPointers c.list_pointer.new.self.pointers.items ps)
    (sym (one_line lines line ∙ ap (λ ps. line_pointers lines ++ ps) own)) (listed (line_pointers lines) are))
    c.list_pointer.ensures.pointers
