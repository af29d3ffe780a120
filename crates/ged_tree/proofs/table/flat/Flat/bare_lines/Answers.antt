use Rattle.std.proofs.Common.{◌≡◌, Some, List, slice_get, sym, ap, ◌∙◌, subst}
use Rattle.std.proofs.lemmas.Option.{slice_get_within, get_or_from_slice_get}
use Rattle.ged_line.specs.Bytes.{Bytes}
use Rattle.ged_tree.specs.Trees.{Trees}
use Rattle.ged_tree.specs.BareLines.{IsBare, TellsOwnLine}
use Rattle.ged_tree.specs.Rows.{flat_trees, shown_from, further_of}
use Rattle.ged_tree.specs.declared.table.packed.KeptStructure.{KeptStructure}
use Rattle.ged_tree.proofs.table.BareTexts.{bare_in_file}
use Rattle.ged_tree.proofs.table.flat.Flat.bare_lines.Goals as goal

pub returns : goal.returns
returns c = λ place s stands bare.
    let file = c.self.inside.file.now in
    let items = c.self.inside.structures.items in
    let text = c.as_bytes.ensures.value in
    let kept : slice_get items place ≡ Some s = ap (λ (xs : List KeptStructure). slice_get xs place) (sym c.as_slice.ensures.value) ∙ stands in
    let told = bare_in_file file c.self.inside.apart.items items c.self.inside.sizes c.self.inside.further c.self.invariant place s
    (slice_get_within items place s kept) (sym (get_or_from_slice_get items place s s kept)) (subst (λ (bs : Bytes). IsBare bs s) text bare) in
    subst (λ (d : Trees). TellsOwnLine d place c.as_bytes.result.now s) c.self.view_is (subst (λ (bs : Bytes). TellsOwnLine (flat_trees (shown_from file c.self.inside.apart.items 0 items) (further_of file c.self.inside.further)) place bs s) (sym text) told)
