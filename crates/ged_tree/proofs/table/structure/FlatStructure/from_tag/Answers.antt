use Rattle.std.proofs.Common.{◌∙◌, ap}
use Rattle.ged_tree.specs.Rows.{line_shown, IsSpelled}
use Rattle.ged_tree.specs.Spelled.{shown_xref}
use Rattle.ged_tree.specs.inner.Rows.{shown_of}
use Rattle.ged_tree.proofs.table.Searches.{name_boundary, behind_name, unnamed}
use Rattle.ged_tree.proofs.table.structure.FlatStructure.from_tag.Goals as goal

pub range_from-requires : goal.range_from-requires
range_from-requires c =
    let s = shown_of c.args.self.now in
    let spelled : IsSpelled s = c.requires in
    let some = c.in-Some.ensures ∙ ap shown_xref c.behind_level-rest.ensures in
    rw c.behind_level-rest.ensures (λ l. name_boundary (line_shown s) s.text spelled.0 c.in-Some.name.now some)

pub returns-in-Some : goal.returns-in-Some
returns-in-Some c =
    let s = shown_of c.args.self.now in
    let spelled : IsSpelled s = c.requires in
    let some = c.in-Some.ensures ∙ ap shown_xref c.behind_level-rest.ensures in
    (rw c.behind_level-rest.ensures at c.range_from.ensures.value) ∙ behind_name (line_shown s) s.text spelled.0 c.in-Some.name.now some

pub returns-in-None : goal.returns-in-None
returns-in-None c =
    let s = shown_of c.args.self.now in
    let spelled : IsSpelled s = c.requires in
    c.behind_level-rest.ensures ∙ unnamed (line_shown s) s.text spelled.0 (c.in-None.ensures ∙ ap shown_xref c.behind_level-rest.ensures)
