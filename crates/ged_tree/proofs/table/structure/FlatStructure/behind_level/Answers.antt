use Rattle.std.proofs.Common.{ℕ, ◌∙◌, length, decimal, ap}
use Rattle.ged_tree.specs.Rows.{line_shown, IsSpelled}
use Rattle.ged_tree.specs.inner.Rows.{shown_of}
use Rattle.ged_tree.proofs.table.Searches.{level_boundary}
use Rattle.ged_tree.proofs.table.structure.FlatStructure.behind_level.Goals as goal

pub range_from-requires : goal.range_from-requires
range_from-requires c =
    let s = shown_of c.args.self.now in
    let spelled : IsSpelled s = c.requires in
    let digits = c.digits_of_level.ensures.digits ∙ ap (λ (l : ℕ). length (decimal l)) c.level.ensures in
    rw digits (λ l. level_boundary (line_shown s) s.text spelled.0)
