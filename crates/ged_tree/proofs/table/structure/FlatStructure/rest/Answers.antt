use Rattle.std.proofs.Common.{◌<◌, arith}
use Rattle.ged_tree.specs.Rows.{line_shown, IsSpelled}
use Rattle.ged_tree.specs.inner.Rows.{shown_of}
use Rattle.ged_tree.proofs.table.structure.FlatStructure.rest.Goals as goal

pub rest_between-requires : goal.rest_between-requires
rest_between-requires c =
    let s = shown_of c.args.self.now in
    let spelled : IsSpelled s = c.requires.spelled in
    let told = c.tag_length.ensures in
    let some : 0 < s.tag_length = c.requires.kept in
    let kept = (spelled.1 some).0 in
    (line_shown s, (spelled.0, kept.0, omega (arith, told, kept.1)))

pub returns : goal.returns
returns c =
    let s = shown_of c.args.self.now in
    let spelled : IsSpelled s = c.requires.spelled in
    let told = c.tag_length.ensures in
    let some : 0 < s.tag_length = c.requires.kept in
    let kept = (spelled.1 some).0 in
    c.rest_between.ensures (line_shown s) (spelled.0, kept.0, omega (arith, told, kept.1))
