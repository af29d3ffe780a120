use Rattle.std.proofs.Common.{◌∙◌, ap, sym}
use Rattle.ged_tree.specs.Spelled.{shown_pointer}
use Rattle.ged_tree.proofs.table.TextParts.{has_reference, name_is, other_name}
use Rattle.ged_tree.proofs.table.structure.reference_of.Goals as goal

pub returns-else-eq : goal.returns-else-eq
returns-else-eq c =
    let part = c.args.part.now in
    let given = c.requires.value in
    let r = has_reference given.0 part given.1 given.2 c.requires.long c.requires.first c.requires.second in
    sym (r.shown ∙ ap shown_pointer (sym (c.range-name.ensures.value ∙ name_is part r)) ∙ other_name c.range-name.result.now (sym c.eq.ensures ∙ c.if-eq.false))
