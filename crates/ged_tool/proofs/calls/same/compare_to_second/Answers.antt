use Rattle.std.proofs.Common.{◌∙◌}
use Rattle.ged_tool.proofs.calls.Forms.{are_compared, form_compared_to}
use Rattle.ged_tool.proofs.calls.same.compare_to_second.Goals as goal

pub returns-then-is_spelled-clause-compared : goal.returns-then-is_spelled-clause-compared
returns-then-is_spelled-clause-compared c =
    let same = c.is_spelled.ensures.0 c.if-is_spelled.true ∙ c.bytes.ensures in
    rw (← same) (form_compared_to _ _ _ _ _ c.in-Ok.ensures.form)

pub returns-clause-compared : goal.returns-clause-compared
returns-clause-compared c =
    are_compared _ _ _ _ _ _ _ c.has_bytes_of.result c.in-Ok-form_of.ensures.form c.in-Ok.ensures.form
    c.has_bytes_of.ensures
