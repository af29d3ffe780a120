use Rattle.std.proofs.Common.{◌∙◌}
use Rattle.ged_tool.proofs.calls.Forms.{are_compared, accepted_in_form, compared_to_form}
use Rattle.ged_tool.proofs.calls.same.compare_to_first.Goals as goal

pub returns-in-Err-clause-refused : goal.returns-in-Err-clause-refused
returns-in-Err-clause-refused c = rw c.in-Err.ensures.which c.in-Err.ensures.fault

pub returns-then-is_spelled-clause-compared : goal.returns-then-is_spelled-clause-compared
returns-then-is_spelled-clause-compared c =
    let same = c.is_spelled.ensures.0 c.if-is_spelled.true ∙ c.bytes.ensures in
    rw (← same) (compared_to_form _ _ _ _ _ c.in-Ok.ensures.form)

pub returns-in-Err-form_of-clause-refused : goal.returns-in-Err-form_of-clause-refused
returns-in-Err-form_of-clause-refused c =
    rw c.in-Err-form_of.ensures.which (accepted_in_form _ _ _ _ _ c.in-Ok.ensures.form, c.in-Err-form_of.ensures.fault)

pub returns-clause-compared : goal.returns-clause-compared
returns-clause-compared c =
    are_compared _ _ _ _ _ _ _ c.has_bytes_of.result c.in-Ok.ensures.form c.in-Ok-form_of.ensures.form
    c.has_bytes_of.ensures
