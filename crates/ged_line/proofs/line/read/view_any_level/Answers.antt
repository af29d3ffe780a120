use Rattle.std.proofs.Common.{inl, refl, arith}
use Rattle.std.proofs.lemmas.Result.{err_from_is_err_and}
use Rattle.ged_line.proofs.line.Reading.{lacks_if_none, cut_if_some, no_level, level_fault}
use Rattle.ged_line.proofs.line.read.view_any_level.Goals as goal

pub returns-in_default : goal.returns-in_default
returns-in_default c =
    let lacks = lacks_if_none 32 c.args.text.now c.in_default.ensures.cases (omega arith) in
    inl (refl, λ digits rest. no_level c.args.text.now digits rest lacks)

pub returns-in_err-level : goal.returns-in_err-level
returns-in_err-level c =
    let p = err_from_is_err_and c.from_residual.result c.from_residual.ensures.1 in
    let parts = cut_if_some 32 c.args.text.now (c.in-Some.digits, c.in-Some.rest) c.in-Some.ensures.cases (omega arith) in
    rw (p.1, p.2) (level_fault c.args.text.now c.in-Some.digits.now c.in-Some.rest.now c.in_err-level.field-0.0 parts.0 parts.1 (rw c.as_bytes.ensures.value at c.in_err-level.ensures))
