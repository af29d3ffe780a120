-- What the proofs of the crates above cite of this crate, and they cite nothing else of its proofs.
use Rattle.std.specs.Prelude.{◌⊎◌}
use Rattle.ged_value.specs.Words.{Bytes}
use Rattle.ged_value.specs.Values.{DateValueText, PeriodText}
use Rattle.ged_value.specs.Kinds.{FitsLine}
use Rattle.ged_value.specs.Laws.{LeavingOut}
use Rattle.ged_value.specs.ZeroKinds.{IntegersFitWithoutZeros}
use Rattle.ged_value.specs.declared.kind.Kind.{Kind}
use Rattle.ged_value.proofs.DefaultLaws as default
use Rattle.ged_value.proofs.Fitting as fitting
use Rattle.ged_value.proofs.ZeroKinds as zeros

-- a text of one line is of a kind or is not
pub line_decided : (kind : Kind) (text : Bytes) → FitsLine kind text ⊎ (FitsLine kind text → ⊥)
line_decided = fitting.line_decided

-- laws, as functions in src/ state them
pub value_leaving_out : LeavingOut DateValueText
value_leaving_out = default.value_leaving_out

pub period_leaving_out : LeavingOut PeriodText
period_leaving_out = default.period_leaving_out

pub fitting_without_zeros : IntegersFitWithoutZeros
fitting_without_zeros = zeros.fitting
