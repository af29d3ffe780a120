use Rattle.ged_value.proofs.DefaultLaws.{value_leaving_out, period_leaving_out, nothing_left_out}
use Rattle.ged_value.proofs.laws.leaving_out.Goals as goal

pub returns : goal.returns
returns c = record { date_value = value_leaving_out; period = period_leaving_out; without_the_word = nothing_left_out }
