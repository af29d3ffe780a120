use Rattle.std.proofs.Common.{◌∙◌}
use Rattle.ged_value.specs.Views.{calendar_name}
use Rattle.ged_value.proofs.DateLaws.{calendar_is_listed}
use Rattle.ged_value.proofs.date.is_calendar_word.Goals as goal

pub returns : goal.returns
returns c = c.is_some.ensures ∙ calendar_is_listed calendar_name c.standard_calendar.result c.args.word.now c.standard_calendar.ensures
