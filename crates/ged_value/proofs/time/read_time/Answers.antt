use Rattle.std.proofs.Common.{◌∙◌, None}
use Rattle.ged_value.specs.Times.{TimeText}
use Rattle.ged_value.specs.inner.TimeReading.{time_at}
use Rattle.ged_value.specs.TimeViews.{time_parts}
use Rattle.ged_value.proofs.ReadingLaws.{reads}
use Rattle.ged_value.proofs.TimeLaws.{time_again, time_found, zoned, zoned_empty, zoned_other}
use Rattle.ged_value.proofs.time.read_time.Goals as goal

pub returns-in-None : goal.returns-in-None
returns-in-None c =
    reads time_parts TimeText time_at time_again time_found c.args.text.now c.clock_at.result
    (c.clock_at.ensures ∙ zoned c.args.text.now c.cut_at.result.0.now None (rw c.in-None.is at c.cut_at.ensures))

pub returns-in-Some-empty : goal.returns-in-Some-empty
returns-in-Some-empty c =
    reads time_parts TimeText time_at time_again time_found c.args.text.now c.clock_at-in-Some-empty.result
    (c.clock_at-in-Some-empty.ensures ∙ zoned_empty c.args.text.now c.cut_at.result.0.now c.in-Some-empty.field-0.now c.in-Some-empty.is-empty (rw c.in-Some-empty.is at c.cut_at.ensures))

pub returns-in-Some : goal.returns-in-Some
returns-in-Some c =
    reads time_parts TimeText time_at time_again time_found c.args.text.now None
    (zoned_other c.args.text.now c.cut_at.result.0.now c.in-Some.field-0.now c.in-Some.not-empty (rw c.in-Some.is at c.cut_at.ensures))
