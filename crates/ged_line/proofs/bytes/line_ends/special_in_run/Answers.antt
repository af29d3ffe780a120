use Rattle.memchr.specs.Find.{Passes}
use Rattle.ged_line.specs.inner.ByteTests.{is_special}
use Rattle.ged_line.proofs.bytes.LineEnds.{none_marked, first_marked}
use Rattle.ged_line.proofs.bytes.line_ends.special_in_run.Goals as goal

pub returns-then-marks-eq0 : goal.returns-then-marks-eq0
returns-then-marks-eq0 c =
    none_marked (Passes is_special c.args.bytes.now) c.args.at 32 c.special_marks-marks.result c.special_marks-marks.ensures c.if-marks-eq0.true

pub returns : goal.returns
returns c =
    first_marked (Passes is_special c.args.bytes.now) c.args.at 32 c.special_marks-marks.result c.special_marks-marks.ensures c.special_marks-marks.type_inv c.if-marks-eq0.false
