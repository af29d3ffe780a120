use Rattle.memchr.specs.Find.{Passes, is_byte2}
use Rattle.ged_line.specs.Bytes.{carriage_return, line_feed}
use Rattle.ged_line.proofs.bytes.LineEnds.{none_marked, first_marked}
use Rattle.ged_line.proofs.bytes.line_ends.end_in_run.Goals as goal

pub returns-then-ends-eq0 : goal.returns-then-ends-eq0
returns-then-ends-eq0 c =
    none_marked (Passes (is_byte2 carriage_return line_feed) c.args.bytes.now) c.args.at 32 c.marks-ends.result c.marks-ends.ensures c.if-ends-eq0.true

pub returns : goal.returns
returns c =
    first_marked (Passes (is_byte2 carriage_return line_feed) c.args.bytes.now) c.args.at 32 c.marks-ends.result c.marks-ends.ensures c.marks-ends.type_inv c.if-ends-eq0.false
