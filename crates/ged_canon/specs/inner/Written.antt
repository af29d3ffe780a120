-- Nothing here need be believed: only private contracts and proofs cite it.
-- The bytes that an answer stands for.
use Rattle.std.specs.Prelude.{◌≡◌, ◌++◌, slice_range}
use Rattle.ged_line.specs.Bytes.{Bytes}
use Rattle.ged_canon.specs.declared.writer.answer.Answer.{Answer}
use Rattle.ged_canon.specs.SpelledForms.{joined_runs}

-- the bytes of an answer whose runs are of this file
abbrev pub written : Bytes → Answer → Bytes
written file answer = joined_runs file answer.pieced.runs.items answer.pieced.made.items ++ slice_range file answer.start answer.end

-- more bytes are appended to an answer
abbrev pub Appends : Bytes → Answer → Answer → Bytes → Type 0
Appends file old new more = written file new ≡ written file old ++ more
