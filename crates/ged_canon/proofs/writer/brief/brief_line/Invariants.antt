use Rattle.std.proofs.Common.{◌≡◌, ◌++◌, List, length, string_bytes}
use Rattle.ged_line.specs.Bytes.{Bytes}
use Rattle.ged_value.specs.Words.{words_of}
use Rattle.ged_value.specs.Left.{words_left}
use Rattle.ged_canon.proofs.writer.BriefWords.{MadeOf, left}
use Rattle.ged_canon.proofs.writer.brief.brief_line.Given as goal

-- the line is made of what is left of the words so far, which stand before the others
abbrev pub invariant-loop-rest : goal.invariant-loop-rest
invariant-loop-rest l =
    (words : List Bytes) × MadeOf (string_bytes l.brief) l.is_first (left l.left_out.calendar l.left_out.zeros words) × (words_of l.line ≡ words ++ words_left l.rest)

abbrev pub decreases-loop-rest : goal.decreases-loop-rest
decreases-loop-rest l = length (words_left l.rest)
