use Rattle.std.proofs.Common.{length, ◌++◌}
use denote.Text.{Utf8}
use denote.Shadow.{shadow}
use Rattle.ged_line.specs.inner.Respelling.{text_before}
use Rattle.ged_line.proofs.file.Respelling.{IsRespelledTo}
use Rattle.ged_line.proofs.file.respell.respell_text.Given as goal

-- the lines so far are respelled, or pending
abbrev pub invariant-loop-rest : goal.invariant-loop-rest
invariant-loop-rest l = shadow (Utf8 l.rest) × IsRespelledTo l.text l.line l.rest l.behind l.answer.pending (text_before (l.text ++ l.behind) l.fn.answer) l.answer.text

abbrev pub decreases-loop-rest : goal.decreases-loop-rest
decreases-loop-rest l = length l.rest
