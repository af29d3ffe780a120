use Rattle.std.proofs.Common.{◌∙◌, ap, not}
use Rattle.std.specs.Str.{bytes_eq}
use Rattle.ged_canon.proofs.writer.BriefTests.{trimmed_differs}
use Rattle.ged_canon.proofs.writer.brief.has_leading_zero.Goals as goal

pub returns : goal.returns
returns c = c.ne.ensures ∙ ap (λ trimmed. not (bytes_eq trimmed c.args.word.now)) c.trim_zeros.ensures ∙ trimmed_differs c.args.word.now
