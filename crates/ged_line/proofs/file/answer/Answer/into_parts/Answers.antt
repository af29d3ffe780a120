use Rattle.std.proofs.Common.{rules}
use Rattle.ged_line.proofs.file.Answering.{joined-all}
use Rattle.ged_line.proofs.file.answer.Answer.into_parts.Goals as goal

pub returns : goal.returns
returns c = joined-all c.self.inside.parts.items c.push.new.self.items _ c.self.inside.made.items c.args.self.text c.args.self.pending c.in_ok-push.ensures.items (search rules) (search rules) (search rules)
