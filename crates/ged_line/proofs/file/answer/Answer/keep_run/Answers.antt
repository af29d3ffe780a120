use Rattle.std.proofs.Common.{rules}
use Rattle.ged_line.proofs.file.Answering.{joined-closed}
use Rattle.ged_line.proofs.file.answer.Answer.keep_run.Goals as goal

pub returns-clause-text : goal.returns-clause-text
returns-clause-text c =
    joined-closed c.self.inside.parts.items c.push.new.self.items _ c.self.inside.made.items c.replace-made.new.dest.items c.args.self.now.text _ c.in_ok-push.ensures.items (search rules) (search rules) (search rules) (search rules)
