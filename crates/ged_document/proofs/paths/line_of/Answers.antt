use Rattle.std.proofs.Common.{◌∙◌}
use Rattle.ged_document.proofs.Leading.{leads_line, leads_nowhere}
use Rattle.ged_document.proofs.paths.line_of.Goals as goal

pub returns-clause-found : goal.returns-clause-found
returns-clause-found c = λ place h. c.find_line.ensures ∙ leads_line 1 h

pub returns-clause-none : goal.returns-clause-none
returns-clause-none c = λ h. c.find_line.ensures ∙ leads_nowhere 1 c.args.document.now c.args.path.now h
