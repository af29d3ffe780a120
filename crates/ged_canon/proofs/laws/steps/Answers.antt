use Rattle.ged_canon.proofs.theory.Undone.{step_back}
use Rattle.ged_canon.proofs.theory.Keeps.{step_resolved, step_checked}
use Rattle.ged_canon.proofs.theory.Noticed.{step_no_notice}
use Rattle.ged_canon.proofs.laws.steps.Goals as goal

pub returns : goal.returns
returns c = record { undone = step_back; resolved = step_resolved; checked = step_checked; no_notice = step_no_notice }
