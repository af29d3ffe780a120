use Rattle.ged_tool.proofs.calls.Forms.{compared_to_copy}
use Rattle.ged_tool.proofs.calls.same.is_as_its_copy.Goals as goal
use Rattle.ged_tool.proofs.calls.same.is_as_its_copy.Goals.{in-Ok, in-Err}

pub returns-clause-compared : goal.returns-clause-compared
returns-clause-compared c = elim c.match-accept_file.branch [
  | in-Ok w ↦ rw w.result-is (compared_to_copy _ _ _ _ _ w.in-Ok.ensures.accepted)
  | in-Err w ↦ rw w.result-is tt
]
