use Rattle.ged_tool.proofs.laws.Comparing.{one_comparison, same_as_itself, same_both_ways, same_onward, same_by_canon}
use Rattle.ged_tool.proofs.laws.same_is_an_equivalence.Goals as goal

pub returns : goal.returns
returns c = record { one_answer = one_comparison; reflexive = same_as_itself; symmetric = same_both_ways; transitive = same_onward; by_canon = same_by_canon }
