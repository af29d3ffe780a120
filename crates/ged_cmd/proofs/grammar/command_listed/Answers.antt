use Rattle.ged_cmd.proofs.ClapLemmas.{one_argument}
use Rattle.ged_cmd.proofs.grammar.command_listed.Goals as goal

pub loop-argument-preserved : goal.loop-argument-preserved
loop-argument-preserved c =
    one_argument _ _ _ _ _ _ _ c.loop-argument-test.true c.loop-argument.invariant c.told_argument.ensures c.in_ok-command.ensures
