use Rattle.ged_cmd.proofs.ClapLemmas.{one_command}
use Rattle.ged_cmd.proofs.grammar.command_line.Goals as goal

pub loop-listed-preserved : goal.loop-listed-preserved
loop-listed-preserved c =
    one_command _ _ _ _ _ _ _ c.loop-listed-test.true c.loop-listed.invariant c.in_ok-command.ensures c.in_ok-program-2.ensures
