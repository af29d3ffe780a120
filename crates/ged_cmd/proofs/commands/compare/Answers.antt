use Rattle.ged_cmd.proofs.FlushLemmas.{flushed_compared}
use Rattle.ged_cmd.proofs.commands.compare.Goals as goal

pub returns : goal.returns
returns g c =
    flushed_compared _ _ _ _ _ _ _ _ _ _ c.run_same_told-told.result.outcome c.flushed_told.result.outcome (record {
      bytes = c.run_same_told-told.ensures.bytes.run;
      first_failed = c.run_same_told-told.ensures.devices.first;
      second_failed = c.run_same_told-told.ensures.devices.second;
      write_failed = c.run_same_told-told.ensures.devices.writer;
    }) c.flushed_told.ensures
