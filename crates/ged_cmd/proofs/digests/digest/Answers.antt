use Rattle.ged_cmd.proofs.FlushLemmas.{flushed_answered}
use Rattle.ged_cmd.proofs.digests.digest.Goals as goal

pub returns : goal.returns
returns g c =
    flushed_answered _ _ _ _ _ _ _ _ c.run_digest-told.result.outcome c.flushed_told.result.outcome (record {
      bytes = c.run_digest-told.ensures.bytes.run;
      read_failed = c.run_digest-told.ensures.devices.reader;
      write_failed = c.run_digest-told.ensures.devices.writer;
    }) c.flushed_told.ensures
