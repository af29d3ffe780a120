use Rattle.ged_cmd.proofs.commands.answer.Goals as goal

pub returns : goal.returns
returns g c = record {
  answered = record {
    bytes = c.run_told.ensures.bytes.run;
    read_failed = c.run_told.ensures.devices.reader;
    write_failed = c.run_told.ensures.devices.writer;
  };
  fate = c.run_told.ensures.fate;
}
