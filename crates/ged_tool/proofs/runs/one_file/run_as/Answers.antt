use Rattle.ged_tool.proofs.runs.one_file.run_as.Goals as goal

pub returns : goal.returns
returns g c = record {
  devices = c.run_told-told.ensures.devices;
  bytes = c.run_told-told.ensures.bytes.run;
  fate = c.run_told-told.ensures.fate;
}
