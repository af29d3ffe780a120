use Rattle.ged_tool.proofs.runs.two_files.run_same_as.Goals as goal

pub returns : goal.returns
returns g c = record {
  devices = c.run_same_told-told.ensures.devices;
  bytes = c.run_same_told-told.ensures.bytes.run;
  fate = c.run_same_told-told.ensures.fate;
}
