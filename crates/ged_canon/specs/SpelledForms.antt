-- The bytes of a form that stands in slices of a file and in what was made between them.
use Rattle.std.specs.Prelude.{◌++◌, ◌∷◌, [], List, take, drop}
use Rattle.ged_line.specs.Bytes.{Bytes}
use Rattle.ged_canon.specs.declared.spelled.KeptRun.{KeptRun}

-- what was made before each run of a file, and the run; behind the last run the rest of what was made
abbrev pub joined_runs : Bytes → List KeptRun → Bytes → Bytes
joined_runs file [] made = made
joined_runs file (run ∷ runs) made = take run.made made ++ (take run.length (drop run.start file) ++ joined_runs file runs (drop run.made made))
