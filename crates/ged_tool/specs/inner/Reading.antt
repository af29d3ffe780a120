-- Nothing here need be believed: only private contracts and proofs cite it.
-- What has come of a file while it is read; only private functions cite this.
use Rattle.std.specs.Prelude.{◌++◌, take}
use Rattle.ged_line.specs.Bytes.{Bytes}
use Rattle.ged_tool.specs.declared.runs.whole_file.WholeFile.{WholeFile}

-- so many bytes of the file that was read before it, and behind them those that are kept
abbrev pub came_of : WholeFile → Bytes
came_of file = take file.shared file.before.now ++ file.bytes.items
