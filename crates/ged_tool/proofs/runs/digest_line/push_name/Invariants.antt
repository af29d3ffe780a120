use Rattle.std.proofs.Common.{◌≡◌, ◌++◌, drop}
use Rattle.ged_tool.specs.DigestRun.{name_on_line}
use Rattle.ged_tool.proofs.runs.digest_line.push_name.Given as goal

abbrev pub invariant-loop-byte : goal.invariant-loop-byte
invariant-loop-byte l =
    l.line.items ++ name_on_line (drop l.byte-index l.name) ≡ l.fn.line.items ++ name_on_line l.name
