use Rattle.std.proofs.Common.{◌≡◌, map, drop}
use Rattle.ged_explain.specs.Names.{as_named, with_number}
use Rattle.ged_explain.proofs.faults.find_numbered.Given as goal

abbrev pub invariant-loop-meaning : goal.invariant-loop-meaning
invariant-loop-meaning l =
    with_number l.number (map as_named (drop l.meaning-index l.among)) ≡ with_number l.number (map as_named l.among)
