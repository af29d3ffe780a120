use Rattle.std.proofs.Common.{◌≡◌, map, drop}
use Rattle.ged_explain.specs.Names.{as_named}
use Rattle.ged_cmd.specs.Tasks.{called}
use Rattle.ged_cmd.proofs.meanings.meaning_called.Given as goal

abbrev pub invariant-loop-meaning : goal.invariant-loop-meaning
invariant-loop-meaning l =
    called l.word (map as_named (drop l.meaning-index l.among)) ≡ called l.word (map as_named l.among)
