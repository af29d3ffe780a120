use Rattle.std.proofs.Common.{flat_map, take}
use Rattle.std.specs.Fmt.{HasWritten, IsPlainFormatter}
use Rattle.ged_cmd.specs.Telling.{next_text}
use Rattle.ged_cmd.proofs.meanings.MeaningsDisplay.fmt.Given as goal

-- those so far are written, behind the first
abbrev pub invariant-loop-meaning : goal.invariant-loop-meaning
invariant-loop-meaning g l =
    IsPlainFormatter l.initial.f → HasWritten g.W.Write.write_str_gives l.initial.f (flat_map next_text (take l.meaning-index l.others)) l.f
