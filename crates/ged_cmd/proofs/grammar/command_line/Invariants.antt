use Rattle.std.proofs.Common.{◌≡◌, drop, false}
use Rattle.clap.specs.Words.{app_of}
use Rattle.clap.specs.declared.builder.command.Command.TheViews.{out-Command as fields_of}
use Rattle.ged_cmd.specs.inner.CommandLine.{with_commands}
use Rattle.ged_cmd.specs.CommandLine.{gedtool}
use Rattle.ged_cmd.proofs.grammar.command_line.Given as goal

-- with the commands that are left the program is the whole one
abbrev pub invariant-loop-listed : goal.invariant-loop-listed
invariant-loop-listed l = (with_commands (app_of l.program) (drop l.listed-index l.listed-items) ≡ gedtool)
    × ((fields_of l.program).has_globals ≡ false)
