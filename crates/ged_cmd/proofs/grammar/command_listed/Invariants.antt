use Rattle.std.proofs.Common.{◌≡◌, drop, false}
use Rattle.clap.specs.Words.{app_of}
use Rattle.clap.specs.declared.builder.command.Command.TheViews.{out-Command as fields_of}
use Rattle.ged_cmd.specs.inner.CommandLine.{app_listed, with_arguments}
use Rattle.ged_cmd.proofs.grammar.command_listed.Given as goal

-- with the arguments that are left the command is the whole one
abbrev pub invariant-loop-argument : goal.invariant-loop-argument
invariant-loop-argument l =
    (with_arguments (app_of l.command) (drop l.argument-index l.listed.arguments.now) ≡ app_listed l.listed)
    × ((fields_of l.command).has_globals ≡ false)
