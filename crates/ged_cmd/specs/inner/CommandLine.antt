-- Nothing here need be believed: only private contracts and proofs cite it.
use Rattle.std.specs.Prelude.{◌≡◌, List, codes, false, fold}
use Rattle.clap.specs.Words.{App, Rule, app_of, new_app, new_rule, rule_of, with_rule, with_subcommand}
use Rattle.clap.specs.declared.builder.arg.Arg.{Arg}
use Rattle.clap.specs.declared.builder.command.Command.TheViews.{out-Command as fields_of}
use Rattle.clap.specs.declared.builder.command.Command.{Command}
use Rattle.ged_cmd.specs.declared.arguments.Argument.{Argument}
use Rattle.ged_cmd.specs.declared.arguments.Argument.TheVariants as argument
use Rattle.ged_cmd.specs.declared.grammar.Listed.{Listed}
use Rattle.ged_cmd.specs.CommandLine.{explain_flag, files, first_file, keep_names_flag, output_option, second_flag, strict_flag}

-- the argument has this rule, and stands for one command alone
abbrev pub IsArg : Rule → Arg → Type 0
IsArg rule arg = (rule_of arg ≡ rule) × (arg.global ≡ false)

-- the command, as clap keeps it, is this one
abbrev pub IsCommand : App → Command → Type 0
IsCommand app command = (app_of command ≡ app) × ((fields_of command).has_globals ≡ false)

-- the rule of an argument
abbrev pub rule_given : Argument → Rule
rule_given argument.File = new_rule (codes "FILE")
rule_given argument.FirstFile = first_file
rule_given argument.SecondFile = new_rule (codes "B")
rule_given argument.Files = files
rule_given argument.Fault = new_rule (codes "FAULT")
rule_given argument.Strict = strict_flag
rule_given argument.SecondEdition = second_flag
rule_given argument.KeepNames = keep_names_flag
rule_given argument.Output = output_option
rule_given argument.Explain = explain_flag

-- a command with more arguments
abbrev pub with_arguments : App → List Argument → App
with_arguments = fold (λ app given. with_rule app (rule_given given))

-- a command of the table
abbrev pub app_listed : Listed → App
app_listed listed = with_arguments (new_app listed.name.now) listed.arguments.now

-- a program with more commands of the table
abbrev pub with_commands : App → List Listed → App
with_commands = fold (λ app listed. with_subcommand app (app_listed listed).top)
