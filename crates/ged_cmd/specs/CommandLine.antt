-- The words that the program understands, as clap is told of them.
use Rattle.std.specs.Prelude.{Some, true, codes}
use Rattle.clap.specs.Words.{App, Rule, Text, new_app, new_rule, with_rule, with_subcommand}
use Rattle.clap.specs.Simple.{on_top}
use Rattle.clap.specs.declared.builder.action.ArgAction.TheVariants.{Append, SetTrue}

-- a flag `--name`
abbrev pub flag : Text → Rule
flag name = record (new_rule name) { long = Some name; action = Some SetTrue }

abbrev pub strict_flag : Rule
strict_flag = flag (codes "strict")

abbrev pub second_flag : Rule
second_flag = flag (codes "second")

abbrev pub explain_flag : Rule
explain_flag = flag (codes "explain")

abbrev pub keep_names_flag : Rule
keep_names_flag = flag (codes "keep-names")

-- `-o FILE` or `--output FILE`: 111 is the character o
abbrev pub output_option : Rule
output_option = record (new_rule (codes "output")) { long = Some (codes "output"); short = Some 111; value_names = 1 }

-- a command over one file, which may be left out
abbrev pub over_file : Text → App
over_file name = with_rule (new_app name) (new_rule (codes "FILE"))

abbrev pub lines : App
lines = with_rule (with_rule (over_file (codes "lines")) output_option) explain_flag

abbrev pub check : App
check = with_rule (with_rule (over_file (codes "check")) strict_flag) explain_flag

abbrev pub show : App
show = with_rule (with_rule (with_rule (over_file (codes "show")) strict_flag) output_option) explain_flag

abbrev pub canon : App
canon =
    with_rule (with_rule (with_rule (with_rule (with_rule (over_file (codes "canon")) strict_flag) second_flag) keep_names_flag) output_option)
    explain_flag

-- the first of two files, which may not be left out
abbrev pub first_file : Rule
first_file = record (new_rule (codes "A")) { required = true }

-- over two files, of which the second may be left out
abbrev pub over_two_files : App
over_two_files = with_rule (with_rule (new_app (codes "same")) first_file) (new_rule (codes "B"))

abbrev pub same : App
same = with_rule (with_rule (with_rule (with_rule over_two_files strict_flag) second_flag) keep_names_flag) explain_flag

-- the program without its commands, of which it needs one; it has a version, and so a flag that asks for it
abbrev pub bare_program : App
bare_program = on_top (λ top. record top { subcommand_required = true; has_version = true }) (new_app (codes "gedtool"))

-- about a fault, or about all where none is named
abbrev pub explain : App
explain = with_rule (new_app (codes "explain")) (new_rule (codes "FAULT"))

-- files, of which there is one at least
abbrev pub files : Rule
files = record (new_rule (codes "FILE")) { required = true; action = Some Append }

abbrev pub over_files : App
over_files = with_rule (new_app (codes "digest")) files

abbrev pub digest : App
digest = with_rule (with_rule (with_rule over_files strict_flag) second_flag) explain_flag

-- one of these seven commands
abbrev pub gedtool : App
gedtool = with_subcommand (with_subcommand (with_subcommand (with_subcommand (with_subcommand (with_subcommand (with_subcommand bare_program
    lines.top) check.top) show.top) canon.top) same.top) explain.top) digest.top
