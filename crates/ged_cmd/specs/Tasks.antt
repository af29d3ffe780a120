-- What the words of the command line ask for.
use Rattle.std.specs.Prelude.{Bool, false, Option, Some, None, List, [], ◌∷◌, codes, count_by, decimal, if◌then◌else◌, nat_lt, option_and_then, option_map}
use Rattle.std.specs.Option.{option_map_or}
use Rattle.std.specs.Str.{bytes_eq}
use Rattle.clap.specs.Words.{Row, Text, all_of, first_of, one_of, subcommand_of}
use Rattle.ged_tool.specs.declared.Profile.{Profile}
use Rattle.ged_tool.specs.declared.Profile.TheVariants as profile
use Rattle.ged_tool.specs.declared.Edition.{Edition}
use Rattle.ged_tool.specs.declared.Edition.TheVariants as edition
use Rattle.ged_tool.specs.declared.comparison.Form.{Form}
use Rattle.ged_tool.specs.declared.comparison.Form.TheVariants as form
use Rattle.ged_tool.specs.declared.runs.answer.Command.{Command}
use Rattle.ged_tool.specs.declared.runs.answer.Command.TheVariants.{Lines, Check, Show, Canon, Tidy}
use Rattle.ged_explain.specs.Names.{Named, named_faults}
use Rattle.ged_cmd.specs.CommandLine.{gedtool}

-- a command over one file, or over standard input where none is named, and the file that its answer goes into, or standard
-- output where none is named; or the comparison of a file with another, or with
-- standard input; or of standard input with a file; or what a fault means, or what all mean; or the
-- digests of files, of which one that is called `-` is standard input
pub data Task : Type 0 where
  run : Profile → Edition → Command → (file into : Option Text) → Task
  same : Form → Profile → Edition → Text → Option Text → Task
  input_same : Form → Profile → Edition → Text → Task
  explain : Option Named → Task
  digest : Profile → Edition → List Text → Task

-- the flag is set
abbrev pub is_set : Text → List Row → Bool
is_set flag rows = option_map_or (λ text. bytes_eq text (codes "true")) (one_of flag rows) false

abbrev pub profile_asked : List Row → Profile
profile_asked rows = if is_set (codes "strict") rows then profile.Strict else profile.Lenient

abbrev pub edition_asked : List Row → Edition
edition_asked rows = if is_set (codes "second") rows then edition.Second else edition.First

-- `canon`, which keeps the names of identifiers or gives them new ones
abbrev pub canon_keeping : (keeps_names : Bool) → Command
canon_keeping keeps_names = if keeps_names then Tidy else Canon

-- the command of a name; the flag asks `canon` to keep the names of identifiers
abbrev pub command_of : Text → (keeps_names : Bool) → Option Command
command_of name keeps_names =
    if bytes_eq name (codes "lines") then Some Lines else
    if bytes_eq name (codes "check") then Some Check else
    if bytes_eq name (codes "show") then Some Show else
    if bytes_eq name (codes "canon") then Some (canon_keeping keeps_names) else None

-- the word stands for standard input, or output
abbrev pub is_input : Text → Bool
is_input word = bytes_eq word (codes "-")

-- the file that a word names: none where the word is left out or is `-`, which both stand for standard input, or output
abbrev pub file_named : Option Text → Option Text
file_named None = None
file_named (Some word) = if is_input word then None else Some word

abbrev pub run_asked : Text → List Row → Option Task
run_asked name rows =
    option_map (λ command. run (profile_asked rows) (edition_asked rows) command (file_named (first_of (codes "FILE") rows))
    (file_named (first_of (codes "output") rows))) (command_of name (is_set (codes "keep-names") rows))

-- the form in which files are compared: identifiers count where their names are to be kept
abbrev pub form_keeping : (keeps_names : Bool) → Form
form_keeping keeps_names = if keeps_names then form.Tidy else form.Canonical

abbrev pub form_asked : List Row → Form
form_asked rows = form_keeping (is_set (codes "keep-names") rows)

-- the comparison of two files, of which one at most may be standard input
abbrev pub comparison : Form → Profile → Edition → (first second : Option Text) → Option Task
comparison form profile edition (Some first) second = Some (same form profile edition first second)
comparison form profile edition None (Some second) = Some (input_same form profile edition second)
comparison form profile edition None None = None

abbrev pub same_asked : List Row → Option Task
same_asked rows =
    comparison (form_asked rows) (profile_asked rows) (edition_asked rows) (file_named (first_of (codes "A") rows))
    (file_named (first_of (codes "B") rows))

-- the first of some faults that a word is the name or the number of
abbrev pub called : Text → List Named → Option Named
called word [] = None
called word (named ∷ others) =
    if bytes_eq named.name word then Some named else
    if bytes_eq (decimal named.number) word then Some named else called word others

-- what is explained for a word; nothing where it is of no fault
abbrev pub explanation : Option Text → Option Task
explanation None = Some (explain None)
explanation (Some word) = option_map (λ named. explain (Some named)) (called word named_faults)

abbrev pub explain_asked : List Row → Option Task
explain_asked rows = explanation (first_of (codes "FAULT") rows)

-- the digests of files, of which one at most may be standard input
abbrev pub digests : Profile → Edition → List Text → Option Task
digests profile edition files = if nat_lt 1 (count_by is_input files) then None else Some (digest profile edition files)

abbrev pub digest_asked : List Row → Option Task
digest_asked rows = option_and_then (digests (profile_asked rows) (edition_asked rows)) (all_of (codes "FILE") rows)

-- what a subcommand asks for that has one answer, by its name and what was found for its flags and files
abbrev pub single_asked : Text → List Row → Option Task
single_asked name rows =
    if bytes_eq name (codes "same") then same_asked rows else
    if bytes_eq name (codes "explain") then explain_asked rows else run_asked name rows

-- what any subcommand asks for
abbrev pub task_of_match : Text × List Row → Option Task
task_of_match (name, rows) = if bytes_eq name (codes "digest") then digest_asked rows else single_asked name rows

-- what the words ask for, the first of which is the program's name
abbrev pub asked : List Text → Option Task
asked words = option_and_then task_of_match (subcommand_of gedtool words)

-- whether the words ask for explanations, which change nothing of what is done
abbrev pub explains : List Text → Bool
explains words = option_map_or (λ (match : Text × List Row). is_set (codes "explain") match.1) (subcommand_of gedtool words) false
