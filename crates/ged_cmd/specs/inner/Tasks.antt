-- Nothing here need be believed: only private contracts and proofs cite it.
use Rattle.std.specs.Prelude.{◌≤◌, List, Option, Some, None, codes, count_by, if◌then◌else◌, map, option_map}
use Rattle.std.specs.Borrow.{Bor}
use Rattle.std.specs.Option.{option_copied}
use Rattle.std.specs.Str.{bytes_eq}
use Rattle.ged_explain.specs.Names.{as_named}
use Rattle.ged_faults.specs.declared.faults.Which.{Which}
use Rattle.ged_faults.specs.declared.faults.Which.TheVariants.{First, Second}
use Rattle.clap.specs.Words.{Row, Text}
use Rattle.ged_tool.specs.Settings.{profile_of, edition_of}
use Rattle.ged_cmd.specs.declared.words.Request.{Request}
use Rattle.ged_cmd.specs.declared.words.Request.TheVariants.{Explain, Run, Same, SameInput}
use Rattle.ged_cmd.specs.declared.wanted.Mistake.{Mistake}
use Rattle.ged_cmd.specs.declared.wanted.Mistake.TheVariants as mistake
use Rattle.ged_cmd.specs.declared.wanted.Wanted.{Wanted}
use Rattle.ged_cmd.specs.declared.wanted.Wanted.TheVariants as wanted
use Rattle.ged_cmd.specs.declared.digest_words.Digests.{Digests}
use Rattle.ged_cmd.specs.Tasks.{Task, digest, explain, input_same, is_input, run, same}

-- a request of the program, as a task
abbrev pub task_of : Request → Task
task_of (Run command settings file into) =
    run (profile_of settings) (edition_of settings) command (option_map (λ name. name.now) file) (option_map (λ name. name.now) into)
task_of (Same comparison first second) =
    same comparison.form (profile_of comparison.settings) (edition_of comparison.settings) first.now (option_map (λ name. name.now) second)
task_of (SameInput comparison second) =
    input_same comparison.form (profile_of comparison.settings) (edition_of comparison.settings) second.now
task_of (Explain meaning) = explain (option_map as_named (option_copied meaning))

-- the file that a fault is told of, which is the first of two where none is named; none where it is standard input
abbrev pub file_with_fault : Task → Option Which → Option Text
file_with_fault (run profile edition command file into) which = file
file_with_fault (same form profile edition first second) (Some Second) = second
file_with_fault (same form profile edition first second) (Some First) = Some first
file_with_fault (same form profile edition first second) None = Some first
file_with_fault (input_same form profile edition second) (Some Second) = Some second
file_with_fault (input_same form profile edition second) (Some First) = None
file_with_fault (input_same form profile edition second) None = None
file_with_fault (explain named) which = None
file_with_fault (digest profile edition files) which = None

-- the file that the answer goes into, where one is named
abbrev pub file_written : Task → Option Text
file_written (run profile edition command file into) = into
file_written (same form profile edition first second) = None
file_written (input_same form profile edition second) = None
file_written (explain named) = None
file_written (digest profile edition files) = None

-- a file's name, or that of the stream where none is named
abbrev pub name_or : Option Text → Text → Text
name_or None stream = stream
name_or (Some name) stream = name

-- the texts of names
abbrev pub names_of : List (Bor Text) → List Text
names_of names = map (λ name. name.now) names

-- digests that are asked for, as a task
abbrev pub digests_task : Digests → Task
digests_task digests = digest (profile_of digests.settings) (edition_of digests.settings) (names_of digests.files.now)

-- what is wanted, as a task
abbrev pub wanted_task : Wanted → Task
wanted_task (wanted.Request request) = task_of request
wanted_task (wanted.Digests digests) = digests_task digests

-- standard input is read once at most
abbrev pub IsReadOnce : Wanted → Type 0
IsReadOnce (wanted.Request request) = Unit {0}
IsReadOnce (wanted.Digests digests) = count_by is_input (names_of digests.files.now) ≤ 1

-- what is wrong with the words of a subcommand that ask for nothing
abbrev pub mistake_in : Option (Text × List Row) → Mistake
mistake_in None = mistake.TwoInputs
mistake_in (Some (name, rows)) =
    if bytes_eq name (codes "explain") then mistake.NoFault else
    if bytes_eq name (codes "digest") then mistake.InputTwice else mistake.TwoInputs
