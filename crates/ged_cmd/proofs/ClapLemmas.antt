-- What clap's contracts say of the program's command line.
use Rattle.std.proofs.Common.{◌≡◌, ◌∙◌, ◌||◌, ◌+◌, ◌<◌, ℕ, Bool, true, false, List, [], Option, Some, None, ap, ap₂, refl, sym, subst, codes, drop, length, option_map, slice_index_or, unwrap_or}
use Rattle.std.proofs.lemmas.List.{at_drop_more}
use Rattle.std.specs.Prelude.{IfErr, IsErrAnd, Result, Ok, Err}
use Rattle.std.specs.Str.{bytes_eq}
use Rattle.std.specs.Option.{option_map_or}
use Rattle.clap.specs.Words.{App, Rule, Text, AddsArg, AddsSubcommand, app_of, is_simple, rows_of, with_rule, with_subcommand}
use Rattle.clap.specs.Faults.{is_simple_and_free}
use Rattle.clap.proofs.OnLiterals.{clap_on_literals}
use Rattle.clap.specs.declared.builder.arg.Arg.{Arg}
use Rattle.clap.specs.declared.builder.command.Command.{Command}
use Rattle.clap.specs.declared.builder.command.Command.TheViews.{out-Command as fields_of}
use Rattle.std.proofs.lemmas.Slice.Eq.{bytes_eq-Decides}
use Rattle.std.specs.Str.Parse.{ParsesBool}
use Rattle.std.specs.Borrow.{Bor}
use Rattle.clap.specs.Matches.{ReadsOne, first_value, one_text}
use Rattle.clap.specs.Words.{HasMatchesOf, fault_of, first_of, subcommand_of, subcommand_rows_of}
use Rattle.clap.specs.Kinds.{HasKind}
use Rattle.clap.specs.declared.error.Error.{Error}
use Rattle.clap.specs.declared.parser.matches.ArgMatches.{ArgMatches}
use Rattle.clap.proofs.WalkLemmas.{first_value-rows, one_text-rows}
use Rattle.clap.specs.declared.parser.matches.Found.{Found}
use Rattle.ged_cmd.specs.CommandLine.{gedtool}
use Rattle.ged_cmd.specs.declared.arguments.Argument.{Argument}
use Rattle.ged_cmd.specs.declared.grammar.Listed.{Listed}
use Rattle.ged_cmd.specs.inner.CommandLine.{IsArg, IsCommand, app_listed, rule_given, with_arguments, with_commands}
use Rattle.ged_cmd.specs.Tasks.{is_set}

-- a command with one more argument
pub with_arg : (app : App) (rule : Rule) (old new : Command) (arg : Arg) → IsCommand app old → IsArg rule arg → AddsArg old arg new
    → IsCommand (with_rule app rule) new
with_arg app rule old new arg command is_arg added = (
  added.shape is_arg.1 ∙ ap₂ with_rule command.0 is_arg.0,
  added.globals ∙ ap₂ (λ x y. x || y) command.1 is_arg.1,
)

-- a command with one more subcommand
pub with_one : (app inner : App) (old sub new : Command) → IsCommand app old → IsCommand inner sub → AddsSubcommand old sub new
    → IsCommand (with_subcommand app inner.top) new
with_one app inner old sub new command is_sub added = (
  added.shape is_sub.1 ∙ ap₂ with_subcommand command.0 (ap (λ (a : App). a.top) is_sub.0),
  added.globals ∙ ap₂ (λ x y. x || y) command.1 is_sub.1,
)

-- a command with the argument at a place of a list, and those after it
pub one_argument : (old new : Command) (arg : Arg) (given : List Argument) (i : ℕ) (d : Argument) (whole : App) → i < length given
    → (with_arguments (app_of old) (drop i given) ≡ whole) × ((fields_of old).has_globals ≡ false)
    → IsArg (rule_given (slice_index_or given i d)) arg → AddsArg old arg new
    → (with_arguments (app_of new) (drop (i + 1) given) ≡ whole) × ((fields_of new).has_globals ≡ false)
one_argument old new arg given i d whole within before is_arg added =
    let (is, local) = with_arg (app_of old) (rule_given (slice_index_or given i d)) old new arg (refl, before.1) is_arg added in
    (rw is (sym (at_drop_more (with_arguments (app_of old)) given i d within) ∙ before.0), local)

-- a program with the command at a place of the table, and those after it
pub one_command : (old sub new : Command) (commands : List Listed) (i : ℕ) (d : Listed) (whole : App) → i < length commands
    → (with_commands (app_of old) (drop i commands) ≡ whole) × ((fields_of old).has_globals ≡ false)
    → IsCommand (app_listed (slice_index_or commands i d)) sub → AddsSubcommand old sub new
    → (with_commands (app_of new) (drop (i + 1) commands) ≡ whole) × ((fields_of new).has_globals ≡ false)
one_command old sub new commands i d whole within before is_sub added =
    let (is, local) = with_one (app_of old) (app_listed (slice_index_or commands i d)) old sub new (refl, before.1) is_sub added in
    (rw is (sym (at_drop_more (with_commands (app_of old)) commands i d within) ∙ before.0), local)

pub gedtool_is_simple : is_simple gedtool ≡ true
unfolding clap_on_literals
gedtool_is_simple = refl

pub gedtool_is_free : is_simple_and_free gedtool ≡ true
unfolding clap_on_literals
gedtool_is_free = refl

-- what was found first for a file, by the rows
pub first_found : (f : Found) (id : Text) (got : Option (Bor Text)) → option_map (λ s. s.now) got ≡ first_value f id
    → first_of id (rows_of f) ≡ option_map (λ s. s.now) got
first_found f id got e = sym (e ∙ first_value-rows f id)

-- what `get_one` reads of a flag
pub flag_read : (E : Type 0) (f : Found) (flag : Text) (got : Option Bool) → (one_text f flag ≡ None → got ≡ None)
    → ((t : Text) → one_text f flag ≡ Some t → ReadsOne (ParsesBool {E = E}) t got)
    → unwrap_or got false ≡ is_set flag (rows_of f)
flag_read E f flag got none value =
    go (one_text f flag) refl got none value ∙ ap (λ o. option_map_or (λ text. bytes_eq text (codes "true")) o false) (one_text-rows f flag)
  where
    no : (t : Text) → ((t ≡ codes "true") → ⊥) → (b : Bool) → bytes_eq t (codes "true") ≡ b → false ≡ bytes_eq t (codes "true")
    no t other true same = absurd (other ((bytes_eq-Decides t (codes "true")).0 same))
    no t other false differs = sym differs

    parsed : (t : Text) (got : Option Bool) → ReadsOne (ParsesBool {E = E}) t got → unwrap_or got false ≡ bytes_eq t (codes "true")
    parsed t (Some true) is = rw is refl
    parsed t (Some false) is = rw is refl
    parsed t None (e, neither) = no t neither.0 (bytes_eq t (codes "true")) refl

    go : (o : Option Text) → one_text f flag ≡ o → (got : Option Bool) → (one_text f flag ≡ None → got ≡ None)
        → ((t : Text) → one_text f flag ≡ Some t → ReadsOne (ParsesBool {E = E}) t got)
        → unwrap_or got false ≡ option_map_or (λ text. bytes_eq text (codes "true")) o false
    go None is got none value = rw (none is) refl
    go (Some t) is got none value = parsed t got (value t is)

-- what a parse of the program's words says, where it gave matches and where it gave an error
pub no_fault : (command : Command) (words : List Text) → IsCommand gedtool command
    → (is_simple_and_free (app_of command) ≡ true → fault_of (app_of command) words ≡ []) → fault_of gedtool words ≡ []
no_fault command words is h = ap (λ a. fault_of a words) (sym is.0) ∙ h (ap is_simple_and_free is.0 ∙ gedtool_is_free)

pub has_kind : (command : Command) (words : List Text) (e : Error) → IsCommand gedtool command
    → (is_simple_and_free (app_of command) ≡ true → HasKind (fault_of (app_of command) words) e) → HasKind (fault_of gedtool words) e
has_kind command words e is h = subst (λ a. HasKind (fault_of a words) e) is.0 (h (ap is_simple_and_free is.0 ∙ gedtool_is_free))

pub met_subcommand : (command : Command) (words : List Text) (matches : ArgMatches) → IsCommand gedtool command
    → HasMatchesOf (app_of command) words matches → subcommand_rows_of matches ≡ subcommand_of gedtool words
met_subcommand command words matches is h =
    (h (ap is_simple is.0 ∙ gedtool_is_simple)).1 ∙ ap (λ a. subcommand_of a words) is.0

module _ {T E : Type 0} where
  -- what holds of an error, of a result that is that error
  pub err_is : (r : Result T E) (e : E) (P : E → Type 0) → IsErrAnd r (λ x. x ≡ e) → P e → IfErr r P
  err_is (Ok x) e P is h = tt
  err_is (Err x) e P is h = subst P (sym is) h
