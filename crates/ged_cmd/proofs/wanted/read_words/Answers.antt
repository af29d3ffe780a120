use Rattle.std.proofs.Common.{map, string_bytes}
use Rattle.ged_cmd.proofs.ClapLemmas.{err_is, has_kind, met_subcommand, no_fault}
use Rattle.ged_cmd.proofs.wanted.read_words.Goals as goal

pub returns-in_err-matches-clause-refused : goal.returns-in_err-matches-clause-refused
returns-in_err-matches-clause-refused c =
    err_is c.from_residual-in_err-matches.result c.in_err-matches.field-0.0 _ c.from_residual-in_err-matches.ensures.1
    (has_kind c.in_ok-command_line.field-0 (map string_bytes c.args.words.now) c.in_err-matches.field-0.0 c.in_ok-command_line.ensures c.in_err-matches.ensures.kinds)

pub returns-clause-no_mistake : goal.returns-clause-no_mistake
returns-clause-no_mistake c = no_fault c.in_ok-command_line.field-0 (map string_bytes c.args.words.now) c.in_ok-command_line.ensures c.in_ok-matches.ensures.kinds

pub returns-clause-matched : goal.returns-clause-matched
returns-clause-matched c =
    met_subcommand c.in_ok-command_line.field-0 (map string_bytes c.args.words.now) c.in_ok-matches.matches c.in_ok-command_line.ensures c.in_ok-matches.ensures.matches
