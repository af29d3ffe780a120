use Rattle.std.proofs.Common.{codes, refl}
use Rattle.clap.specs.Words.{found_of}
use Rattle.ged_cmd.proofs.ClapLemmas.{first_found}
use Rattle.ged_cmd.proofs.words.run_request.Goals as goal

pub returns : goal.returns
returns c =
    let file = first_found (found_of c.args.matches.now) (codes "FILE") c.get_str.result c.get_str.ensures in
    let into = first_found (found_of c.args.matches.now) (codes "output") c.get_str-2.result c.get_str-2.ensures in
    rw (file, into, c.file_named.ensures, c.file_named-2.ensures, c.settings_of.ensures.profile, c.settings_of.ensures.edition, ← c.is_flagged.ensures, ← c.in_ok-command_named.ensures) refl
