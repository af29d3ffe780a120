use Rattle.std.proofs.Common.{codes, refl}
use Rattle.clap.specs.Words.{found_of}
use Rattle.ged_cmd.proofs.ClapLemmas.{first_found}
use Rattle.ged_cmd.proofs.words.same_request.Goals as goal

pub returns : goal.returns
returns c =
    let first = first_found (found_of c.args.matches.now) (codes "A") c.get_str.result c.get_str.ensures in
    let second = first_found (found_of c.args.matches.now) (codes "B") c.get_str-2.result c.get_str-2.ensures in
    rw (c.comparing.ensures, c.file_named-first.ensures, c.file_named-second.ensures, first, second, c.comparison_of.ensures.form, c.comparison_of.ensures.profile, c.comparison_of.ensures.edition) refl
