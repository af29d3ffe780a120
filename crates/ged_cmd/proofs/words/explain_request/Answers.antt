use Rattle.std.proofs.Common.{codes, refl}
use Rattle.clap.specs.Words.{found_of}
use Rattle.ged_cmd.proofs.ClapLemmas.{first_found}
use Rattle.ged_cmd.proofs.words.explain_request.Goals as goal

pub returns : goal.returns
returns c =
    let word = first_found (found_of c.args.matches.now) (codes "FAULT") c.get_str.result c.get_str.ensures in
    rw (c.explanation.ensures, word) refl
