use Rattle.std.proofs.Common.{codes, refl, ◌∙◌}
use Rattle.clap.specs.Words.{found_of}
use Rattle.clap.proofs.WalkLemmas.{raw_values-rows}
use Rattle.ged_cmd.proofs.digest_words.digests_asked.Goals as goal

pub returns : goal.returns
returns c =
    let files = c.get_strs.ensures ∙ raw_values-rows (found_of c.args.matches.now) (codes "FILE") in
    record { asked = rw (c.digests_of.ensures.asked, files, c.settings_of.ensures.profile, c.settings_of.ensures.edition) refl; once = c.digests_of.ensures.once }
