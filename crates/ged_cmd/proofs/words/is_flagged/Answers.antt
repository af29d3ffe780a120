use Rattle.std.proofs.Common.{◌∙◌}
use Rattle.clap.specs.Words.{found_of}
use Rattle.ged_cmd.proofs.ClapLemmas.{flag_read}
use Rattle.ged_cmd.proofs.words.is_flagged.Goals as goal

pub returns : goal.returns
returns c = c.unwrap_or.ensures ∙ flag_read _ (found_of c.args.matches.now) c.args.flag.now c.get_one.result c.get_one.ensures.none c.get_one.ensures.value
