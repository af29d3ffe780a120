use Rattle.std.proofs.Common.{sym, arith}
use Rattle.std.proofs.lemmas.Bool.Decides.{nat_tests}
use Rattle.std.proofs.lemmas.List.{length-map}
use Rattle.ged_value.specs.inner.Texts.{texts}
use Rattle.ged_value.proofs.ExactLaws.{few_or_many}
use Rattle.ged_value.proofs.exact.exact_at.Goals as goal

pub returns-in_default : goal.returns-in_default
returns-in_default c = sym (few_or_many (texts c.args.words.now) (simp length-map (grind (arith, nat_tests))))
