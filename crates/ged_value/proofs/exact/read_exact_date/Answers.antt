use Rattle.std.proofs.Common.{◌∙◌, ap}
use Rattle.ged_value.specs.Exact.{SpellsExact}
use Rattle.ged_value.specs.inner.ExactReading.{exact_at}
use Rattle.ged_value.specs.ExactViews.{exact_parts}
use Rattle.ged_value.specs.inner.Texts.{texts}
use Rattle.ged_value.proofs.ExactLaws.{exact_again, exact_found, exact_plainly}
use Rattle.ged_value.proofs.TextLaws.{reads_text, too_many}
use Rattle.ged_value.proofs.exact.read_exact_date.Goals as goal

pub returns-in-Some : goal.returns-in-Some
returns-in-Some c =
    reads_text exact_parts SpellsExact exact_at exact_again exact_found exact_plainly c.args.text.now c.exact_at.result
    (c.exact_at.ensures ∙ ap exact_at (ap texts c.as_slice.ensures ∙ c.in-Some.ensures))

pub returns-in-None : goal.returns-in-None
returns-in-None c = too_many exact_parts SpellsExact exact_at exact_again exact_found exact_plainly c.args.text.now c.in-None.ensures
