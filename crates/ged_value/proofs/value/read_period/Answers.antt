use Rattle.std.proofs.Common.{◌∙◌, ap}
use Rattle.ged_value.specs.Values.{SpellsPeriod}
use Rattle.ged_value.specs.inner.ValueReading.{period_at}
use Rattle.ged_value.specs.ValueViews.{period_parts}
use Rattle.ged_value.specs.inner.Texts.{texts}
use Rattle.ged_value.proofs.ValueLaws.{period_again, period_found}
use Rattle.ged_value.proofs.TextLaws.{reads_text, too_many, period_plainly}
use Rattle.ged_value.proofs.value.read_period.Goals as goal

pub returns-in_err-words_of : goal.returns-in_err-words_of
returns-in_err-words_of c =
    let many = c.in_err-words_of.ensures in
    rw c.from_residual.ensures (too_many period_parts SpellsPeriod period_at period_again period_found period_plainly c.args.text.now many)

pub returns : goal.returns
returns c =
    let words = c.in_ok-words_of.ensures in
    reads_text period_parts SpellsPeriod period_at period_again period_found period_plainly c.args.text.now c.period_at.result
    (c.period_at.ensures ∙ ap period_at (ap texts c.as_slice.ensures ∙ words))
