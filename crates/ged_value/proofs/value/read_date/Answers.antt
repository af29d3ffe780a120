use Rattle.std.proofs.Common.{◌∙◌, ap}
use Rattle.ged_value.specs.Values.{SpellsValue}
use Rattle.ged_value.specs.inner.ValueReading.{value_at}
use Rattle.ged_value.specs.ValueViews.{value_parts}
use Rattle.ged_value.specs.inner.Texts.{texts}
use Rattle.ged_value.proofs.ValueLaws.{value_again, value_found}
use Rattle.ged_value.proofs.TextLaws.{reads_text, too_many, value_plainly}
use Rattle.ged_value.proofs.value.read_date.Goals as goal

pub returns-in_err-words_of : goal.returns-in_err-words_of
returns-in_err-words_of c =
    let many = c.in_err-words_of.ensures in
    rw c.from_residual.ensures (too_many value_parts SpellsValue value_at value_again value_found value_plainly c.args.text.now many)

pub returns : goal.returns
returns c =
    let words = c.in_ok-words_of.ensures in
    reads_text value_parts SpellsValue value_at value_again value_found value_plainly c.args.text.now c.value_at.result
    (c.value_at.ensures ∙ ap value_at (ap texts c.as_slice.ensures ∙ words))
