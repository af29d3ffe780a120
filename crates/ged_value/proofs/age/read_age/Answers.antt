use Rattle.std.proofs.Common.{◌∙◌, ap, sym, length}
use Rattle.ged_value.specs.inner.Texts.{texts}
use Rattle.ged_value.specs.inner.AgeReading.{age_at}
use Rattle.ged_value.specs.AgeViews.{age_parts}
use Rattle.ged_value.proofs.AgeLaws.{reads_age, too_many_words, not_empty}
use Rattle.ged_value.proofs.age.read_age.Goals as goal

pub returns-in_err-words_of : goal.returns-in_err-words_of
returns-in_err-words_of c =
    let many = c.in_err-words_of.ensures in
    let full = not_empty (length c.args.text.now) (sym c.is_empty.ensures ∙ c.if-is_empty.false) in
    rw c.from_residual.ensures (too_many_words age_parts c.args.text.now full many)

pub returns : goal.returns
returns c =
    let words = c.in_ok-words_of.ensures in
    let full = not_empty (length c.args.text.now) (sym c.is_empty.ensures ∙ c.if-is_empty.false) in
    reads_age age_parts c.args.text.now c.age_at.result full (c.age_at.ensures ∙ ap age_at (ap texts c.as_slice.ensures ∙ words))
