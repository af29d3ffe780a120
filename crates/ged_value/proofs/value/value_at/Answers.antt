-- `search` tries much at each of these goals before it finds the step
use Rattle.std.proofs.Common.{◌≡◌, ◌∙◌, ◌∷◌, Some, None, sym, ap, rules}
use Rattle.std.specs.Option.{option_map}
use Rattle.ged_value.specs.Values.{span, plain}
use Rattle.ged_value.specs.ValueViews.{value_parts, period_parts}
use Rattle.ged_value.specs.Views.{date_parts}
use Rattle.ged_value.specs.inner.DateReading.{date_at}
use Rattle.ged_value.specs.inner.ValueReading.{keyword_at, behind, period_at}
use Rattle.ged_value.specs.inner.Texts.{texts}
use Rattle.ged_value.proofs.ValueLaws.{value_read, bet_read, span_read, plain_read}
use Rattle.ged_value.proofs.value.value_at.Goals as goal

pub returns-in_err-date_at : goal.returns-in_err-date_at
returns-in_err-date_at c =
    let w = c.in_ok-first.first.now.now in
    let ws = texts c.in_ok-first.others.now in
    let words : texts c.args.words.now ≡ w ∷ ws = ap texts c.in_ok-first.ensures.cases.0 in
    let keyword : Some c.in-Some.keyword ≡ keyword_at w = sym c.in-Some.is ∙ c.keyword_at.ensures in
    let none : date_at ws ≡ None = sym c.date_at.ensures ∙ ap (option_map date_parts) c.in_err-date_at.was in
    rw c.from_residual-in_err-date_at.ensures (sym (value_read (texts c.args.words.now) w ws (Some c.in-Some.keyword) words keyword ∙ ap (option_map (behind c.in-Some.keyword)) none))

pub returns-in-Some : goal.returns-in-Some
returns-in-Some c =
    let w = c.in_ok-first.first.now.now in
    let ws = texts c.in_ok-first.others.now in
    let words : texts c.args.words.now ≡ w ∷ ws = ap texts c.in_ok-first.ensures.cases.0 in
    let keyword : Some c.in-Some.keyword ≡ keyword_at w = sym c.in-Some.is ∙ c.keyword_at.ensures in
    let some : date_at ws ≡ Some (date_parts c.in_ok-date_at.field-0) = sym c.date_at.ensures ∙ ap (option_map date_parts) c.in_ok-date_at.was in
    rw c.behind.ensures (sym (value_read (texts c.args.words.now) w ws (Some c.in-Some.keyword) words keyword ∙ ap (option_map (behind c.in-Some.keyword)) some))

pub returns-in-BET : goal.returns-in-BET
returns-in-BET c =
    let w = c.in_ok-first.first.now.now in
    let ws = texts c.in_ok-first.others.now in
    let words : texts c.args.words.now ≡ w ∷ ws = ap texts c.in_ok-first.ensures.cases.0 in
    let keyword : None ≡ keyword_at w = sym c.in_default.is ∙ c.keyword_at.ensures in
    c.between_at.ensures ∙ sym (value_read (texts c.args.words.now) w ws None words keyword ∙ bet_read w ws c.in-BET.is)

pub returns-in_default-first : goal.returns-in_default-first
returns-in_default-first c =
    let w = c.in_ok-first.first.now.now in
    let ws = texts c.in_ok-first.others.now in
    let words : texts c.args.words.now ≡ w ∷ ws = ap texts c.in_ok-first.ensures.cases.0 in
    let keyword : None ≡ keyword_at w = sym c.in_default.is ∙ c.keyword_at.ensures in
    let n = c.in_default-first in
    let mapped : option_map value_parts c.map-in_default-first.result ≡ option_map plain (option_map date_parts c.date_at-in_default-first.result) = search rules in
    let date : option_map date_parts c.date_at-in_default-first.result ≡ date_at (w ∷ ws) = c.date_at-in_default-first.ensures ∙ ap date_at words in
    mapped ∙ ap (option_map plain) date ∙ sym (value_read (texts c.args.words.now) w ws None words keyword ∙ plain_read w ws n.not-BET n.not-empty n.not-TO n.not-FROM)

pub returns-in-empty : goal.returns-in-empty
returns-in-empty c =
    let w = c.in_ok-first.first.now.now in
    let ws = texts c.in_ok-first.others.now in
    let words : texts c.args.words.now ≡ w ∷ ws = ap texts c.in_ok-first.ensures.cases.0 in
    let keyword : None ≡ keyword_at w = sym c.in_default.is ∙ c.keyword_at.ensures in
    let mapped : option_map value_parts c.map.result ≡ option_map span (option_map period_parts c.period_at.result) = search rules in
    let period : option_map period_parts c.period_at.result ≡ period_at (w ∷ ws) = c.period_at.ensures ∙ ap period_at words in
    mapped ∙ ap (option_map span) period ∙ sym (value_read (texts c.args.words.now) w ws None words keyword ∙ span_read w ws c.in-empty.is)
