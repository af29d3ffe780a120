use Rattle.std.proofs.Common.{option_map}
use Rattle.std.proofs.lemmas.Result.{err_from_is_err_and}
use Rattle.ged_line.specs.Views.{viewed_value}
use Rattle.ged_line.proofs.line.Scans.{empty_at, level_at, leveled, xref_cut, bad_xref, bad_tag, plain_value, value_fault, found_line}
use Rattle.ged_line.proofs.line.read.view_text.Goals as goal

pub returns-in_err-xref : goal.returns-in_err-xref
returns-in_err-xref c =
    let p = err_from_is_err_and c.from_residual-in_err-xref.result c.from_residual-in_err-xref.ensures.1 in
    let text = c.args.text.now in
    let level = leveled text c.in_ok-level.level c.in_ok-level.rest.now c.utf8.text c.requires c.in_ok-level.ensures in
    let err = c.in_err-xref.ensures in
    rw (p.1, p.2, err.0) (bad_xref text c.in_ok-level.level c.in_ok-level.rest.now level err.1 err.2)

pub returns-in_err-tag : goal.returns-in_err-tag
returns-in_err-tag c =
    let p = err_from_is_err_and c.from_residual-in_err-tag.result c.from_residual-in_err-tag.ensures.1 in
    let text = c.args.text.now in
    let level = leveled text c.in_ok-level.level c.in_ok-level.rest.now c.utf8.text c.requires c.in_ok-level.ensures in
    let cut = xref_cut c.in_ok-level.rest.now c.in_ok-xref.xref c.in_ok-xref.rest.now c.in_ok-xref.ensures in
    let err = c.in_err-tag.ensures in
    rw (p.1, p.2, err.0) (bad_tag text c.in_ok-level.level c.in_ok-level.rest.now (option_map (λ x. x.now) c.in_ok-xref.xref) c.in_ok-xref.rest.now level cut err.1)

pub view_value-requires : goal.view_value-requires
view_value-requires c =
    let text = c.args.text.now in
    let level = leveled text c.in_ok-level.level c.in_ok-level.rest.now c.utf8.text c.requires c.in_ok-level.ensures in
    let cut = xref_cut c.in_ok-level.rest.now c.in_ok-xref.xref c.in_ok-xref.rest.now c.in_ok-xref.ensures in
    plain_value text c.in_ok-level.level c.in_ok-level.rest.now (option_map (λ x. x.now) c.in_ok-xref.xref) c.in_ok-xref.rest.now c.in_ok-tag.tag.now c.in_ok-tag.rest.now level cut c.in_ok-tag.ensures

pub returns-in_err-value : goal.returns-in_err-value
returns-in_err-value c =
    let p = err_from_is_err_and c.from_residual-in_err-value.result c.from_residual-in_err-value.ensures.1 in
    let text = c.args.text.now in
    let level = leveled text c.in_ok-level.level c.in_ok-level.rest.now c.utf8.text c.requires c.in_ok-level.ensures in
    let cut = xref_cut c.in_ok-level.rest.now c.in_ok-xref.xref c.in_ok-xref.rest.now c.in_ok-xref.ensures in
    let err = c.in_err-value.ensures in
    rw (p.1, p.2, err.0) (value_fault text c.in_ok-level.level c.in_ok-level.rest.now (option_map (λ x. x.now) c.in_ok-xref.xref) c.in_ok-xref.rest.now c.in_ok-tag.tag.now c.in_ok-tag.rest.now level cut c.in_ok-tag.ensures err.1)

pub returns-then-is_empty : goal.returns-then-is_empty
returns-then-is_empty c = empty_at c.args.text.now c.utf8.text c.requires c.if-is_empty.ensures

pub returns-in_err-level : goal.returns-in_err-level
returns-in_err-level c =
    let p = err_from_is_err_and c.from_residual.result c.from_residual.ensures.1 in
    rw (p.1, p.2) (level_at c.args.text.now c.in_err-level.field-0.0 c.utf8.text c.requires c.if-is_empty.ensures c.in_err-level.ensures)

pub returns : goal.returns
returns c =
    let text = c.args.text.now in
    let level = leveled text c.in_ok-level.level c.in_ok-level.rest.now c.utf8.text c.requires c.in_ok-level.ensures in
    let cut = xref_cut c.in_ok-level.rest.now c.in_ok-xref.xref c.in_ok-xref.rest.now c.in_ok-xref.ensures in
    let found = found_line text c.in_ok-level.level c.in_ok-level.rest.now (option_map (λ x. x.now) c.in_ok-xref.xref) c.in_ok-xref.rest.now c.in_ok-tag.tag.now c.in_ok-tag.rest.now (viewed_value c.in_ok-value.value) level cut c.in_ok-tag.ensures c.in_ok-value.ensures in
    rw c.of_parts.ensures found
