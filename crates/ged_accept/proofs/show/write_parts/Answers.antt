use Rattle.std.proofs.Common.{◌++◌, ◌∷◌, [], subst, option_map, rules}
use Rattle.std.specs.Option.{option_copied}
use Rattle.ged_line.specs.Bytes.{space, line_feed}
use Rattle.ged_schema.specs.Rows.{as_row}
use Rattle.ged_accept.specs.Shown.{row_word, structure_line}
use Rattle.ged_devices.specs.Buffers.{GoesThrough, StopsWithin}
use Rattle.ged_devices.proofs.CallerLemmas.{through_both, stops_behind, stops_before}
use Rattle.ged_accept.proofs.Showing.{on_err, line_pieces}
use Rattle.ged_accept.proofs.show.write_parts.Goals as goal

pub returns-in_err-write_level-clause-err : goal.returns-in_err-write_level-clause-err
returns-in_err-write_level-clause-err g c =
    let r = option_map as_row (option_copied c.args.rule) in
    let word = row_word r in
    let stops = stops_before (c.args.tag.now ++ (space ∷ [] ++ (word ++ line_feed ∷ []))) c.in_err-write_level.ensures.err.1 in
    on_err {text = structure_line c.args.level c.args.tag.now r} c.from_residual.result c.in_err-write_level.ensures.err.0 (subst (StopsWithin _ _ _) (line_pieces c.args.level c.args.tag.now word) stops)

pub returns-in_err-write_buffered-clause-err : goal.returns-in_err-write_buffered-clause-err
returns-in_err-write_buffered-clause-err g c =
    let r = option_map as_row (option_copied c.args.rule) in
    let word = row_word r in
    let tag = subst (StopsWithin _ _ _) c.as_bytes.ensures.value c.in_err-write_buffered.ensures.err.1 in
    let stops = stops_behind c.in_ok-write_level.ensures.ok.1 (stops_before (space ∷ [] ++ (word ++ line_feed ∷ [])) tag) in
    on_err {text = structure_line c.args.level c.args.tag.now r} c.from_residual-in_err-write_buffered.result c.in_err-write_buffered.ensures.err.0 (subst (StopsWithin _ _ _) (line_pieces c.args.level c.args.tag.now word) stops)

pub returns-in_err-write_buffered-2-clause-err : goal.returns-in_err-write_buffered-2-clause-err
returns-in_err-write_buffered-2-clause-err g c =
    let r = option_map as_row (option_copied c.args.rule) in
    let word = row_word r in
    let tag = subst (GoesThrough _ _ _ _) c.as_bytes.ensures.value c.in_ok-write_buffered.ensures.ok.1 in
    let ending = subst (StopsWithin _ _ _) (search rules) c.in_err-write_buffered-2.ensures.err.1 in
    let stops = stops_behind c.in_ok-write_level.ensures.ok.1 (stops_behind tag ending) in
    on_err {text = structure_line c.args.level c.args.tag.now r} c.from_residual-in_err-write_buffered-2.result c.in_err-write_buffered-2.ensures.err.0 (subst (StopsWithin _ _ _) (line_pieces c.args.level c.args.tag.now word) stops)

pub returns-clause-ok : goal.returns-clause-ok
returns-clause-ok g c =
    let r = option_map as_row (option_copied c.args.rule) in
    let word = row_word r in
    let tag = subst (GoesThrough _ _ _ _) c.as_bytes.ensures.value c.in_ok-write_buffered.ensures.ok.1 in
    let ending = subst (GoesThrough _ _ _ _) (search rules) c.in_ok-write_buffered-2.ensures.ok.1 in
    let went = through_both c.in_ok-write_level.ensures.ok.1 (through_both tag ending) in
    (c.in_ok-write_buffered-2.ensures.ok.0, subst (GoesThrough _ _ _ _) (line_pieces c.args.level c.args.tag.now word) went)
