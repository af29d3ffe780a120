use Rattle.std.proofs.Common.{◌<◌, [], get_or, inl, arith}
use Rattle.std.proofs.lemmas.Str.{IsUtf8-take, IsCharBoundary-before_ascii}
use Rattle.ged_line.specs.Pieces.{HasNoEnd}
use Rattle.ged_line.proofs.bytes.Cutting.{end_ascii, HasNoEnd-from_search, first_of_pieces, last_text, parts_of_cut}
use Rattle.ged_line.proofs.bytes.cut.cut_special_line.Goals as goal

pub returns-in_default-clause-first : goal.returns-in_default-clause-first
returns-in_default-clause-first c = last_text c.args.text.now c.requires (rw c.as_bytes.ensures.value at c.in_default.ensures)

pub returns-in_default-clause-pieces : goal.returns-in_default-clause-pieces
returns-in_default-clause-pieces c = first_of_pieces c.args.text.now c.args.text.now [] (returns-in_default-clause-first c)

pub returns-clause-first : goal.returns-clause-first
returns-clause-first c =
    let text = c.args.text.now in
    let found = rw c.as_bytes.ensures.value at c.in-Some.ensures in
    let high = found.0.high in
    let no_end : HasNoEnd c.split_at.result.0.now = rw c.split_at.ensures.front (HasNoEnd-from_search text c.in-Some.end (omega arith) found.0.before) in (
      no_end,
      inl (
        c.text_after_end.ensures.0,
        c.text_after_end.ensures.1,
        parts_of_cut text c.split_at.result.0.now c.split_at.result.1.now c.text_after_end.ensures.0 c.text_after_end.result.now c.in-Some.end c.split_at.ensures.front c.split_at.ensures.back c.text_after_end.ensures.2,
      ),
    )

pub returns-clause-pieces : goal.returns-clause-pieces
returns-clause-pieces c = first_of_pieces c.args.text.now c.split_at.result.0.now c.text_after_end.result.now (returns-clause-first c)

pub returns-clause-piece_utf8 : goal.returns-clause-piece_utf8
returns-clause-piece_utf8 c =
    let text = c.args.text.now in
    let found = rw c.as_bytes.ensures.value at c.in-Some.ensures in
    let small : get_or text c.in-Some.end 0 < 128 = end_ascii (get_or text c.in-Some.end 0) found.1 in
    rw c.split_at.ensures.front (IsUtf8-take text c.in-Some.end c.utf8.text (IsCharBoundary-before_ascii text c.in-Some.end found.0.high small))
