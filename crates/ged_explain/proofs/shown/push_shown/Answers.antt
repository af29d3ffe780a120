use Rattle.std.proofs.Common.{string_bytes, rules}
use Rattle.ged_explain.proofs.Seen.{pushed_line, plain_seen, clipped_seen}
use Rattle.ged_explain.proofs.shown.push_shown.Goals as goal

pub returns-in-Some : goal.returns-in-Some
returns-in-Some c =
    pushed_line c.push_str.result (string_bytes c.args.text.now) c.in-Some.plain.now (string_bytes c.push_str.new.self) c.args.piece.now c.push_str.ensures.bytes
    (plain_seen c.args.piece.now c.in-Some.plain.now c.in-Some.ensures.0 c.in-Some.ensures.1)

pub returns : goal.returns
returns c =
    pushed_line c.push_str-2.result (string_bytes c.args.text.now) c.as_str.result.now (string_bytes c.push_str-2.new.self) c.args.piece.now c.push_str-2.ensures.bytes
    (clipped_seen c.args.piece.now c.as_str.result.now (string_bytes c.in_ok-clipped.clipped) c.as_str.ensures.value c.in_default.ensures c.in_ok-clipped.ensures)
