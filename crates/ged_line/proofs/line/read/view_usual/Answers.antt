use Rattle.std.proofs.Common.{None, List, ℕ, ◌≡◌, ◌≤◌, ◌-◌, get_or, length, drop, false, sym, arith}
use Rattle.std.specs.Str.{IsUtf8}
use Rattle.std.proofs.lemmas.Str.{IsCharBoundary-after_ascii}
use Rattle.ged_line.specs.Characters.{has_banned}
use Rattle.ged_line.specs.Views.{viewed_value}
use Rattle.ged_line.proofs.line.QuickReading.{level_digit}
use Rattle.ged_line.proofs.line.Scans.{Leveled, leveled, no_xref_before, plain_value, value_fault, found_line}
use Rattle.ged_line.proofs.line.read.view_usual.Goals as goal

pub range_from-requires : goal.range_from-requires
range_from-requires c =
    let text = c.args.text.now in
    λ l. IsCharBoundary-after_ascii text 1 c.utf8.text (rw (sym c.as_bytes.ensures.value) (omega arith)) (rw (sym c.as_bytes.ensures.value) (omega arith))

-- what is known behind the level of one digit that a text's bytes begin with
behind_digit : (text bytes rest : List ℕ) → bytes ≡ text → rest ≡ drop 2 text → IsUtf8 text → has_banned text ≡ false
    → 2 ≤ length bytes → 48 ≤ get_or bytes 0 0 → get_or bytes 0 0 ≤ 57 → get_or bytes 1 0 ≡ 32 → Leveled text (get_or text 0 0 - 48) rest
behind_digit text bytes rest is cut utf8 plain long least most blank =
    leveled text (get_or text 0 0 - 48) rest utf8 plain (rw (cut)
    (level_digit text (rw (sym is) long) (rw (sym is) least) (rw (sym is) most) (rw (sym is) blank)))

pub view_value-requires : goal.view_value-requires
view_value-requires c =
    let text = c.args.text.now in
    let rest = c.range_from.result.now in
    let unit : ℕ = get_or text 0 0 - 48 in
    let tag = c.in_ok-tag.tag.now in
    let value = c.in_ok-tag.value.now in
    plain_value text unit rest None rest tag value
    (behind_digit text c.as_bytes.result.now rest c.as_bytes.ensures.value c.range_from.ensures.value c.utf8.text c.requires (omega arith) (omega arith) (omega arith) (omega arith))
    (no_xref_before rest tag value c.in_ok-tag.ensures) c.in_ok-tag.ensures

pub returns-in-Ok : goal.returns-in-Ok
returns-in-Ok c =
    let text = c.args.text.now in
    let rest = c.range_from.result.now in
    let unit : ℕ = get_or text 0 0 - 48 in
    let tag = c.in_ok-tag.tag.now in
    let value = c.in_ok-tag.value.now in
    let found = found_line text unit rest None rest tag value (viewed_value c.in-Ok.value)
    (behind_digit text c.as_bytes.result.now rest c.as_bytes.ensures.value c.range_from.ensures.value c.utf8.text c.requires (omega arith) (omega arith) (omega arith) (omega arith))
    (no_xref_before rest tag value c.in_ok-tag.ensures) c.in_ok-tag.ensures c.in-Ok.ensures in
    rw (c.of_parts.ensures, c.as_bytes.ensures.value) found

pub returns-in-Err : goal.returns-in-Err
returns-in-Err c =
    let text = c.args.text.now in
    let rest = c.range_from.result.now in
    let unit : ℕ = get_or text 0 0 - 48 in
    let tag = c.in_ok-tag.tag.now in
    let value = c.in_ok-tag.value.now in
    let found = value_fault text unit rest None rest tag value
    (behind_digit text c.as_bytes.result.now rest c.as_bytes.ensures.value c.range_from.ensures.value c.utf8.text c.requires (omega arith) (omega arith) (omega arith) (omega arith))
    (no_xref_before rest tag value c.in_ok-tag.ensures) c.in_ok-tag.ensures c.in-Err.ensures.1 in
    rw c.in-Err.ensures.0 found
