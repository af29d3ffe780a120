use Rattle.std.proofs.Common.{◌≡◌, ◌≤◌, length, get_or, refl, sym, arith}
use Rattle.std.proofs.lemmas.Str.{IsCharBoundary-after_ascii}
use Rattle.ged_line.proofs.line.QuickReading.{CapitalFront, capital_boundary, capital_cut, behind_none, behind_space}
use Rattle.ged_line.proofs.line.read.cut_letters.Goals as goal

pub split_at-requires : goal.split_at-requires
split_at-requires c =
    let begins : (4 ≤ length c.args.text.now) × CapitalFront c.args.text.now = rw c.as_bytes.ensures.value at c.if-not-begins_with_capitals.ensures in
    capital_boundary c.args.text.now c.utf8.text begins.0 begins.1

pub range_from-requires : goal.range_from-requires
range_from-requires c =
    let rest = c.split_at.result.1.now in
    let space : get_or rest 0 0 ≡ 32 = rw (sym c.as_bytes-2.ensures.value) (omega arith) in
    λ l. IsCharBoundary-after_ascii rest 0 (rw c.as_bytes-2.ensures.value at c.as_bytes-2.ensures.utf8) (rw (sym c.as_bytes-2.ensures.value) (omega arith)) (omega arith)

pub returns-in-empty : goal.returns-in-empty
returns-in-empty c =
    let begins : (4 ≤ length c.args.text.now) × CapitalFront c.args.text.now = rw c.as_bytes.ensures.value at c.if-not-begins_with_capitals.ensures in
    let rest = c.split_at.result.1.now in
    capital_cut c.args.text.now c.split_at.result.0.now rest rest begins.0 begins.1 c.split_at.ensures.front c.split_at.ensures.back
    (behind_none rest rest (rw (sym c.as_bytes-2.ensures.value) (omega arith)) refl)

pub returns-in-32 : goal.returns-in-32
returns-in-32 c =
    let begins : (4 ≤ length c.args.text.now) × CapitalFront c.args.text.now = rw c.as_bytes.ensures.value at c.if-not-begins_with_capitals.ensures in
    let rest = c.split_at.result.1.now in
    capital_cut c.args.text.now c.split_at.result.0.now rest c.range_from.result.now begins.0 begins.1 c.split_at.ensures.front c.split_at.ensures.back
    (behind_space rest c.range_from.result.now (rw (sym c.as_bytes-2.ensures.value) (omega arith)) (rw (sym c.as_bytes-2.ensures.value) (omega arith)) c.range_from.ensures.value)
