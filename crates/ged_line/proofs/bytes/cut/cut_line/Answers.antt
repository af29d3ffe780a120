use Rattle.std.proofs.Common.{◌≡◌, ◌+◌, [], ◌∷◌, ◌∙◌, length, get_or, drop, inl, inr, refl, sym, ap, arith}
use Rattle.std.proofs.lemmas.List.{drop_more}
use Rattle.std.proofs.lemmas.Str.{IsUtf8-take, IsCharBoundary-before_ascii, IsCharBoundary-after_ascii}
use Rattle.ged_line.specs.Pieces.{HasNoEnd}
use Rattle.ged_line.proofs.bytes.Banned.{has_banned-no_special, has_banned-before_special, no_end_special}
use Rattle.ged_line.proofs.bytes.Cutting.{HasNoEnd-from_search, first_of_pieces, last_text, parts_of_cut}
use Rattle.ged_line.proofs.bytes.cut.cut_line.Goals as goal

pub returns-in_default-clause-first : goal.returns-in_default-clause-first
returns-in_default-clause-first c = last_text c.args.text.now c.requires (no_end_special c.args.text.now (length c.args.text.now) (rw c.as_bytes-bytes.ensures.value at c.in_default.ensures))

pub returns-in_default-clause-pieces : goal.returns-in_default-clause-pieces
returns-in_default-clause-pieces c = first_of_pieces c.args.text.now c.args.text.now [] (returns-in_default-clause-first c)

pub returns-in_default-clause-banned : goal.returns-in_default-clause-banned
returns-in_default-clause-banned c = has_banned-no_special c.args.text.now c.utf8.text (rw c.as_bytes-bytes.ensures.value at c.in_default.ensures)

pub range_from-requires : goal.range_from-requires
range_from-requires c =
    let text = c.args.text.now in
    let found = rw c.as_bytes-bytes.ensures.value at c.in-Some.ensures in
    let feed : get_or text c.in-Some.special 0 ≡ 10 = rw c.as_bytes-bytes.ensures.value at c.if-bytes-special-eq10.true in
    λ l. IsCharBoundary-after_ascii text c.in-Some.special c.utf8.text found.0.high (omega (arith, feed))

pub returns-then-bytes-special-eq10-clause-first : goal.returns-then-bytes-special-eq10-clause-first
returns-then-bytes-special-eq10-clause-first c =
    let text = c.args.text.now in
    let found = rw c.as_bytes-bytes.ensures.value at c.in-Some.ensures in
    let high = found.0.high in
    let feed : get_or text c.in-Some.special 0 ≡ 10 = rw c.as_bytes-bytes.ensures.value at c.if-bytes-special-eq10.true in
    let no_end : HasNoEnd c.split_at.result.0.now = rw c.split_at.ensures.front (HasNoEnd-from_search text c.in-Some.special (omega arith) (no_end_special text c.in-Some.special found.0.before)) in (
      no_end,
      inl (
        10 ∷ [],
        inr (inl refl),
        parts_of_cut text c.split_at.result.0.now (drop c.in-Some.special text) (10 ∷ []) c.range_from.result.now c.in-Some.special c.split_at.ensures.front refl
            (drop_more text c.in-Some.special 0 high ∙ ap (λ b. b ∷ drop (c.in-Some.special + 1) text) feed ∙ ap (λ rest. 10 ∷ rest) (sym c.range_from.ensures.value)),
      ),
    )

pub returns-then-bytes-special-eq10-clause-pieces : goal.returns-then-bytes-special-eq10-clause-pieces
returns-then-bytes-special-eq10-clause-pieces c = first_of_pieces c.args.text.now c.split_at.result.0.now c.range_from.result.now (returns-then-bytes-special-eq10-clause-first c)

pub returns-then-bytes-special-eq10-clause-banned : goal.returns-then-bytes-special-eq10-clause-banned
returns-then-bytes-special-eq10-clause-banned c =
    let text = c.args.text.now in
    let found = rw c.as_bytes-bytes.ensures.value at c.in-Some.ensures in
    let feed : get_or text c.in-Some.special 0 ≡ 10 = rw c.as_bytes-bytes.ensures.value at c.if-bytes-special-eq10.true in
    rw c.split_at.ensures.front (has_banned-before_special text c.in-Some.special (omega arith)
    (IsUtf8-take text c.in-Some.special c.utf8.text (IsCharBoundary-before_ascii text c.in-Some.special found.0.high (omega (arith, feed)))) found.0.before)

pub returns-then-bytes-special-eq13-clause-first : goal.returns-then-bytes-special-eq13-clause-first
returns-then-bytes-special-eq13-clause-first c =
    let text = c.args.text.now in
    let found = rw c.as_bytes-bytes.ensures.value at c.in-Some.ensures in
    let high = found.0.high in
    let no_end : HasNoEnd c.split_at-then-bytes-special-eq13.result.0.now = rw c.split_at-then-bytes-special-eq13.ensures.front (HasNoEnd-from_search text c.in-Some.special (omega arith) (no_end_special text c.in-Some.special found.0.before)) in (
      no_end,
      inl (
        c.text_after_end.ensures.0,
        c.text_after_end.ensures.1,
        parts_of_cut text c.split_at-then-bytes-special-eq13.result.0.now c.split_at-then-bytes-special-eq13.result.1.now c.text_after_end.ensures.0 c.text_after_end.result.now c.in-Some.special c.split_at-then-bytes-special-eq13.ensures.front c.split_at-then-bytes-special-eq13.ensures.back c.text_after_end.ensures.2,
      ),
    )

pub returns-then-bytes-special-eq13-clause-pieces : goal.returns-then-bytes-special-eq13-clause-pieces
returns-then-bytes-special-eq13-clause-pieces c = first_of_pieces c.args.text.now c.split_at-then-bytes-special-eq13.result.0.now c.text_after_end.result.now (returns-then-bytes-special-eq13-clause-first c)

pub returns-then-bytes-special-eq13-clause-banned : goal.returns-then-bytes-special-eq13-clause-banned
returns-then-bytes-special-eq13-clause-banned c =
    let text = c.args.text.now in
    let found = rw c.as_bytes-bytes.ensures.value at c.in-Some.ensures in
    let carriage : get_or text c.in-Some.special 0 ≡ 13 = rw c.as_bytes-bytes.ensures.value at c.if-bytes-special-eq13.true in
    rw c.split_at-then-bytes-special-eq13.ensures.front (has_banned-before_special text c.in-Some.special (omega arith)
    (IsUtf8-take text c.in-Some.special c.utf8.text (IsCharBoundary-before_ascii text c.in-Some.special found.0.high (omega (arith, carriage)))) found.0.before)
