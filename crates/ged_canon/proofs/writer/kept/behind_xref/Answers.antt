use Rattle.std.proofs.Common.{◌≡◌, ◌∙◌, ap, take, drop, length, rules}
use Rattle.ged_canon.proofs.writer.KeptLines.{xref_found}
use Rattle.ged_canon.proofs.writer.kept.behind_xref.Goals as goal

pub returns-clause-bytes : goal.returns-clause-bytes
returns-clause-bytes c =
    let name = c.args.name.now in
    let named = c.in_ok-named.named.now in
    let same : take (length name) named ≡ name = search rules in
    let left : c.in_ok-closed.closed.now ≡ drop (length name) named = c.in_ok-closed.ensures.cases.1 ∙ ap (λ xs. drop (length xs) named) c.as_bytes.ensures.value in
    xref_found c.args.bytes.now named c.in_ok-closed.closed.now c.in_ok-spaced.spaced.now c.in_ok-behind.behind.now name
    c.in_ok-named.ensures.bytes same left c.in_ok-spaced.ensures.bytes c.in_ok-behind.ensures.bytes
