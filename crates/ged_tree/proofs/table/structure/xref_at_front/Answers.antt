use Rattle.std.proofs.Common.{◌≡◌, ◌≤◌, ◌∙◌, Some, get_or, length, ap, sym, arith}
use Rattle.std.proofs.lemmas.Str.{IsCharBoundary-after_ascii}
use Rattle.ged_tree.specs.Spelled.{before_sign}
use Rattle.ged_tree.proofs.table.Searches.{named_front}
use Rattle.ged_tree.proofs.table.structure.xref_at_front.Goals as goal

pub range_from-requires : goal.range_from-requires
range_from-requires c =
    let rest = c.args.rest.now in
    let sign : get_or c.as_bytes.result.now 0 0 ≡ 64 = omega arith in
    let first : get_or rest 0 0 ≡ 64 = rw c.as_bytes.ensures.value at sign in
    let some : 1 ≤ length rest = rw c.as_bytes.ensures.value at c.in-64.len_at_least in
    λ l. IsCharBoundary-after_ascii rest 0 c.utf8.rest some (omega (arith, first))

pub returns-in-64 : goal.returns-in-64
returns-in-64 c =
    let rest = c.args.rest.now in
    let sign : get_or c.as_bytes.result.now 0 0 ≡ 64 = omega arith in
    let first : get_or rest 0 0 ≡ 64 = rw c.as_bytes.ensures.value at sign in
    let some : 1 ≤ length rest = rw c.as_bytes.ensures.value at c.in-64.len_at_least in
    ap Some (c.before_byte.ensures ∙ ap before_sign c.range_from.ensures.value) ∙ sym (named_front rest some first)
