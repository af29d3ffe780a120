use Rattle.std.proofs.Common.{◌≡◌, ◌==◌, true, get_or, arith, sym, ◌∙◌}
use Rattle.std.proofs.lemmas.Bool.{OnTrue_from}
use Rattle.std.proofs.lemmas.Bool.Decides.{nat_tests}
use Rattle.ged_line.proofs.line.Capitals.{nearest, number_of, capitals_from}
use Rattle.ged_line.proofs.line.names.begins_with_capitals.Goals as goal

pub returns-in-len4-up : goal.returns-in-len4-up
returns-in-len4-up c =
    let bytes = c.args.bytes.now in
    OnTrue_from _ _ (λ (equal : (c.from_le_bytes.result == c.from_le_bytes-in-len4-up.result) ≡ true).
    let same : c.from_le_bytes.result ≡ c.from_le_bytes-in-len4-up.result = grind (arith, nat_tests) in
    let clamped : c.from_le_bytes.result ≡ number_of (nearest (get_or bytes 0 0)) (nearest (get_or bytes 1 0)) (nearest (get_or bytes 2 0)) (nearest (get_or bytes 3 0)) = c.from_le_bytes.ensures in
    let spelled : c.from_le_bytes-in-len4-up.result ≡ number_of (get_or bytes 0 0) (get_or bytes 1 0) (get_or bytes 2 0) (get_or bytes 3 0) = c.from_le_bytes-in-len4-up.ensures in
    (c.in-len4-up.len_at_least, capitals_from bytes (λ i. (c.type_inv.bytes i).fits) (sym clamped ∙ same ∙ spelled)))
