use Rattle.std.proofs.Common.{◌≡◌, ◌∷◌, ◌==◌, false, length, sym, arith, rules}
use Rattle.std.proofs.lemmas.Bool.Decides.{nat_tests}
use Rattle.std.proofs.lemmas.Str.{IsCharBoundary-after_ascii}
use Rattle.ged_line.proofs.line.Values.{plain_text, starts_with_none}
use Rattle.ged_line.proofs.line.QuickReading.{cut_first, plain_behind, signed_value}
use Rattle.ged_line.proofs.line.read.view_value.Goals as goal

pub range_from-requires : goal.range_from-requires
range_from-requires c =
    λ l. IsCharBoundary-after_ascii c.args.text.now 0 c.utf8.text (rw (sym c.as_bytes.ensures.value) (omega arith)) (rw (sym c.as_bytes.ensures.value) (omega arith))

pub view_signed_value-requires : goal.view_signed_value-requires
view_signed_value-requires c =
    let text = c.args.text.now in
    let cut : text ≡ 64 ∷ c.range_from.result.now = cut_first 64 text c.range_from.result.now
    (rw (sym c.as_bytes.ensures.value) (omega arith)) (rw (sym c.as_bytes.ensures.value) (omega arith)) c.range_from.ensures.value in
    plain_behind text c.range_from.result.now cut c.requires

pub returns-in-64 : goal.returns-in-64
returns-in-64 c =
    let text = c.args.text.now in
    let cut : text ≡ 64 ∷ c.range_from.result.now = cut_first 64 text c.range_from.result.now
    (rw (sym c.as_bytes.ensures.value) (omega arith)) (rw (sym c.as_bytes.ensures.value) (omega arith)) c.range_from.ensures.value in
    signed_value text c.range_from.result.now c.view_signed_value.result cut c.view_signed_value.ensures

pub returns-in_default : goal.returns-in_default
returns-in_default c =
    let text = c.args.text.now in
    let some : false ≡ (length text == 0) = rw (sym c.as_bytes.ensures.value) (grind (arith, nat_tests)) in
    let first = starts_with_none text (rw (sym c.as_bytes.ensures.value) (search rules)) in
    plain_text text some c.utf8.text c.requires (λ rest e. first (rest, e))
