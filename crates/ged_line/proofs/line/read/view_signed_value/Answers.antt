use Rattle.std.proofs.Common.{◌≡◌, ◌≢◌, [], ◌∷◌, ◌∙◌, length, get_or, refl, sym, ap, arith, rules}
use Rattle.std.proofs.lemmas.Bool.Decides.{nat_tests}
use Rattle.ged_line.proofs.line.Values.{starts_with_sign, starts_with_none}
use Rattle.ged_line.proofs.line.QuickReading.{front_boundary, tag_cut, signed_text}
use Rattle.ged_line.proofs.line.Identifiers.{no_pointer, pointer_name, some_first, one_first}
use Rattle.ged_line.proofs.line.read.view_signed_value.Goals as goal
use Rattle.ged_line.proofs.line.read.view_signed_value.Goals.{then-as_bytes-lt1, else-as_bytes-lt1+in_default-1, in_default-as_bytes-via-then-as_bytes-lt1-2, in_default-as_bytes-via-else-as_bytes-lt1-2+then-this-lt2+in_default-1, in_default-as_bytes-via-else-as_bytes-lt1-2+else-this-lt2}

pub returns-in-64 : goal.returns-in-64
returns-in-64 c =
    let after = c.args.after.now in
    let first : get_or after 0 0 ≡ 64 = rw (sym c.as_bytes.ensures.value) (omega arith) in
    signed_text after (starts_with_sign after first) c.utf8.after c.requires

pub split_at-requires : goal.split_at-requires
split_at-requires c = front_boundary c.args.after.now c.any_tag_characters.result c.utf8.after c.any_tag_characters.ensures.inside c.any_tag_characters.ensures.front

pub returns-in_default-as_bytes : goal.returns-in_default-as_bytes
returns-in_default-as_bytes c =
    let after = c.args.after.now in
    let name = c.split_at.result.0.now in
    let rest = c.split_at.result.1.now in
    let cut = tag_cut after name rest c.any_tag_characters.result
    c.any_tag_characters.ensures.inside c.any_tag_characters.ensures.front c.any_tag_characters.ensures.stop c.split_at.ensures.front c.split_at.ensures.back in
    let none : get_or after 0 0 ≢ 64 = rw (sym c.as_bytes.ensures.value) (λ e.
    let some = some_first 64 c.as_bytes.result.now e (omega arith) in
    elim c.if-as_bytes-lt1.branch [ then-as_bytes-lt1 w ↦ grind (arith, nat_tests) | else-as_bytes-lt1+in_default-1 w ↦ search rules ]) in
    let other : rest ≢ 64 ∷ [] = λ e.
    let same : c.as_bytes-2.result.now ≡ 64 ∷ [] = c.as_bytes-2.ensures.value ∙ e in
    let one : length c.as_bytes-2.result.now ≡ 1 = ap length same in
    let first : get_or c.as_bytes-2.result.now 0 0 ≡ 64 = ap (λ xs. get_or xs 0 0) same in
    elim c.in_default-as_bytes.branch [
      | in_default-as_bytes-via-then-as_bytes-lt1-2 w ↦ grind (arith, nat_tests)
      | in_default-as_bytes-via-else-as_bytes-lt1-2+then-this-lt2+in_default-1 w ↦ search rules
      | in_default-as_bytes-via-else-as_bytes-lt1-2+else-this-lt2 w ↦ grind (arith, nat_tests)
    ] in
    (refl, no_pointer after name rest cut other, starts_with_none after none)

pub returns-else-eq : goal.returns-else-eq
returns-else-eq c =
    let after = c.args.after.now in
    let name = c.split_at.result.0.now in
    let rest = c.split_at.result.1.now in
    let cut = tag_cut after name rest c.any_tag_characters.result
    c.any_tag_characters.ensures.inside c.any_tag_characters.ensures.front c.any_tag_characters.ensures.stop c.split_at.ensures.front c.split_at.ensures.back in
    let none : get_or after 0 0 ≢ 64 = rw (sym c.as_bytes.ensures.value) (λ e.
    let some = some_first 64 c.as_bytes.result.now e (omega arith) in
    elim c.if-as_bytes-lt1.branch [ then-as_bytes-lt1 w ↦ grind (arith, nat_tests) | else-as_bytes-lt1+in_default-1 w ↦ search rules ]) in
    let sign : rest ≡ 64 ∷ [] = rw (sym c.as_bytes-2.ensures.value) (one_first 64 c.as_bytes-2.result.now (omega arith) (omega arith)) in
    let found = pointer_name after name rest cut sign none (search rules) in
    (found.0, ap (λ xs. 32 ∷ 64 ∷ xs) found.1)
