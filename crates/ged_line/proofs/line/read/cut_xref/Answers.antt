use Rattle.std.proofs.Common.{◌≡◌, ◌∷◌, ◌∙◌, length, get_or, sym, ap, arith, rules}
use Rattle.std.proofs.lemmas.Bool.Decides.{nat_tests}
use Rattle.std.proofs.lemmas.Str.{IsCharBoundary-after_ascii}
use Rattle.ged_line.proofs.line.QuickReading.{front_boundary, tag_cut, all_characters}
use Rattle.ged_line.proofs.line.Identifiers.{no_identifier, no_sign_behind}
use Rattle.ged_line.proofs.line.read.cut_xref.Goals as goal
use Rattle.ged_line.proofs.line.read.cut_xref.Goals.{in_default-via-then-as_bytes-lt2, in_default-via-else-as_bytes-lt2+in-64+in_default-1, in_default-via-else-as_bytes-lt2+in_default-1}

pub split_at-requires : goal.split_at-requires
split_at-requires c = front_boundary c.args.after.now c.many_tag_characters.result c.utf8.after c.many_tag_characters.ensures.inside c.many_tag_characters.ensures.front

pub returns-in_default : goal.returns-in_default
returns-in_default c =
    let after = c.args.after.now in
    let name = c.split_at.result.0.now in
    let rest = c.split_at.result.1.now in
    let cut = tag_cut after name rest c.many_tag_characters.result
    c.many_tag_characters.ensures.inside c.many_tag_characters.ensures.front c.many_tag_characters.ensures.stop c.split_at.ensures.front c.split_at.ensures.back in
    no_sign_behind after name rest cut (λ back e.
    let same : c.as_bytes.result.now ≡ 64 ∷ 32 ∷ back = c.as_bytes.ensures.value ∙ e in
    let many : length c.as_bytes.result.now ≡ length (64 ∷ 32 ∷ back) = ap length same in
    let first : get_or c.as_bytes.result.now 0 0 ≡ 64 = ap (λ xs. get_or xs 0 0) same in
    let second : get_or c.as_bytes.result.now 1 0 ≡ 32 = ap (λ xs. get_or xs 1 0) same in
    elim c.in_default.branch [
      | in_default-via-then-as_bytes-lt2 w ↦ grind (arith, nat_tests)
      | in_default-via-else-as_bytes-lt2+in-64+in_default-1 w ↦ search rules
      | in_default-via-else-as_bytes-lt2+in_default-1 w ↦ search rules
    ])

pub names_record-requires : goal.names_record-requires
names_record-requires c =
    all_characters c.args.after.now c.split_at.result.0.now c.split_at.result.1.now
    (tag_cut c.args.after.now c.split_at.result.0.now c.split_at.result.1.now c.many_tag_characters.result
    c.many_tag_characters.ensures.inside c.many_tag_characters.ensures.front c.many_tag_characters.ensures.stop c.split_at.ensures.front c.split_at.ensures.back)

pub range_from-requires : goal.range_from-requires
range_from-requires c =
    let rest = c.split_at.result.1.now in
    λ l. IsCharBoundary-after_ascii rest 1 (rw c.as_bytes.ensures.value at c.as_bytes.ensures.utf8) (rw (sym c.as_bytes.ensures.value) (omega arith)) (rw (sym c.as_bytes.ensures.value) (omega arith))

pub returns-else-names_record : goal.returns-else-names_record
returns-else-names_record c =
    let after = c.args.after.now in
    let name = c.split_at.result.0.now in
    let rest = c.split_at.result.1.now in
    let cut = tag_cut after name rest c.many_tag_characters.result
    c.many_tag_characters.ensures.inside c.many_tag_characters.ensures.front c.many_tag_characters.ensures.stop c.split_at.ensures.front c.split_at.ensures.back in
    no_identifier after name rest cut (sym c.if-names_record.ensures)
