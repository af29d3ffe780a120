use Rattle.std.proofs.Common.{◌≡◌, refl, sym, ap, ◌∙◌, arith, get_or, rules}
use Rattle.std.proofs.lemmas.Str.{IsCharBoundary-after_ascii}
use Rattle.ged_line.specs.Names.{is_tag}
use Rattle.ged_line.proofs.line.QuickReading.{front_boundary, tag_cut, IsBehindTag, all_characters, word_is_tag, no_tag, behind_none, behind_space}
use Rattle.ged_line.proofs.line.read.view_any_tag.Goals as goal
use Rattle.ged_line.proofs.line.read.view_any_tag.Goals.{in-empty, in-32}

pub split_at-requires : goal.split_at-requires
split_at-requires c = front_boundary c.args.text.now c.many_tag_characters.result c.utf8.text c.many_tag_characters.ensures.inside c.many_tag_characters.ensures.front

pub range_from-value-requires : goal.range_from-value-requires
range_from-value-requires c =
    let rest = c.split_at.result.1.now in
    let space : get_or rest 0 0 ≡ 32 = rw (sym c.as_bytes.ensures.value) (omega arith) in
    λ l. IsCharBoundary-after_ascii rest 0 (rw c.as_bytes.ensures.value at c.as_bytes.ensures.utf8) (rw (sym c.as_bytes.ensures.value) (omega arith)) (omega arith)

pub returns-in_default : goal.returns-in_default
returns-in_default c =
    let text = c.args.text.now in
    let cut = tag_cut text c.split_at.result.0.now c.split_at.result.1.now c.many_tag_characters.result
    c.many_tag_characters.ensures.inside c.many_tag_characters.ensures.front c.many_tag_characters.ensures.stop c.split_at.ensures.front c.split_at.ensures.back in
    (refl, no_tag text c.split_at.result.0.now c.split_at.result.1.now cut (rw (sym c.as_bytes.ensures.value) (omega arith)) (rw (sym c.as_bytes.ensures.value) (search rules)))

pub begins_as_tag-requires : goal.begins_as_tag-requires
begins_as_tag-requires c =
    all_characters c.args.text.now c.split_at.result.0.now c.split_at.result.1.now
    (tag_cut c.args.text.now c.split_at.result.0.now c.split_at.result.1.now c.many_tag_characters.result
    c.many_tag_characters.ensures.inside c.many_tag_characters.ensures.front c.many_tag_characters.ensures.stop c.split_at.ensures.front c.split_at.ensures.back)

pub returns-else-begins_as_tag : goal.returns-else-begins_as_tag
returns-else-begins_as_tag c =
    let text = c.args.text.now in
    let tag = c.split_at.result.0.now in
    let rest = c.split_at.result.1.now in
    let cut = tag_cut text tag rest c.many_tag_characters.result
    c.many_tag_characters.ensures.inside c.many_tag_characters.ensures.front c.many_tag_characters.ensures.stop c.split_at.ensures.front c.split_at.ensures.back in
    let behind : IsBehindTag rest c.if-as_bytes-lt1.value.now = elim c.if-as_bytes-lt1.branch [
      | in-empty w ↦ behind_none rest c.if-as_bytes-lt1.value.now (rw (sym c.as_bytes.ensures.value) (omega arith)) (ap (λ x. x.now) w.value-is)
      | in-32 w ↦ behind_space rest c.if-as_bytes-lt1.value.now (rw (sym c.as_bytes.ensures.value) (omega arith)) (rw (sym c.as_bytes.ensures.value) (omega arith)) (ap (λ x. x.now) w.value-is ∙ w.range_from-value.ensures.value)
    ] in
    (refl, ap is_tag (word_is_tag text tag rest c.if-as_bytes-lt1.value.now cut behind) ∙ sym c.if-begins_as_tag.ensures)
