use Rattle.std.proofs.Common.{◌≡◌, ◌<◌, ◌≤◌, ◌+◌, ◌-◌, ◌++◌, ◌∷◌, [], length, take, drop, get_or, refl, ap, ◌∙◌, subst, arith}
use Rattle.std.proofs.Math.Seq.{take-append_seam, drop-append-add}
use Rattle.std.proofs.lemmas.List.{length-append, get_or-append_right}
use Rattle.std.proofs.lemmas.Str.{lead_after_ascii}
use Rattle.ged_line.specs.Bytes.{Bytes}
use Rattle.ged_canon.proofs.writer.lines.name_behind.Goals as goal

-- how long a tag and a pointer are together
long : (tag name : Bytes) → length (tag ++ 32 ∷ 64 ∷ (name ++ 64 ∷ [])) ≡ length tag + 3 + length name
long tag name = omega (arith, length-append tag (32 ∷ 64 ∷ (name ++ 64 ∷ [])), length-append name (64 ∷ []))

pub range-requires-clause-start_boundary : goal.range-requires-clause-start_boundary
range-requires-clause-start_boundary c =
    let rest = c.args.rest.now in
    let tag = c.args.tag.now in
    let name = c.requires.0 in
    let count : length rest ≡ length tag + 3 + length name = ap length c.requires.1 ∙ long tag name in
    let behind = 32 ∷ 64 ∷ (name ++ 64 ∷ []) in
    let one : length tag + 1 - length tag ≡ 1 = omega arith in
    let two : length tag + 1 + 1 ≡ length tag + 2 = omega arith in
    let sign : get_or rest (length tag + 1) 0 ≡ 64 =
    ap (λ xs. get_or xs (length tag + 1) 0) c.requires.1 ∙ get_or-append_right tag behind (length tag) (length tag + 1) 0 refl (omega arith) ∙ ap (λ n. get_or behind n 0) one in
    let lead = lead_after_ascii rest (length tag + 1) c.utf8.rest (omega (arith, sign)) in
    λ _. (omega (arith, count), subst (λ at. at < length rest → 128 ≤ get_or rest at 0 → 192 ≤ get_or rest at 0) two lead)

pub returns : goal.returns
returns c = λ name is.
    let tag = c.args.tag.now in
    let behind = 32 ∷ 64 ∷ (name ++ 64 ∷ []) in
    c.range.ensures.value
    ∙ (λ i. take (length (is i) - 1 - (length tag + 2)) (drop (length tag + 2) (is i)))
    ∙ ap (λ xs. take (length (tag ++ behind) - 1 - (length tag + 2)) xs) (drop-append-add tag behind 2)
    ∙ ap (λ n. take n (name ++ 64 ∷ [])) (omega (arith, long tag name))
    ∙ take-append_seam name (64 ∷ [])
