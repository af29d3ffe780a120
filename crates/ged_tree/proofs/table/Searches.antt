-- What stands before a byte that is searched for, and the parts of a line's text that are found by such searches.
use Rattle.std.proofs.Common.{◌≡◌, ℕ, ◌+◌, ◌-◌, ◌<◌, ◌≤◌, Bool, false, [], ◌∷◌, ◌++◌, length, take, drop, get_or, decimal, Option, Some, None, refl, sym, ◌∙◌, ap, arith, append_assoc, length-append}
use Rattle.std.proofs.Math.Seq.{take-length, drop-append-add}
use Rattle.std.proofs.lemmas.Bool.{false_from_ne_true}
use Rattle.std.proofs.lemmas.List.{drop_at}
use Rattle.std.proofs.lemmas.List.Sums.{position_or_len_is}
use Rattle.std.specs.List.{before_first, slice_range}
use Rattle.std.specs.Str.{IsCharBoundary}
use Rattle.memchr.specs.Find.{IsFirstByte}
use Rattle.ged_line.specs.Bytes.{Bytes}
use Rattle.ged_line.specs.Faults.{word}
use Rattle.ged_line.specs.Lines.{LineParts, xref_part}
use Rattle.ged_line.specs.inner.LineTexts.{LineInParts}
use Rattle.ged_line.specs.Spelling.{LineText}
use Rattle.ged_line.proofs.CallerLemmas.{in_parts, part_ends, tag_each, word_tag}
use Rattle.ged_tree.specs.Spelled.{before_sign, from_tag, shown_xref}
use Rattle.ged_tree.proofs.theory.LineParts.{line_is, LineIs}
use Rattle.ged_tree.proofs.table.SpelledTexts.{xref_shown}
use Rattle.ged_tree.proofs.table.Tags.{BeginsAscii, begins_characters, last_boundary, middle_boundary, part_begins}
use Rattle.ged_tree.proofs.table.TextParts.{is_sign}

-- a search that finds a place, and one that finds none
pub before_found : (test : ℕ → Bool) (bytes : Bytes) (place : ℕ)
    → IsFirstByte test bytes (Some place) → slice_range bytes 0 place ≡ before_first test bytes
before_found test bytes place h =
    let whole : place - 0 ≡ place = omega arith in
    let none : (k : ℕ) → k < place → test (get_or bytes k 0) ≡ false =
    λ k l. false_from_ne_true (test (get_or bytes k 0)) (h.0.before k (omega arith) l) in
    let first = position_or_len_is test bytes place 0 (omega (arith, h.0.high)) none (λ l. h.1) in
    rw whole (ap (λ (n : ℕ). take n bytes) (sym first))

pub before_none : (test : ℕ → Bool) (bytes : Bytes) → IsFirstByte test bytes None → bytes ≡ before_first test bytes
before_none test bytes h =
    let none : (k : ℕ) → k < length bytes → test (get_or bytes k 0) ≡ false =
    λ k l. false_from_ne_true (test (get_or bytes k 0)) (h k (omega arith) l) in
    let all = position_or_len_is test bytes (length bytes) 0 (omega arith) none (λ l. absurd (omega arith)) in
    sym (ap (λ (n : ℕ). take n bytes) all ∙ take-length bytes)

-- where a sign stands at the front, an identifier does
pub named_front : (rest : Bytes) → 1 ≤ length rest → get_or rest 0 0 ≡ 64 → shown_xref rest ≡ Some (before_sign (drop 1 rest))
named_front [] some sign = absurd (omega arith)
named_front (c ∷ cs) some sign = rw (is_sign c sign) refl

xref_begins : (xref : Option Bytes) (rest : Bytes) → BeginsAscii rest → BeginsAscii (xref_part xref ++ rest)
xref_begins None rest h = h
xref_begins (Some name) rest h = let low : 64 < 128 = omega arith in low

-- a line's text, and what stands in it behind the level's space
module _ (line : LineParts) (text : Bytes) (spelled : LineText line text) where
  abbrev t : LineInParts line text
  t = in_parts line text spelled

  is : LineIs line
  is = line_is line t.is_line

  abbrev level_size : ℕ
  level_size = length (decimal line.level) + 1

  abbrev behind : Bytes
  behind = drop level_size text

  abbrev tagged : Bytes
  tagged = line.tag ++ t.value_part

  tag_ascii : BeginsAscii tagged
  tag_ascii = begins_characters line.tag t.value_part (tag_each line.tag is.tag) (part_begins line.value t.value_part t.value)

  behind_is : behind ≡ xref_part line.xref ++ tagged
  behind_is =
      ap (λ (bs : Bytes). drop level_size bs) t.spelled
      ∙ drop-append-add (decimal line.level) (32 ∷ (xref_part line.xref ++ tagged)) 1

  pub level_boundary : IsCharBoundary text level_size
  level_boundary =
      let whole = t.spelled ∙ sym (append_assoc (decimal line.level) (32 ∷ []) (xref_part line.xref ++ tagged)) in
      let size = length-append (decimal line.level) (32 ∷ []) in
      middle_boundary text (decimal line.level ++ (32 ∷ [])) (xref_part line.xref) tagged whole
      level_size (level_size + length (xref_part line.xref)) (omega (arith, size)) (omega (arith, size))
      (xref_begins line.xref tagged tag_ascii)

  from_tag_is : from_tag behind ≡ tagged
  from_tag_is = ap from_tag behind_is ∙ (xref_shown line.xref line.tag t.value_part is.xref is.tag).1

  xref_is : shown_xref behind ≡ line.xref
  xref_is = ap shown_xref behind_is ∙ (xref_shown line.xref line.tag t.value_part is.xref is.tag).0

  -- without an identifier the tag stands there
  pub unnamed : None ≡ shown_xref behind → behind ≡ from_tag behind
  unnamed none = behind_is ∙ ap (λ (xref : Option Bytes). xref_part xref ++ tagged) (sym (none ∙ xref_is)) ∙ sym from_tag_is

  module _ (name : Bytes) (some : Some name ≡ shown_xref behind) where
    name_size : length (xref_part line.xref) ≡ length name + 3
    name_size =
        let part = ap (λ (xref : Option Bytes). length (xref_part xref)) (sym (some ∙ xref_is)) in
        omega (arith, part, length-append name (64 ∷ 32 ∷ []))

    pub name_boundary : IsCharBoundary behind (length name + 3)
    name_boundary =
        middle_boundary behind (xref_part line.xref) line.tag t.value_part behind_is (length name + 3) (length name + 3 + length line.tag)
        (sym name_size) (omega (arith, name_size)) tag_ascii

    pub behind_name : drop (length name + 3) behind ≡ from_tag behind
    behind_name =
        ap (λ (bs : Bytes). drop (length name + 3) bs) behind_is
        ∙ drop_at (xref_part line.xref) tagged (length name + 3) name_size
        ∙ sym from_tag_is

  word_is : word (from_tag behind) ≡ line.tag
  word_is = word_tag (from_tag behind) line.tag t.value_part (is.tag, part_ends line.value t.value_part t.value, from_tag_is)

  -- the tag ends where the value begins
  pub word_boundary : IsCharBoundary (from_tag behind) (length (word (from_tag behind)))
  word_boundary =
      let size = ap (λ (bs : Bytes). length bs) word_is in
      last_boundary (from_tag behind) [] line.tag t.value_part from_tag_is 0 (length (word (from_tag behind)))
      refl (omega (arith, size)) (part_begins line.value t.value_part t.value)

  pub behind_word : drop (length (word (from_tag behind))) (from_tag behind) ≡ t.value_part
  behind_word =
      let size = ap (λ (bs : Bytes). length bs) word_is in
      ap (λ (bs : Bytes). drop (length (word (from_tag behind))) bs) from_tag_is
      ∙ drop_at line.tag t.value_part (length (word (from_tag behind))) (sym size)
