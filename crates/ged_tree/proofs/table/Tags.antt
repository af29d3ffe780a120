-- A structure's tag, identifier and payload, cut from its text where its tag is kept.
use Rattle.std.proofs.Common.{◌≡◌, ◌≢◌, ℕ, ◌+◌, ◌-◌, ◌/◌, ◌%◌, ◌<◌, ◌≤◌, ◌==◌, true, [], ◌∷◌, ◌++◌, Option, Some, None, length, take, drop, get_or, decimal, refl, sym, ◌∙◌, ap, subst, arith, inl, inr, append_assoc, append-nil, length-append}
use Rattle.std.proofs.lemmas.List.{take_at, drop_at, get_or-append_right}
use Rattle.std.proofs.lemmas.Bool.{true≢false}
use Rattle.std.proofs.lemmas.Bool.Decides.{nat_tests}
use Rattle.std.proofs.lemmas.Fmt.{decimal_digit, decimal_step}
use Rattle.std.proofs.lemmas.Str.{IsCharBoundary-end, IsCharBoundary-before_ascii}
use Rattle.std.specs.Str.{IsCharBoundary}
use Rattle.ged_line.specs.Bytes.{Bytes}
use Rattle.ged_line.specs.Characters.{is_tag_character}
use Rattle.ged_line.specs.Lines.{LineParts, may_be_xref, xref_part, is_value, Value, Empty, Void, Pointer, Text}
use Rattle.ged_line.specs.inner.LineTexts.{IsValuePart, LineInParts}
use Rattle.ged_line.specs.Spelling.{LineText, value_part}
use Rattle.ged_tree.proofs.theory.LineParts.{line_is, AreTagCharacters, bool_cases}
use Rattle.ged_line.proofs.CallerLemmas.{part_ends, tag_each, xref_each, in_parts}
use Rattle.ged_tree.specs.Spelled.{shown_value}
use Rattle.ged_tree.proofs.table.SpelledTexts.{value_shown}

tag_character_ascii : (c : ℕ) → is_tag_character c ≡ true → c < 128
tag_character_ascii c h = grind (arith, nat_tests)

-- bytes before which a text may be cut
abbrev pub BeginsAscii : Bytes → Type 0
BeginsAscii [] = Unit {0}
BeginsAscii (b ∷ bs) = b < 128

boundary : (xs ys : Bytes) → BeginsAscii ys → IsCharBoundary (xs ++ ys) (length xs)
boundary xs [] h = rw append-nil (IsCharBoundary-end xs)
boundary xs (y ∷ ys) h =
    let size = length-append xs (y ∷ ys) in
    let zero : length xs - length xs ≡ 0 = omega arith in
    let here : get_or (xs ++ y ∷ ys) (length xs) 0 ≡ y = get_or-append_right xs (y ∷ ys) (length xs) (length xs) 0 refl (omega arith) ∙ ap (λ (n : ℕ). get_or (y ∷ ys) n 0) zero in
    IsCharBoundary-before_ascii (xs ++ y ∷ ys) (length xs) (omega (arith, size)) (omega (arith, here, h))

-- the middle of three parts, and the last of them
module _ (text xs ys zs : Bytes) (whole : text ≡ xs ++ (ys ++ zs)) (from to : ℕ) (f : from ≡ length xs) (t : to ≡ length xs + length ys) where
  again : text ≡ (xs ++ ys) ++ zs
  again = whole ∙ sym (append_assoc xs ys zs)

  two : to ≡ length (xs ++ ys)
  two = omega (arith, t, length-append xs ys)

  pub middle_boundary : BeginsAscii (ys ++ zs) → IsCharBoundary text from
  middle_boundary h = rw (f, whole) (boundary xs (ys ++ zs) h)

  pub last_boundary : BeginsAscii zs → IsCharBoundary text to
  last_boundary h = rw (two, again) (boundary (xs ++ ys) zs h)

  pub middle_is : take (to - from) (drop from text) ≡ ys
  middle_is =
      let size : to - from ≡ length ys = omega (arith, f, t) in
      rw (size, whole, drop_at xs (ys ++ zs) from (sym f)) (take_at ys zs (length ys) refl)

  pub last_is : drop to text ≡ zs
  last_is = rw again (drop_at (xs ++ ys) zs to (sym two))

  pub middle_fits : (from ≤ to) × (to ≤ length text)
  middle_fits = (omega (arith, f, t), omega (arith, two, ap (λ (bs : Bytes). length bs) again, length-append (xs ++ ys) zs))

pub length-decimal_one : (n : ℕ) → n < 10 → length (decimal n) ≡ 1
length-decimal_one n h = ap (λ (ds : Bytes). length ds) (decimal_digit n h)

pub length-decimal_two : (n : ℕ) → 10 ≤ n → n ≤ 99 → length (decimal n) ≡ 2
length-decimal_two n l h =
    let one = length-decimal_one (n / 10) (omega arith) in
    let both = ap (λ (ds : Bytes). length ds) (decimal_step n l (omega arith)) in
    omega (arith, one, both, length-append (decimal (n / 10)) ((48 + n % 10) ∷ []))

pub begins_characters : (name rest : Bytes) → AreTagCharacters name → BeginsAscii rest → BeginsAscii (name ++ rest)
begins_characters [] rest a h = h
begins_characters (c ∷ cs) rest a h = tag_character_ascii c a.0

pub part_begins : (value : Value) (part : Bytes) → IsValuePart value part → BeginsAscii part
part_begins value part v = elim (part_ends value part v) [
  | inl e ↦ subst BeginsAscii (sym e) tt
  | inr (more, e) ↦ (let low : 32 < 128 = omega arith in subst BeginsAscii (sym e) low)
]

no_name : (xref : Option Bytes) → length (xref_part xref) ≡ 0 → xref ≡ None
no_name None h = refl
no_name (Some name) h = absurd (omega arith)

-- an identifier's bytes, with its signs and the space behind it
pub record HasName (xref : Option Bytes) : Type 0 where
  pub name : Bytes
  pub is : xref ≡ Some name
  pub part : xref_part xref ≡ 64 ∷ (name ++ (64 ∷ 32 ∷ []))
  pub ascii : AreTagCharacters name

has_name : (xref : Option Bytes) → may_be_xref xref ≡ true → length (xref_part xref) ≢ 0 → HasName xref
has_name None x h = absurd (h refl)
has_name (Some name) x h = record { name = name; is = refl; part = refl; ascii = xref_each name x }

-- a part of one byte is the space of an empty value, and any other part is the canonical one
alone_empty : (v : Value) (part : Bytes) → is_value v ≡ true → IsValuePart v part → length part ≡ 1 → v ≡ Empty
alone_empty Empty part i e h = refl
alone_empty Void part i e h = absurd (let size = ap (λ (bs : Bytes). length bs) e in omega (arith, h, size))
alone_empty (Pointer name) part i e h =
    absurd (let size = ap (λ (bs : Bytes). length bs) e in omega (arith, h, size, length-append name (64 ∷ [])))
alone_empty (Text []) part i e h = absurd (true≢false (sym i))
alone_empty (Text (c ∷ cs)) part i e h = elim (bool_cases (c == 64)) [
  | inl s ↦ absurd (let size = ap (λ (bs : Bytes). length bs) (rw s at e) in omega (arith, h, size))
  | inr n ↦ absurd (let size = ap (λ (bs : Bytes). length bs) (rw n at e) in omega (arith, h, size))
]

part_spelled : (v : Value) (part : Bytes) → IsValuePart v part → ¬ (length part ≡ 1) → part ≡ value_part v
part_spelled Empty part (inl e) other = e
part_spelled Empty part (inr e) other = absurd (other (ap (λ (bs : Bytes). length bs) e))
part_spelled Void part e other = e
part_spelled (Pointer name) part e other = e
part_spelled (Text text) part e other = e

-- a line's text, whose tag begins at a place and has a length
module _ (line : LineParts) (text : Bytes) (spelled : LineText line text) (start size : ℕ)
    (at : start ≡ length (decimal line.level) + 1 + length (xref_part line.xref)) (long : size ≡ length line.tag) where
  abbrev t : LineInParts line text
  t = in_parts line text spelled

  abbrev front : Bytes
  front = decimal line.level ++ (32 ∷ xref_part line.xref)

  whole_line : text ≡ front ++ (line.tag ++ t.value_part)
  whole_line = t.spelled ∙ sym (append_assoc (decimal line.level) (32 ∷ xref_part line.xref) (line.tag ++ t.value_part))

  begins : start ≡ length front
  begins = omega (arith, at, length-append (decimal line.level) (32 ∷ xref_part line.xref))

  ends : start + size ≡ length front + length line.tag
  ends = omega (arith, begins, long)

  pub part_is_ascii : BeginsAscii t.value_part
  part_is_ascii = part_begins line.value t.value_part t.value

  pub tag_boundary : IsCharBoundary text start
  tag_boundary = middle_boundary text front line.tag t.value_part whole_line start (start + size) begins ends
      (begins_characters line.tag t.value_part (tag_each line.tag (line_is line t.is_line).tag) part_is_ascii)

  pub part_boundary : IsCharBoundary text (start + size)
  part_boundary = last_boundary text front line.tag t.value_part whole_line start (start + size) begins ends part_is_ascii

  pub tag_fits : start + size ≤ length text
  tag_fits = (middle_fits text front line.tag t.value_part whole_line start (start + size) begins ends).1

  pub tag_is : take (start + size - start) (drop start text) ≡ line.tag
  tag_is = middle_is text front line.tag t.value_part whole_line start (start + size) begins ends

  pub part_is : drop (start + size) text ≡ t.value_part
  part_is = last_is text front line.tag t.value_part whole_line start (start + size) begins ends

  rest_is : drop start text ≡ line.tag ++ t.value_part
  rest_is = ap (λ (bs : Bytes). drop start bs) whole_line ∙ drop_at front (line.tag ++ t.value_part) start (sym begins)

  whole_length : length text ≡ start + size + length t.value_part
  whole_length = omega (arith, ends, ap (λ (bs : Bytes). length bs) whole_line, length-append front (line.tag ++ t.value_part), length-append line.tag t.value_part)

  -- behind the tag of an empty value one space may stand
  pub rest_alone : length text ≡ start + size + 1 → take (start + size - start) (drop start text) ≡ line.tag ++ value_part line.value
  rest_alone e =
      let empty = alone_empty line.value t.value_part (line_is line t.is_line).value t.value (omega (arith, e, whole_length)) in
      tag_is ∙ sym (append-nil line.tag) ∙ ap (λ (v : Value). line.tag ++ value_part v) (sym empty)

  pub rest_whole : ¬ (length text ≡ start + size + 1) → drop start text ≡ line.tag ++ value_part line.value
  rest_whole other =
      rest_is ∙ ap (λ (bs : Bytes). line.tag ++ bs) (part_spelled line.value t.value_part t.value (λ (z : length t.value_part ≡ 1). other (omega (arith, z, whole_length))))

  -- straight behind the level, and with no space alone behind the tag, the text is the canonical spelling
  pub bare_line : start ≡ length (decimal line.level) + 1 → ¬ (length text ≡ start + size + 1) → text ≡ decimal line.level ++ (32 ∷ (line.tag ++ value_part line.value))
  bare_line first other =
      whole_line
      ∙ ap (λ (bs : Bytes). (decimal line.level ++ (32 ∷ bs)) ++ (line.tag ++ t.value_part)) (ap xref_part (no_name line.xref (omega (arith, at, first))))
      ∙ append_assoc (decimal line.level) (32 ∷ []) (line.tag ++ t.value_part)
      ∙ ap (λ (bs : Bytes). decimal line.level ++ (32 ∷ (line.tag ++ bs))) (part_spelled line.value t.value_part t.value (λ (z : length t.value_part ≡ 1). other (omega (arith, z, whole_length))))

  pub part_shown : shown_value t.value_part ≡ line.value
  part_shown = value_shown line.value t.value_part (line_is line t.is_line).value t.value

  pub none_before : start ≡ length (decimal line.level) + 1 → line.xref ≡ None
  none_before e = no_name line.xref (omega (arith, at, e))

  module _ (other : start ≢ length (decimal line.level) + 1) where
    pub named : HasName line.xref
    named = has_name line.xref (line_is line t.is_line).xref (λ (z : length (xref_part line.xref) ≡ 0). other (omega (arith, at, z)))

    abbrev rest : Bytes
    rest = 64 ∷ 32 ∷ (line.tag ++ t.value_part)

    name_cut : text ≡ (decimal line.level ++ (32 ∷ 64 ∷ [])) ++ (named.name ++ rest)
    name_cut =
        t.spelled
        ∙ ap (λ (bs : Bytes). decimal line.level ++ (32 ∷ (bs ++ (line.tag ++ t.value_part)))) named.part
        ∙ ap (λ (bs : Bytes). decimal line.level ++ (32 ∷ 64 ∷ bs)) (append_assoc named.name (64 ∷ 32 ∷ []) (line.tag ++ t.value_part))
        ∙ sym (append_assoc (decimal line.level) (32 ∷ 64 ∷ []) (named.name ++ rest))

    size_of_name : length (xref_part line.xref) ≡ length named.name + 3
    size_of_name = omega (arith, ap (λ (bs : Bytes). length bs) named.part, length-append named.name (64 ∷ 32 ∷ []))

    name_from : length (decimal line.level) + 1 + 1 ≡ length (decimal line.level ++ (32 ∷ 64 ∷ []))
    name_from = omega (arith, length-append (decimal line.level) (32 ∷ 64 ∷ []))

    name_to : start - 2 ≡ length (decimal line.level ++ (32 ∷ 64 ∷ [])) + length named.name
    name_to = omega (arith, at, size_of_name, name_from)

    ascii_rest : BeginsAscii rest
    ascii_rest = omega arith

    pub name_boundary : IsCharBoundary text (length (decimal line.level) + 1 + 1)
    name_boundary = middle_boundary text (decimal line.level ++ (32 ∷ 64 ∷ [])) named.name rest name_cut (length (decimal line.level) + 1 + 1) (start - 2) name_from name_to (begins_characters named.name rest named.ascii ascii_rest)

    pub name_end_boundary : IsCharBoundary text (start - 2)
    name_end_boundary = last_boundary text (decimal line.level ++ (32 ∷ 64 ∷ [])) named.name rest name_cut (length (decimal line.level) + 1 + 1) (start - 2) name_from name_to ascii_rest

    pub name_fits : (length (decimal line.level) + 1 + 1 ≤ start - 2) × (start - 2 ≤ length text)
    name_fits = middle_fits text (decimal line.level ++ (32 ∷ 64 ∷ [])) named.name rest name_cut (length (decimal line.level) + 1 + 1) (start - 2) name_from name_to

    pub name_room : 2 ≤ start
    name_room = omega (arith, at, size_of_name)

    pub name_is : take (start - 2 - (length (decimal line.level) + 1 + 1)) (drop (length (decimal line.level) + 1 + 1) text) ≡ named.name
    name_is = middle_is text (decimal line.level ++ (32 ∷ 64 ∷ [])) named.name rest name_cut (length (decimal line.level) + 1 + 1) (start - 2) name_from name_to
