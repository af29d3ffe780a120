-- A piece has one line or one fault.
use Rattle.std.proofs.Common.{◌≡◌, ◌≢◌, ℕ, ◌<◌, ◌≤◌, Bool, true, false, List, [], ◌∷◌, ◌++◌, ◌⊎◌, inl, inr, Option, Some, None, Result, Ok, Err, length, get_or, refl, sym, ◌∙◌, ap, subst, arith, decimal, codes, ◌==◌, ◌&&◌, not, nat_le, cond}
use Rattle.std.proofs.lemmas.List.{append_assoc, append_cancel_right, append_cancel_left}
use Rattle.std.proofs.lemmas.Bool.Decides.{nat_tests}
use Rattle.std.proofs.lemmas.Fmt.{decimal_injective}
use Rattle.std.proofs.lemmas.Str.{IsUtf8-from_ascii, IsUtf8-append, NoCharPasses-append, encode_ascii}
use Rattle.std.proofs.lemmas.Str.Ascii.{IsAscii-cons, IsAscii-nil}
use native.Mathlib.Decide.{dec_lt}
use Rattle.std.specs.Result.{MatchResult, IsOk, IsOkAnd, IfOk, IfErr}
use Rattle.ged_line.specs.Laws.{IsLineOrFaulty}
use Rattle.std.specs.List.{AllByRecursion}
use Rattle.std.specs.Str.{NoCharPasses, IsUtf8}
use lib.Utf8.{encodes}
use Rattle.ged_line.specs.Bytes.{at_sign}
use Rattle.ged_line.specs.Characters.{is_tag_character, is_plain, is_banned}
use Rattle.std.specs.Char.{is_ascii_digit}
use Rattle.ged_line.specs.Names.{is_tag, is_xref}
use Rattle.ged_line.specs.Lines.{LineParts, Value, Empty, Void, Pointer, Text, is_value, may_be_xref, is_line, xref_part, doubled}
use Rattle.ged_line.specs.inner.LineTexts.{is_line_text, IsValuePart, LineInParts}
use Rattle.ged_line.specs.Spelling.{LineText}
use Rattle.ged_line.specs.Faults.{StandsAt, IsFaultOf, line_fault_number, BeginsWith, IsPointer}
use Rattle.ged_line.proofs.line.LineTexts.{in_parts}
use Rattle.ged_line.proofs.line.NameTests.{and_left, and_right, tag_each, tag_some, xref_each, xref_not_void}
use Rattle.ged_line.proofs.bytes.Banned.{IsUtf8-plain, NoCharPasses-plain, has_banned-none}
use Rattle.ged_line.specs.declared.fault.LineFault.{LineFault}
use Rattle.ged_line.specs.declared.fault.LineFault.TheVariants.{NotUtf8, BannedCharacter, EmptyLine, BadLevel, LevelTooLarge, BadXref, BadTag, BadValue}
use Rattle.ged_line.proofs.line.Cuts.{tag_character_not_at, AllByRecursion-weaker}
use Rattle.ged_line.proofs.line.Levels.{level_each, is_level-decimal}
use Rattle.ged_line.proofs.line.Scans.{Leveled, IsXrefCut, IsTagCut, word_tag, same_after, Leveled-after, same_cut, same_from_tag, no_tag_fault}

-- a text that may stand in a line, in std's words
abbrev pub IsPlain : List ℕ → Type 0
IsPlain bytes = IsUtf8 bytes × NoCharPasses is_banned bytes

pub IsPlain-from : (bs : List ℕ) → is_plain bs ≡ true → IsPlain bs
IsPlain-from bs h = (IsUtf8-plain bs h, NoCharPasses-plain bs h)

-- what the test of a line says
pub record LineIs (line : LineParts) : Type 0 where
  pub level : line.level ≤ 99
  pub xref : may_be_xref line.xref ≡ true
  pub tag : is_tag line.tag ≡ true
  pub value : is_value line.value ≡ true

small_from : (n : ℕ) → nat_le n 99 ≡ true → n ≤ 99
small_from n h = grind (arith, nat_tests)

pub line_is : (line : LineParts) → is_line line ≡ true → LineIs line
line_is line h =
    let named : (nat_le line.level 99 && may_be_xref line.xref && is_tag line.tag) ≡ true = and_left (nat_le line.level 99 && may_be_xref line.xref && is_tag line.tag) (is_value line.value) h in
    let front : (nat_le line.level 99 && may_be_xref line.xref) ≡ true = and_left (nat_le line.level 99 && may_be_xref line.xref) (is_tag line.tag) named in
    record {
      level = small_from line.level (and_left (nat_le line.level 99) (may_be_xref line.xref) front);
      xref = and_right (nat_le line.level 99) (may_be_xref line.xref) front;
      tag = and_right (nat_le line.level 99 && may_be_xref line.xref) (is_tag line.tag) named;
      value = and_right (nat_le line.level 99 && may_be_xref line.xref && is_tag line.tag) (is_value line.value) h;
    }

not_empty : (text : List ℕ) → is_line_text text ≡ true → text ≢ []
not_empty text h e = let z : is_line_text [] ≡ true = rw e at h in cc

text_plain : (text : List ℕ) → is_line_text text ≡ true → IsPlain text
text_plain text h = IsPlain-from text (and_right (not (length text == 0)) (is_plain text) h)

-- ASCII text that may stand in a line
abbrev pub IsGraphic : ℕ → Type 0
IsGraphic c = (32 ≤ c) × (c < 127)

graphic_fine : (c : ℕ) → IsGraphic c → is_banned c ≡ false
graphic_fine c h = let a = h.0 in let b = h.1 in grind (arith, nat_tests)

one_plain : (c : ℕ) → IsGraphic c → IsPlain (c ∷ [])
one_plain c h =
    let b = h.1 in
    let e : encodes (c ∷ []) ≡ c ∷ [] = ap (λ x. x ++ []) (encode_ascii c (omega arith)) in
    (IsUtf8-from_ascii (c ∷ []) (IsAscii-cons c [] (omega arith) IsAscii-nil), (c ∷ [], e, (graphic_fine c h, tt)))

pub IsPlain-append : (xs ys : List ℕ) → IsPlain xs → IsPlain ys → IsPlain (xs ++ ys)
IsPlain-append xs ys a b = (IsUtf8-append xs ys a.0 b.0, NoCharPasses-append is_banned xs ys a.1 b.1)

nil_plain : IsPlain []
nil_plain = (([], (refl, refl)), ([], refl, tt))

pub IsPlain-graphic : (xs : List ℕ) → AllByRecursion IsGraphic xs → IsPlain xs
IsPlain-graphic [] a = nil_plain
IsPlain-graphic (c ∷ cs) a = IsPlain-append (c ∷ []) cs (one_plain c a.0) (IsPlain-graphic cs a.1)

tag_character_graphic : (c : ℕ) → is_tag_character c ≡ true → IsGraphic c
tag_character_graphic c h = (grind (arith, nat_tests), grind (arith, nat_tests))

digit_graphic : (c : ℕ) → is_ascii_digit c ≡ true → IsGraphic c
digit_graphic c h = (grind (arith, nat_tests), grind (arith, nat_tests))

small_graphic : (c : ℕ) → 32 ≤ c → c < 127 → IsPlain (c ∷ [])
small_graphic c l h = one_plain c (l, h)

name_plain : (name : List ℕ) → AllByRecursion (λ c. is_tag_character c ≡ true) name → IsPlain name
name_plain name a = IsPlain-graphic name (AllByRecursion-weaker _ _ tag_character_graphic name a)

xref_plain : (xref : Option (List ℕ)) → may_be_xref xref ≡ true → IsPlain (xref_part xref)
xref_plain None x = nil_plain
xref_plain (Some name) x =
    IsPlain-append (64 ∷ []) (name ++ (64 ∷ 32 ∷ [])) (small_graphic 64 (omega arith) (omega arith))
    (IsPlain-append name (64 ∷ 32 ∷ []) (name_plain name (xref_each name x)) (IsPlain-append (64 ∷ []) (32 ∷ []) (small_graphic 64 (omega arith) (omega arith)) (small_graphic 32 (omega arith) (omega arith))))

doubled_by : (b : Bool) (c : ℕ) (cs : List ℕ) → (cond b (64 ∷ c ∷ cs) (c ∷ cs) ≡ c ∷ cs) ⊎ (cond b (64 ∷ c ∷ cs) (c ∷ cs) ≡ 64 ∷ c ∷ cs)
doubled_by true c cs = inr refl
doubled_by false c cs = inl refl

doubled_is : (text : List ℕ) → (doubled text ≡ text) ⊎ (doubled text ≡ 64 ∷ text)
doubled_is [] = inl refl
doubled_is (c ∷ cs) = doubled_by (c == 64) c cs

signs : IsPlain (32 ∷ 64 ∷ [])
signs = IsPlain-append (32 ∷ []) (64 ∷ []) (small_graphic 32 (omega arith) (omega arith)) (small_graphic 64 (omega arith) (omega arith))

value_plain : (value : Value) (part : List ℕ) → is_value value ≡ true → IsValuePart value part → IsPlain part
value_plain Empty part v (inl e) = subst IsPlain (sym e) nil_plain
value_plain Empty part v (inr e) = subst IsPlain (sym e) (small_graphic 32 (omega arith) (omega arith))
value_plain Void part v e = subst IsPlain (sym e) (IsPlain-append (32 ∷ 64 ∷ []) (86 ∷ 79 ∷ 73 ∷ 68 ∷ 64 ∷ []) signs
    (IsPlain-graphic (86 ∷ 79 ∷ 73 ∷ 68 ∷ 64 ∷ []) ((omega arith, omega arith), ((omega arith, omega arith), ((omega arith, omega arith), ((omega arith, omega arith), ((omega arith, omega arith), tt)))))))
value_plain (Pointer name) part v e = subst IsPlain (sym e) (IsPlain-append (32 ∷ 64 ∷ []) (name ++ (64 ∷ [])) signs
    (IsPlain-append name (64 ∷ []) (name_plain name (xref_each name v)) (small_graphic 64 (omega arith) (omega arith))))
value_plain (Text text) part v e = subst IsPlain (sym e) (IsPlain-append (32 ∷ []) (doubled text) (small_graphic 32 (omega arith) (omega arith))
    (elim (doubled_is text) [
      | inl d ↦ subst IsPlain (sym d) (text_plain text v)
      | inr d ↦ subst IsPlain (sym d) (IsPlain-append (64 ∷ []) text (small_graphic 64 (omega arith) (omega arith)) (text_plain text v))
    ]))

parts_plain : (line : LineParts) (piece : List ℕ) → LineInParts line piece → IsPlain piece
parts_plain line piece t = subst IsPlain (sym t.spelled)
    (IsPlain-append (decimal line.level) (32 ∷ (xref_part line.xref ++ (line.tag ++ t.value_part)))
    (IsPlain-graphic (decimal line.level) (AllByRecursion-weaker _ _ digit_graphic (decimal line.level) (level_each (decimal line.level) (is_level-decimal line.level (line_is line t.is_line).level).0)))
    (IsPlain-append (32 ∷ []) (xref_part line.xref ++ (line.tag ++ t.value_part)) (small_graphic 32 (omega arith) (omega arith))
    (IsPlain-append (xref_part line.xref) (line.tag ++ t.value_part) (xref_plain line.xref (line_is line t.is_line).xref)
    (IsPlain-append line.tag t.value_part (name_plain line.tag (tag_each line.tag (line_is line t.is_line).tag)) (value_plain line.value t.value_part (line_is line t.is_line).value t.value)))))

line_leveled : (line : LineParts) (piece : List ℕ) (t : LineInParts line piece) → Leveled piece line.level (xref_part line.xref ++ (line.tag ++ t.value_part))
line_leveled line piece t = record { utf8 = (parts_plain line piece t).0; unbanned = has_banned-none piece (parts_plain line piece t).0 (parts_plain line piece t).1; small = (line_is line t.is_line).level; spelled = t.spelled }

no_sign : (tag part : List ℕ) → is_tag tag ≡ true → ¬ (BeginsWith at_sign (tag ++ part))
no_sign [] part t b = tag_some t
no_sign (c ∷ cs) part t (rest, e) =
    let first : c ≡ 64 = cc in
    tag_character_not_at c (tag_each (c ∷ cs) t).0 first

line_cut : (xref : Option (List ℕ)) (tag part : List ℕ) → may_be_xref xref ≡ true → is_tag tag ≡ true → IsXrefCut (xref_part xref ++ (tag ++ part)) xref (tag ++ part)
line_cut None tag part x t = (refl, no_sign tag part t)
line_cut (Some name) tag part x t = record { name_is = x; spelled = ap (λ w. 64 ∷ w) (append_assoc name (64 ∷ 32 ∷ []) (tag ++ part)) }

pub part_ends : (value : Value) (part : List ℕ) → IsValuePart value part → (part ≡ []) ⊎ ((more : List ℕ) × (part ≡ 32 ∷ more))
part_ends Empty part (inl e) = inl e
part_ends Empty part (inr e) = inr ([], e)
part_ends Void part e = inr (64 ∷ 86 ∷ 79 ∷ 73 ∷ 68 ∷ 64 ∷ [], e)
part_ends (Pointer name) part e = inr (64 ∷ (name ++ (64 ∷ [])), e)
part_ends (Text text) part e = inr (doubled text, e)

line_tag : (line : LineParts) (piece : List ℕ) (t : LineInParts line piece) → IsTagCut (line.tag ++ t.value_part) line.tag t.value_part
line_tag line piece t = ((line_is line t.is_line).tag, part_ends line.value t.value_part t.value, refl)

tag_cut_same : (rest tag part other back : List ℕ) → IsTagCut rest tag part → IsTagCut rest other back → (tag ≡ other) × (part ≡ back)
tag_cut_same rest tag part other back t u =
    let same : tag ≡ other = sym (word_tag rest tag part t) ∙ word_tag rest other back u in
    let parts : tag ++ part ≡ tag ++ back = sym t.2 ∙ u.2 ∙ ap (λ x. x ++ back) (sym same) in
    (same, append_cancel_left tag part back parts)

doubled_sign_by : (b : Bool) (c : ℕ) (cs more : List ℕ) → (c == 64) ≡ b → cond b (64 ∷ c ∷ cs) (c ∷ cs) ≡ 64 ∷ more → BeginsWith at_sign more
doubled_sign_by true c cs more k e =
    let is : c ≡ 64 = grind (arith, nat_tests) in
    (cs, let tail : c ∷ cs ≡ more = cc in sym tail ∙ ap (λ x. x ∷ cs) is)
doubled_sign_by false c cs more k e =
    let is : c ≡ 64 = cc in
    absurd (grind (arith, nat_tests))

doubled_sign : (text more : List ℕ) → doubled text ≡ 64 ∷ more → BeginsWith at_sign more
doubled_sign [] more e = cc
doubled_sign (c ∷ cs) more e = doubled_sign_by (c == 64) c cs more refl e

doubled_of_sign : (text rest : List ℕ) → text ≡ 64 ∷ rest → doubled text ≡ text → ⊥
doubled_of_sign text rest e d =
    let long : 64 ∷ 64 ∷ rest ≡ 64 ∷ rest = sym (ap doubled e) ∙ d ∙ e in
    let count : length (64 ∷ 64 ∷ rest) ≡ length (64 ∷ rest) = ap length long in
    omega arith

doubled_same : (s t : List ℕ) → doubled s ≡ doubled t → s ≡ t
doubled_same s t e = elim (doubled_is s) [
  | inl a ↦ elim (doubled_is t) [
    | inl b ↦ sym a ∙ e ∙ b
    | inr b ↦ absurd (doubled_of_sign s t (sym a ∙ e ∙ b) a)
  ]
  | inr a ↦ elim (doubled_is t) [
    | inl b ↦ absurd (doubled_of_sign t s (sym b ∙ sym e ∙ a) b)
    | inr b ↦ let both : 64 ∷ s ≡ 64 ∷ t = sym a ∙ e ∙ b in cc
  ]
]

-- a text part is no pointer's
no_doubled_name : (name text : List ℕ) → is_xref name ≡ true → doubled text ≡ 64 ∷ (name ++ (64 ∷ [])) → ⊥
no_doubled_name [] text x e = cc
no_doubled_name (c ∷ cs) text x e =
    let begins = doubled_sign text ((c ∷ cs) ++ (64 ∷ [])) e in
    let rest = begins.0 in
    let is : (c ∷ cs) ++ (64 ∷ []) ≡ 64 ∷ rest = begins.1 in
    let first : c ≡ 64 = cc in
    tag_character_not_at c (xref_each (c ∷ cs) x).0 first

no_doubled_void : (text : List ℕ) → doubled text ≡ codes "@VOID@" → ⊥
no_doubled_void text e =
    let begins = doubled_sign text (codes "VOID@") e in
    let first : get_or (codes "VOID@") 0 0 ≡ 64 = ap (λ xs. get_or xs 0 0) begins.1 in
    omega arith

no_void_name : (name : List ℕ) → is_xref name ≡ true → name ++ (64 ∷ []) ≡ codes "VOID@" → ⊥
no_void_name name x e = xref_not_void name x (append_cancel_right name (codes "VOID") (64 ∷ []) e)

nonempty_doubled : (text : List ℕ) → (text ≢ []) → doubled text ≡ [] → ⊥
nonempty_doubled text n e = elim (doubled_is text) [ inl d ↦ n (sym d ∙ e) | inr d ↦ let z : 64 ∷ text ≡ [] = sym d ∙ e in cc ]

value_same : (v w : Value) (part : List ℕ) → is_value v ≡ true → is_value w ≡ true → IsValuePart v part → IsValuePart w part → v ≡ w
value_same Empty Empty part i j e f = refl
value_same Empty Void part i j (inl e) f = cc
value_same Empty Void part i j (inr e) f = cc
value_same Empty (Pointer name) part i j (inl e) f = cc
value_same Empty (Pointer name) part i j (inr e) f = cc
value_same Empty (Text text) part i j (inl e) f = cc
value_same Empty (Text text) part i j (inr e) f = let z : doubled text ≡ [] = cc in absurd (nonempty_doubled text (not_empty text j) z)
value_same Void Empty part i j e (inl f) = cc
value_same Void Empty part i j e (inr f) = cc
value_same Void Void part i j e f = refl
value_same Void (Pointer name) part i j e f = let z : name ++ (64 ∷ []) ≡ codes "VOID@" = cc in absurd (no_void_name name j z)
value_same Void (Text text) part i j e f = let z : doubled text ≡ codes "@VOID@" = cc in absurd (no_doubled_void text z)
value_same (Pointer name) Empty part i j e (inl f) = cc
value_same (Pointer name) Empty part i j e (inr f) = cc
value_same (Pointer name) Void part i j e f = let z : name ++ (64 ∷ []) ≡ codes "VOID@" = cc in absurd (no_void_name name i z)
value_same (Pointer name) (Pointer other) part i j e f =
    let z : name ++ (64 ∷ []) ≡ other ++ (64 ∷ []) = cc in
    ap Pointer (append_cancel_right name other (64 ∷ []) z)
value_same (Pointer name) (Text text) part i j e f = let z : doubled text ≡ 64 ∷ (name ++ (64 ∷ [])) = cc in absurd (no_doubled_name name text i z)
value_same (Text text) Empty part i j e (inl f) = cc
value_same (Text text) Empty part i j e (inr f) = let z : doubled text ≡ [] = cc in absurd (nonempty_doubled text (not_empty text i) z)
value_same (Text text) Void part i j e f = let z : doubled text ≡ codes "@VOID@" = cc in absurd (no_doubled_void text z)
value_same (Text text) (Pointer name) part i j e f = let z : doubled text ≡ 64 ∷ (name ++ (64 ∷ [])) = cc in absurd (no_doubled_name name text j z)
value_same (Text text) (Text other) part i j e f = let z : doubled text ≡ doubled other = cc in ap Text (doubled_same text other z)

-- the fault of a value doesn't stand at a line
no_value_fault : (value : Value) (part more : List ℕ) → is_value value ≡ true → IsValuePart value part → part ≡ 32 ∷ 64 ∷ more → ¬ (IsPointer (64 ∷ more)) → ¬ (BeginsWith at_sign more) → ⊥
no_value_fault Empty part more v (inl e) f p b = cc
no_value_fault Empty part more v (inr e) f p b = cc
no_value_fault Void part more v e f p b = p (codes "VOID", inr refl, let z : more ≡ codes "VOID@" = cc in ap (λ x. 64 ∷ x) z)
no_value_fault (Pointer name) part more v e f p b = p (name, inl v, let z : more ≡ name ++ (64 ∷ []) = cc in ap (λ x. 64 ∷ x) z)
no_value_fault (Text text) part more v e f p b = b (doubled_sign text more (let z : doubled text ≡ 64 ∷ more = cc in z))

bad_value_not_line : (line : LineParts) (piece : List ℕ) → LineInParts line piece → ¬ (StandsAt BadValue piece)
bad_value_not_line line piece t (tag, more, from, passes, p, b) =
    let bytes : List ℕ = xref_part line.xref ++ (line.tag ++ t.value_part) in
    let back : tag ++ (32 ∷ 64 ∷ more) ≡ line.tag ++ t.value_part =
    same_from_tag piece line.level bytes line.xref (line.tag ++ t.value_part) (tag ++ (32 ∷ 64 ∷ more)) (line_leveled line piece t) (line_cut line.xref line.tag t.value_part (line_is line t.is_line).xref (line_is line t.is_line).tag) from in
    let same = tag_cut_same (tag ++ (32 ∷ 64 ∷ more)) tag (32 ∷ 64 ∷ more) line.tag t.value_part (passes, inr (64 ∷ more, refl), refl) ((line_is line t.is_line).tag, part_ends line.value t.value_part t.value, back) in
    no_value_fault line.value t.value_part more (line_is line t.is_line).value t.value (sym same.1) p b

last_fault : (fault : LineFault) → (line_fault_number fault < 8 → ⊥) → (piece : List ℕ) → StandsAt fault piece → StandsAt BadValue piece
last_fault NotUtf8 ge piece h = absurd (ge (omega arith))
last_fault BannedCharacter ge piece h = absurd (ge (omega arith))
last_fault EmptyLine ge piece h = absurd (ge (omega arith))
last_fault BadLevel ge piece h = absurd (ge (omega arith))
last_fault LevelTooLarge ge piece h = absurd (ge (omega arith))
last_fault BadXref ge piece h = absurd (ge (omega arith))
last_fault BadTag ge piece h = absurd (ge (omega arith))
last_fault BadValue ge piece h = h

abbrev parts : ℕ → Option (List ℕ) → List ℕ → Value → LineParts
parts l x t v = record { level = l; xref = x; tag = t; value = v }

same_parts : (a b : LineParts) → a.level ≡ b.level → a.xref ≡ b.xref → a.tag ≡ b.tag → a.value ≡ b.value → a ≡ b
same_parts a b e f g h =
    ap (λ l. parts l a.xref a.tag a.value) e ∙ ap (λ x. parts b.level x a.tag a.value) f ∙ ap (λ t. parts b.level b.xref t a.value) g ∙ ap (λ v. parts b.level b.xref b.tag v) h

parts_no_fault : (line : LineParts) (piece : List ℕ) → LineInParts line piece → (fault : LineFault) → ¬ (StandsAt fault piece)
parts_no_fault line piece t fault h = elim (dec_lt (line_fault_number fault) 8) [
  | yes lt ↦ no_tag_fault piece line.level (xref_part line.xref ++ (line.tag ++ t.value_part)) line.xref (line.tag ++ t.value_part) line.tag t.value_part
      (line_leveled line piece t) (line_cut line.xref line.tag t.value_part (line_is line t.is_line).xref (line_is line t.is_line).tag) (line_tag line piece t) fault lt h
  | no ge ↦ bad_value_not_line line piece t (last_fault fault ge piece h)
]

parts_one_line : (line other : LineParts) (piece : List ℕ) → LineInParts line piece → LineInParts other piece → line ≡ other
parts_one_line line other piece t u =
    let level = same_after piece line.level (xref_part line.xref ++ (line.tag ++ t.value_part)) (decimal other.level) (xref_part other.xref ++ (other.tag ++ u.value_part))
    (line_leveled line piece t) (Leveled-after piece other.level (xref_part other.xref ++ (other.tag ++ u.value_part)) (line_leveled other piece u)) in
    let a = (line_is line t.is_line).level in
    let b = (line_is other u.is_line).level in
    let levels : line.level ≡ other.level = sym (decimal_injective other.level line.level (omega arith) (omega arith) level.0) in
    let moved : IsXrefCut (xref_part line.xref ++ (line.tag ++ t.value_part)) other.xref (other.tag ++ u.value_part) =
    subst (λ bytes. IsXrefCut bytes other.xref (other.tag ++ u.value_part)) level.1 (line_cut other.xref other.tag u.value_part (line_is other u.is_line).xref (line_is other u.is_line).tag) in
    let cut = same_cut (xref_part line.xref ++ (line.tag ++ t.value_part)) line.xref other.xref (line.tag ++ t.value_part) (other.tag ++ u.value_part) (line_cut line.xref line.tag t.value_part (line_is line t.is_line).xref (line_is line t.is_line).tag) moved in
    let tags = tag_cut_same (line.tag ++ t.value_part) line.tag t.value_part other.tag u.value_part (line_tag line piece t) ((line_is other u.is_line).tag, part_ends other.value u.value_part u.value, cut.1) in
    let values : line.value ≡ other.value = value_same line.value other.value t.value_part (line_is line t.is_line).value (line_is other u.is_line).value t.value (subst (λ x. IsValuePart other.value x) (sym tags.1) u.value) in
    same_parts line other levels cut.0 tags.0 values

pub line_plain : (line : LineParts) (piece : List ℕ) → LineText line piece → IsPlain piece
line_plain line piece t = parts_plain line piece (in_parts line piece t)

-- no fault stands at a line
pub no_fault : (line : LineParts) (piece : List ℕ) → LineText line piece → (fault : LineFault) → ¬ (StandsAt fault piece)
no_fault line piece t = parts_no_fault line piece (in_parts line piece t)

-- a piece has one line
pub one_line : (line other : LineParts) (piece : List ℕ) → LineText line piece → LineText other piece → line ≡ other
one_line line other piece t u = parts_one_line line other piece (in_parts line piece t) (in_parts other piece u)

pub only_line : (result : Result LineParts LineFault) (piece : List ℕ) → MatchResult result (λ line. LineText line piece) (λ fault. IsFaultOf fault piece)
    → (line : LineParts) → LineText line piece → IsOkAnd result (λ found. found ≡ line)
only_line (Ok found) piece h line t = one_line found line piece h t
only_line (Err fault) piece h line t = no_fault line piece t fault h.stands

pub none_at_line : (result : Result LineParts LineFault) (piece : List ℕ) → MatchResult result (λ line. LineText line piece) (λ fault. IsFaultOf fault piece)
    → IsOk result → (fault : LineFault) → ¬ (StandsAt fault piece)
none_at_line (Ok found) piece h o fault = no_fault found piece h fault
none_at_line (Err f) piece h o fault = cc

pub line_or_faulty : (result : Result LineParts LineFault) (piece : List ℕ) → IfOk result (λ line. LineText line piece) → IfErr result (λ fault. IsFaultOf fault piece) → IsLineOrFaulty piece
line_or_faulty (Ok line) piece t f = inl (line, t, no_fault line piece t)
line_or_faulty (Err fault) piece t f = inr (fault, f, λ line t'. no_fault line piece t' fault f.stands)
