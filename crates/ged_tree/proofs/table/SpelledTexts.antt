-- A text shows the line that it spells.
use Rattle.std.proofs.Common.{◌≡◌, ◌≢◌, ℕ, ◌+◌, ◌==◌, true, false, [], ◌∷◌, ◌++◌, Option, Some, None, length, drop, codes, decimal, refl, sym, ◌∙◌, ap, arith, inl, inr, append_assoc}
use Rattle.std.specs.List.{AllByRecursion}
use Rattle.std.specs.Str.{bytes_eq}
use Rattle.std.proofs.Math.Numerals.{one-add}
use Rattle.std.proofs.Math.Seq.{drop-append_seam, drop-append-add}
use Rattle.std.proofs.lemmas.Bool.{true≢false, not-true}
use Rattle.std.proofs.lemmas.Bool.Decides.{nat_tests}
use Rattle.ged_line.specs.Bytes.{Bytes}
use Rattle.ged_line.specs.Faults.{word}
use Rattle.ged_line.specs.Names.{is_tag, is_xref}
use Rattle.ged_line.specs.Lines.{LineParts, line_parts, is_value, may_be_xref, xref_part, Value, Empty, Void, Pointer, Text}
use Rattle.ged_line.specs.inner.LineTexts.{IsValuePart}
use Rattle.ged_line.specs.Spelling.{LineText}
use Rattle.ged_tree.proofs.theory.LineParts.{AreTagCharacters, tag_character_not_at, tag_some, xref_apart, bool_cases, line_is}
use Rattle.ged_line.proofs.CallerLemmas.{tag_each, xref_each, part_ends, word_tag, in_parts}
use Rattle.ged_tree.specs.Spelled.{before_sign, shown_xref, from_tag, shown_pointer, shown_value, shown_rest, shown_line}

no_sign : (c : ℕ) → c ≢ 64 → (c == 64) ≡ false
no_sign c h = grind (arith, nat_tests)

-- no sign stands in a name
abbrev LacksSign : Bytes → Type 0
LacksSign name = AllByRecursion (λ c. c ≢ 64) name

all_lack : (name : Bytes) → AreTagCharacters name → LacksSign name
all_lack [] a = tt
all_lack (c ∷ cs) a = (tag_character_not_at c a.0, all_lack cs a.1)

-- a name is what stands before the sign behind it
name_cut : (name rest : Bytes) → LacksSign name → before_sign (name ++ (64 ∷ rest)) ≡ name
name_cut [] rest f = refl
name_cut (c ∷ cs) rest f = rw (no_sign c f.0, one-add) (ap (λ xs. c ∷ xs) (name_cut cs rest f.1))

names_lack : (name : Bytes) → is_xref name ≡ true → LacksSign name
names_lack name h = all_lack name (xref_each name h)

pub pointer_shown : (name : Bytes) → is_xref name ≡ true → shown_pointer name ≡ Pointer name
pointer_shown name h = rw (not-true (bytes_eq name (codes "VOID")) (xref_apart name h)) refl

text_shown : (c : ℕ) (cs : Bytes) → c ≢ 64 → shown_value (32 ∷ c ∷ cs) ≡ Text (c ∷ cs)
text_shown c [] n = refl
text_shown c (d ∷ ds) n = rw (no_sign c n) refl

signed_shown : (d : ℕ) (ds : Bytes) → (d == 64) ≡ false → shown_value (32 ∷ 64 ∷ d ∷ ds) ≡ shown_pointer (before_sign (d ∷ ds))
signed_shown d ds n = rw n refl

pub value_shown : (v : Value) (part : Bytes) → is_value v ≡ true → IsValuePart v part → shown_value part ≡ v
value_shown Empty part i (inl e) = rw e refl
value_shown Empty part i (inr e) = rw e refl
value_shown Void part i e = rw e refl
value_shown (Pointer []) part i e = absurd (true≢false (sym i))
value_shown (Pointer (c ∷ cs)) part i e =
    let lacks = names_lack (c ∷ cs) i in
    ap shown_value e ∙ signed_shown c (cs ++ (64 ∷ [])) (no_sign c lacks.0) ∙ ap shown_pointer (name_cut (c ∷ cs) [] lacks) ∙ pointer_shown (c ∷ cs) i
value_shown (Text []) part i e = absurd (true≢false (sym i))
value_shown (Text (c ∷ cs)) part i e = elim (bool_cases (c == 64)) [
  | inl s ↦ (let is : c ≡ 64 = grind (arith, nat_tests) in rw (e, is) refl)
  | inr n ↦ rw (e, n) (text_shown c cs (λ (z : c ≡ 64). grind (arith, nat_tests)))
]

first_of_tag : (tag part : Bytes) → is_tag tag ≡ true → (shown_xref (tag ++ part) ≡ None) × (from_tag (tag ++ part) ≡ tag ++ part)
first_of_tag [] part t = absurd (tag_some t)
first_of_tag (c ∷ cs) part t =
    let other : (c == 64) ≡ false = no_sign c (tag_character_not_at c (tag_each (c ∷ cs) t).0) in
    (rw other refl, rw other refl)

pub xref_shown : (xref : Option Bytes) (tag part : Bytes) → may_be_xref xref ≡ true → is_tag tag ≡ true
    → (shown_xref (xref_part xref ++ (tag ++ part)) ≡ xref) × (from_tag (xref_part xref ++ (tag ++ part)) ≡ tag ++ part)
xref_shown None tag part x t = first_of_tag tag part t
xref_shown (Some name) tag part x t =
    let cut = name_cut name (32 ∷ (tag ++ part)) (names_lack name x) in
    rw (append_assoc name (64 ∷ 32 ∷ []) (tag ++ part)) (ap Some cut, ap (λ (xs : Bytes). drop (length xs + 2) (name ++ (64 ∷ 32 ∷ (tag ++ part)))) cut ∙ drop-append-add name (64 ∷ 32 ∷ (tag ++ part)) 2)

rest_shown : (level : ℕ) (xref : Option Bytes) (tag part : Bytes) (v : Value) → may_be_xref xref ≡ true → is_tag tag ≡ true → is_value v ≡ true → IsValuePart v part
    → shown_rest level (xref_part xref ++ (tag ++ part)) ≡ line_parts level xref tag v
rest_shown level xref tag part v x t i p =
    let first = xref_shown xref tag part x t in
    let tag_is : word (tag ++ part) ≡ tag = word_tag (tag ++ part) tag part (t, part_ends v part p, refl) in
    rw (first.0, first.1, tag_is, drop-append_seam tag part, value_shown v part i p) refl

-- a line's text shows the line
pub line_is_shown : (line : LineParts) (text : Bytes) → LineText line text → shown_line line.level text ≡ line
line_is_shown line text whole =
    let t = in_parts line text whole in
    let is = line_is line t.is_line in
    let rest = xref_part line.xref ++ (line.tag ++ t.value_part) in
    let behind : drop (length (decimal line.level) + 1) text ≡ rest = ap (λ (xs : Bytes). drop (length (decimal line.level) + 1) xs) t.spelled ∙ drop-append-add (decimal line.level) (32 ∷ rest) 1 in
    ap (shown_rest line.level) behind ∙ rest_shown line.level line.xref line.tag t.value_part line.value is.xref is.tag is.value t.value
