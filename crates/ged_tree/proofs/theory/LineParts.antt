-- Tests of names and lines, taken apart.
use Rattle.std.proofs.Common.{◌≡◌, ◌≢◌, ℕ, ◌≤◌, Bool, true, false, ◌&&◌, ◌==◌, not, nat_le, [], ◌⊎◌, inl, inr, length, refl, arith, codes}
use Rattle.std.proofs.lemmas.Bool.{leb-true}
use Rattle.std.proofs.lemmas.Bool.Decides.{nat_tests}
use Rattle.std.specs.List.{AllByRecursion, list_all}
use Rattle.std.specs.Str.{bytes_eq, is_utf8, IsUtf8}
use Rattle.std.proofs.lemmas.Str.{IsUtf8-from_is_utf8}
use Rattle.ged_line.specs.Bytes.{Bytes}
use Rattle.ged_line.specs.Characters.{is_tag_character, is_plain, has_banned}
use Rattle.ged_line.specs.Names.{is_tag, is_xref}
use Rattle.ged_line.specs.Lines.{LineParts, may_be_xref, is_value, is_line}

pub bool_cases : (b : Bool) → (b ≡ true) ⊎ (b ≡ false)
bool_cases true = inl refl
bool_cases false = inr refl

pub and_left : (a b : Bool) → (a && b) ≡ true → a ≡ true
and_left true b h = refl
and_left false b h = cc

pub and_right : (a b : Bool) → (a && b) ≡ true → b ≡ true
and_right true b h = h
and_right false b h = cc

pub and_true : (a b : Bool) → a ≡ true → b ≡ true → (a && b) ≡ true
and_true a b e f = rw (e, f) refl

not_true : (b : Bool) → not b ≡ true → b ≡ false
not_true true h = cc
not_true false h = refl

-- the characters of a tag or of an identifier
abbrev pub AreTagCharacters : Bytes → Type 0
AreTagCharacters name = AllByRecursion (λ c. is_tag_character c ≡ true) name

pub tag_character_not_at : (c : ℕ) → is_tag_character c ≡ true → c ≢ 64
tag_character_not_at c h = λ (e : c ≡ 64). grind (arith, nat_tests)

pub tag_some : is_tag [] ≡ true → ⊥
tag_some h = cc

pub xref_apart : (name : Bytes) → is_xref name ≡ true → not (bytes_eq name (codes "VOID")) ≡ true
xref_apart name h = and_right (not (length name == 0)) (not (bytes_eq name (codes "VOID"))) (and_left (not (length name == 0) && not (bytes_eq name (codes "VOID"))) (list_all is_tag_character name) h)

-- a text in UTF-8, and without banned characters
pub plain_is_utf8 : (text : Bytes) → is_plain text ≡ true → IsUtf8 text
plain_is_utf8 text h = IsUtf8-from_is_utf8 text (and_left (is_utf8 text) (not (has_banned text)) h)

pub plain_is_unbanned : (text : Bytes) → is_plain text ≡ true → has_banned text ≡ false
plain_is_unbanned text h = not_true (has_banned text) (and_right (is_utf8 text) (not (has_banned text)) h)

-- the parts of a line's test
pub record LineIs (line : LineParts) : Type 0 where
  pub level : line.level ≤ 99
  pub xref : may_be_xref line.xref ≡ true
  pub tag : is_tag line.tag ≡ true
  pub value : is_value line.value ≡ true

pub line_is : (line : LineParts) → is_line line ≡ true → LineIs line
line_is line h =
    let named : (nat_le line.level 99 && may_be_xref line.xref && is_tag line.tag) ≡ true = and_left (nat_le line.level 99 && may_be_xref line.xref && is_tag line.tag) (is_value line.value) h in
    let front : (nat_le line.level 99 && may_be_xref line.xref) ≡ true = and_left (nat_le line.level 99 && may_be_xref line.xref) (is_tag line.tag) named in
    record {
      level = leb-true line.level 99 (and_left (nat_le line.level 99) (may_be_xref line.xref) front);
      xref = and_right (nat_le line.level 99) (may_be_xref line.xref) front;
      tag = and_right (nat_le line.level 99 && may_be_xref line.xref) (is_tag line.tag) named;
      value = and_right (nat_le line.level 99 && may_be_xref line.xref && is_tag line.tag) (is_value line.value) h;
    }
