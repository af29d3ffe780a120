-- What is known of a piece, part by part, and the faults that cannot stand there.
use Rattle.std.proofs.Common.{◌≡◌, ◌≢◌, ℕ, ◌<◌, ◌≤◌, Bool, true, false, List, [], ◌∷◌, ◌++◌, ◌⊎◌, inl, inr, Option, Some, None, length, refl, sym, ◌∙◌, ap, subst, arith, decimal, nat_le, ◌&&◌, ◌==◌}
use Rattle.std.proofs.lemmas.List.{append-nil, append_assoc}
use Rattle.std.proofs.lemmas.Bool.Decides.{nat_tests}
use Rattle.std.proofs.lemmas.Str.{NoCharPasses-nil}
use Rattle.std.specs.List.{AllByRecursion}
use denote.Ref.{Bor}
use Rattle.std.specs.Str.{NoCharPasses, IsUtf8}
use Rattle.std.specs.Option.{MatchOption, option_map}
use Rattle.std.specs.Str.{is_utf8}
use Rattle.std.proofs.lemmas.Str.{is_utf8-from_IsUtf8, IsUtf8-from_is_utf8}
use Rattle.ged_line.specs.Bytes.{at_sign}
use Rattle.ged_line.specs.Characters.{is_tag_character, is_banned, has_banned}
use Rattle.std.specs.Char.{is_ascii_digit}
use Rattle.ged_line.specs.Names.{is_tag}
use Rattle.ged_line.specs.Lines.{Value, Empty, is_value, may_be_xref, is_line, xref_part}
use Rattle.ged_line.specs.inner.LineTexts.{IsValuePart}
use Rattle.ged_line.specs.Spelling.{LineText}
use Rattle.ged_line.specs.Faults.{StandsAt, IsFaultOf, line_fault_number, AfterLevel, AfterXref, BeginsWith, FromTag, IsPointer, word, number_after}
use Rattle.ged_line.proofs.line.LineTexts.{from_parts}
use Rattle.ged_line.proofs.line.NameTests.{bool_cases, and_true, tag_each, xref_each}
use Rattle.ged_line.proofs.bytes.Banned.{NoCharPasses-banned}
use Rattle.ged_line.specs.declared.fault.LineFault.{LineFault}
use Rattle.ged_line.specs.declared.fault.LineFault.TheVariants.{NotUtf8, BannedCharacter, EmptyLine, BadLevel, LevelTooLarge, BadXref, BadTag, BadValue}
use Rattle.ged_line.proofs.line.Cuts.{Lacks, AllByRecursion-weaker, tag_character_not_space, cut_same, cut_not_whole}
use Rattle.ged_line.proofs.line.Levels.{Lacks-level, level_each, is_level-decimal}
use Rattle.ged_line.proofs.line.Reading.{same_level, Lacks-xref, NoCharPasses-tail}
use Rattle.ged_line.proofs.line.Words.{word_cut, word_whole}

-- the piece is a text that may be a line, a level and what follows its space
pub record Leveled (piece : List ℕ) (level : ℕ) (bytes : List ℕ) : Type 0 where
  pub utf8 : IsUtf8 piece
  pub unbanned : has_banned piece ≡ false
  pub small : level ≤ 99
  pub spelled : piece ≡ decimal level ++ (32 ∷ bytes)

-- what `view_xref` tells of the bytes
abbrev pub IsXrefCut : List ℕ → Option (List ℕ) → List ℕ → Type 0
IsXrefCut bytes xref rest = MatchOption xref ((bytes ≡ rest) × ¬ (BeginsWith at_sign bytes)) (λ name. AfterXref bytes name rest)

pub Leveled-after : (piece : List ℕ) (level : ℕ) (bytes : List ℕ) → Leveled piece level bytes → AfterLevel piece (decimal level) bytes
Leveled-after piece level bytes s = record { digits_are = (is_level-decimal level s.small).0; spelled = s.spelled }

pub same_after : (piece : List ℕ) (level : ℕ) (bytes digits rest : List ℕ) → Leveled piece level bytes → AfterLevel piece digits rest → (digits ≡ decimal level) × (rest ≡ bytes)
same_after piece level bytes digits rest s a =
    same_level piece (decimal level) bytes digits rest s.spelled (Lacks-level (decimal level) (is_level-decimal level s.small).0) a

-- the level's faults don't stand
pub no_level_fault : (piece : List ℕ) (level : ℕ) (bytes : List ℕ) → Leveled piece level bytes → (other : LineFault) → line_fault_number other < 6 → ¬ (StandsAt other piece)
no_level_fault piece level bytes s NotUtf8 lt h = let valid : is_utf8 piece ≡ true = is_utf8-from_IsUtf8 piece s.utf8 in cc
no_level_fault piece level bytes s BannedCharacter lt h = let clean : has_banned piece ≡ false = s.unbanned in cc
no_level_fault piece level bytes s EmptyLine lt h = cut_not_whole 32 (decimal level) bytes [] tt (sym s.spelled ∙ h)
no_level_fault piece level bytes s BadLevel lt h = h (decimal level) bytes (Leveled-after piece level bytes s)
no_level_fault piece level bytes s LevelTooLarge lt (digits, rest, a, large) =
    let same = same_after piece level bytes digits rest s a in
    let value : number_after 0 digits ≡ level = ap (number_after 0) same.0 ∙ (is_level-decimal level s.small).1 in
    let small = s.small in
    omega arith
no_level_fault piece level bytes s BadXref lt h = omega arith
no_level_fault piece level bytes s BadTag lt h = omega arith
no_level_fault piece level bytes s BadValue lt h = omega arith

pub bad_xref : (piece : List ℕ) (level : ℕ) (bytes : List ℕ) → Leveled piece level bytes → BeginsWith at_sign bytes
    → ((name rest : List ℕ) → ¬ (AfterXref bytes name rest)) → IsFaultOf BadXref piece
bad_xref piece level bytes s b n = record {
  stands = (decimal level, bytes, Leveled-after piece level bytes s, b, n);
  least = no_level_fault piece level bytes s;
}

pub from_tag : (piece : List ℕ) (level : ℕ) (bytes : List ℕ) (xref : Option (List ℕ)) (rest : List ℕ) → Leveled piece level bytes → IsXrefCut bytes xref rest → FromTag piece rest
from_tag piece level bytes None rest s x = (decimal level, bytes, Leveled-after piece level bytes s, inl x)
from_tag piece level bytes (Some name) rest s x = (decimal level, bytes, Leveled-after piece level bytes s, inr (name, x))

begins_xref : (bytes name rest : List ℕ) → AfterXref bytes name rest → BeginsWith at_sign bytes
begins_xref bytes name rest a = (name ++ (64 ∷ 32 ∷ rest), a.spelled)

same_names : (bytes name rest other back : List ℕ) → AfterXref bytes name rest → AfterXref bytes other back → (name ≡ other) × (rest ≡ back)
same_names bytes name rest other back a b =
    let one : bytes ≡ 64 ∷ (name ++ (64 ∷ 32 ∷ rest)) = a.spelled in
    let two : bytes ≡ 64 ∷ (other ++ (64 ∷ 32 ∷ back)) = b.spelled in
    let both : name ++ (64 ∷ 32 ∷ rest) ≡ other ++ (64 ∷ 32 ∷ back) = cc in
    let same = cut_same 64 name other (32 ∷ rest) (32 ∷ back) (Lacks-xref name a.name_is) (Lacks-xref other b.name_is) both in
    let tails : 32 ∷ rest ≡ 32 ∷ back = same.1 in
    (same.0, cc)

-- the part behind the cross-reference is one
pub same_cut : (bytes : List ℕ) (xref other : Option (List ℕ)) (rest back : List ℕ) → IsXrefCut bytes xref rest → IsXrefCut bytes other back → (xref ≡ other) × (rest ≡ back)
same_cut bytes None None rest back x y = (refl, sym x.0 ∙ y.0)
same_cut bytes None (Some name) rest back x y = absurd (x.1 (begins_xref bytes name back y))
same_cut bytes (Some name) None rest back x y = absurd (y.1 (begins_xref bytes name rest x))
same_cut bytes (Some name) (Some other) rest back x y =
    let same = same_names bytes name rest other back x y in
    (ap Some same.0, same.1)

cut_of : (bytes rest : List ℕ) → (((bytes ≡ rest) × ¬ (BeginsWith at_sign bytes)) ⊎ ((name : List ℕ) × AfterXref bytes name rest)) → (xref : Option (List ℕ)) × IsXrefCut bytes xref rest
cut_of bytes rest (inl h) = (None, h)
cut_of bytes rest (inr (name, h)) = (Some name, h)

pub same_from_tag : (piece : List ℕ) (level : ℕ) (bytes : List ℕ) (xref : Option (List ℕ)) (rest back : List ℕ)
    → Leveled piece level bytes → IsXrefCut bytes xref rest → FromTag piece back → back ≡ rest
same_from_tag piece level bytes xref rest back s x (digits, others, a, k) =
    let same = same_after piece level bytes digits others s a in
    let cut = cut_of others back k in
    let moved : IsXrefCut bytes cut.0 back = subst (λ b. IsXrefCut b cut.0 back) same.1 cut.1 in
    (same_cut bytes cut.0 xref back rest moved x).1

clash : (bytes : List ℕ) (xref : Option (List ℕ)) (rest : List ℕ) → IsXrefCut bytes xref rest → BeginsWith at_sign bytes → ((name back : List ℕ) → ¬ (AfterXref bytes name back)) → ⊥
clash bytes None rest x b n = x.1 b
clash bytes (Some name) rest x b n = n name rest x

-- nor do those of the cross-reference
pub no_xref_fault : (piece : List ℕ) (level : ℕ) (bytes : List ℕ) (xref : Option (List ℕ)) (rest : List ℕ)
    → Leveled piece level bytes → IsXrefCut bytes xref rest → (other : LineFault) → line_fault_number other < 7 → ¬ (StandsAt other piece)
no_xref_fault piece level bytes xref rest s x NotUtf8 lt h = no_level_fault piece level bytes s NotUtf8 (omega arith) h
no_xref_fault piece level bytes xref rest s x BannedCharacter lt h = no_level_fault piece level bytes s BannedCharacter (omega arith) h
no_xref_fault piece level bytes xref rest s x EmptyLine lt h = no_level_fault piece level bytes s EmptyLine (omega arith) h
no_xref_fault piece level bytes xref rest s x BadLevel lt h = no_level_fault piece level bytes s BadLevel (omega arith) h
no_xref_fault piece level bytes xref rest s x LevelTooLarge lt h = no_level_fault piece level bytes s LevelTooLarge (omega arith) h
no_xref_fault piece level bytes xref rest s x BadXref lt (digits, others, a, begins, none) =
    let same = same_after piece level bytes digits others s a in
    let b : BeginsWith at_sign bytes = subst (λ b. BeginsWith at_sign b) same.1 begins in
    let n : (name back : List ℕ) → ¬ (AfterXref bytes name back) = subst (λ b. (name back : List ℕ) → ¬ (AfterXref b name back)) same.1 none in
    clash bytes xref rest x b n
no_xref_fault piece level bytes xref rest s x BadTag lt h = omega arith
no_xref_fault piece level bytes xref rest s x BadValue lt h = omega arith

pub bad_tag : (piece : List ℕ) (level : ℕ) (bytes : List ℕ) (xref : Option (List ℕ)) (rest : List ℕ)
    → Leveled piece level bytes → IsXrefCut bytes xref rest → is_tag (word rest) ≡ false → IsFaultOf BadTag piece
bad_tag piece level bytes xref rest s x n = record {
  stands = (rest, from_tag piece level bytes xref rest s x, n);
  least = no_xref_fault piece level bytes xref rest s x;
}

pub Lacks-tag : (tag : List ℕ) → is_tag tag ≡ true → Lacks 32 tag
Lacks-tag tag t = AllByRecursion-weaker _ _ tag_character_not_space tag (tag_each tag t)

-- what `view_tag` tells of the rest
abbrev pub IsTagCut : List ℕ → List ℕ → List ℕ → Type 0
IsTagCut rest tag part = (is_tag tag ≡ true) × ((part ≡ []) ⊎ ((more : List ℕ) × (part ≡ 32 ∷ more))) × (rest ≡ tag ++ part)

pub word_tag : (rest tag part : List ℕ) → IsTagCut rest tag part → word rest ≡ tag
word_tag rest tag part (t, inl e, s) = ap word (s ∙ ap (λ p. tag ++ p) e ∙ append-nil tag) ∙ word_whole tag (Lacks-tag tag t)
word_tag rest tag part (t, inr (more, e), s) = ap word (s ∙ ap (λ p. tag ++ p) e) ∙ word_cut tag more (Lacks-tag tag t)

pub no_tag_fault : (piece : List ℕ) (level : ℕ) (bytes : List ℕ) (xref : Option (List ℕ)) (rest tag part : List ℕ)
    → Leveled piece level bytes → IsXrefCut bytes xref rest → IsTagCut rest tag part → (other : LineFault) → line_fault_number other < 8 → ¬ (StandsAt other piece)
no_tag_fault piece level bytes xref rest tag part s x t NotUtf8 lt h = no_level_fault piece level bytes s NotUtf8 (omega arith) h
no_tag_fault piece level bytes xref rest tag part s x t BannedCharacter lt h = no_level_fault piece level bytes s BannedCharacter (omega arith) h
no_tag_fault piece level bytes xref rest tag part s x t EmptyLine lt h = no_level_fault piece level bytes s EmptyLine (omega arith) h
no_tag_fault piece level bytes xref rest tag part s x t BadLevel lt h = no_level_fault piece level bytes s BadLevel (omega arith) h
no_tag_fault piece level bytes xref rest tag part s x t LevelTooLarge lt h = no_level_fault piece level bytes s LevelTooLarge (omega arith) h
no_tag_fault piece level bytes xref rest tag part s x t BadXref lt h = no_xref_fault piece level bytes xref rest s x BadXref (omega arith) h
no_tag_fault piece level bytes xref rest tag part s x t BadTag lt (back, from, none) =
    let same : back ≡ rest = same_from_tag piece level bytes xref rest back s x from in
    let w : word back ≡ tag = ap word same ∙ word_tag rest tag part t in
    let passes : is_tag (word back) ≡ true = subst (λ x. is_tag x ≡ true) (sym w) t.0 in
    cc
no_tag_fault piece level bytes xref rest tag part s x t BadValue lt h = omega arith

pub bad_value : (piece : List ℕ) (level : ℕ) (bytes : List ℕ) (xref : Option (List ℕ)) (rest tag more : List ℕ)
    → Leveled piece level bytes → IsXrefCut bytes xref rest → is_tag tag ≡ true → rest ≡ tag ++ (32 ∷ 64 ∷ more) → ¬ (IsPointer (64 ∷ more)) → ¬ (BeginsWith at_sign more) → IsFaultOf BadValue piece
bad_value piece level bytes xref rest tag more s x t e p b = record {
  stands = (tag, more, subst (λ r. FromTag piece r) e (from_tag piece level bytes xref rest s x), t, p, b);
  least = no_tag_fault piece level bytes xref rest tag (32 ∷ 64 ∷ more) s x (t, inr (64 ∷ more, refl), e);
}

pub leveled : (piece : List ℕ) (level : ℕ) (bytes : List ℕ) → IsUtf8 piece → has_banned piece ≡ false
    → (level ≤ 99) × (piece ≡ decimal level ++ (32 ∷ bytes)) → Leveled piece level bytes
leveled piece level bytes u n s = record { utf8 = u; unbanned = n; small = s.0; spelled = s.1 }

pub xref_cut : (bytes : List ℕ) (xref : Option (Bor (List ℕ))) (rest : List ℕ)
    → MatchOption xref ((bytes ≡ rest) × ¬ (BeginsWith at_sign bytes)) (λ name. AfterXref bytes name.now rest) → IsXrefCut bytes (option_map (λ x. x.now) xref) rest
xref_cut bytes None rest h = h
xref_cut bytes (Some name) rest h = h

abbrev pub AreAscii : List ℕ → Type 0
AreAscii xs = AllByRecursion (λ b. b < 128) xs

tag_character_ascii : (c : ℕ) → is_tag_character c ≡ true → c < 128
tag_character_ascii c h = grind (arith, nat_tests)

digit_ascii : (c : ℕ) → is_ascii_digit c ≡ true → c < 128
digit_ascii c h = grind (arith, nat_tests)

pub NoCharPasses-suffix : (p : ℕ → Bool) (front back : List ℕ) → AreAscii front → NoCharPasses p (front ++ back) → NoCharPasses p back
NoCharPasses-suffix p [] back a h = h
NoCharPasses-suffix p (b ∷ bs) back a h = NoCharPasses-suffix p bs back a.1 (NoCharPasses-tail p b (bs ++ back) a.0 h)

plain_after_level : (piece : List ℕ) (level : ℕ) (bytes : List ℕ) → Leveled piece level bytes → NoCharPasses is_banned bytes
plain_after_level piece level bytes s =
    let ascii = AllByRecursion-weaker _ _ digit_ascii (decimal level) (level_each (decimal level) (is_level-decimal level s.small).0) in
    let all : NoCharPasses is_banned (decimal level ++ (32 ∷ bytes)) = subst (λ t. NoCharPasses is_banned t) s.spelled (NoCharPasses-banned piece s.utf8 s.unbanned) in
    NoCharPasses-tail is_banned 32 bytes (omega arith) (NoCharPasses-suffix is_banned (decimal level) (32 ∷ bytes) ascii all)

plain_after_xref : (bytes : List ℕ) (xref : Option (List ℕ)) (rest : List ℕ) → IsXrefCut bytes xref rest → NoCharPasses is_banned bytes → NoCharPasses is_banned rest
plain_after_xref bytes None rest x n = subst (λ t. NoCharPasses is_banned t) x.0 n
plain_after_xref bytes (Some name) rest x n =
    let ascii = AllByRecursion-weaker _ _ tag_character_ascii name (xref_each name x.name_is) in
    let all : NoCharPasses is_banned (64 ∷ (name ++ (64 ∷ 32 ∷ rest))) = subst (λ t. NoCharPasses is_banned t) x.spelled n in
    let behind : NoCharPasses is_banned (64 ∷ 32 ∷ rest) = NoCharPasses-suffix is_banned name (64 ∷ 32 ∷ rest) ascii (NoCharPasses-tail is_banned 64 (name ++ (64 ∷ 32 ∷ rest)) (omega arith) all) in
    NoCharPasses-tail is_banned 32 rest (omega arith) (NoCharPasses-tail is_banned 64 (32 ∷ rest) (omega arith) behind)

-- what `view_tag` ensures
abbrev pub CutsTag : List ℕ → List ℕ → List ℕ → Type 0
CutsTag rest tag more = (is_tag tag ≡ true) × (((rest ≡ tag) × (more ≡ [])) ⊎ (rest ≡ tag ++ (32 ∷ more)))

-- no identifier stands before a tag
pub no_xref_before : (rest tag more : List ℕ) → CutsTag rest tag more → IsXrefCut rest None rest
no_xref_before rest [] more (t, _) = cc
no_xref_before rest (b ∷ tag) more (t, cut) = (
  refl,
  λ begins.
      let first : b ≡ 64 = elim cut [
        | inl e ↦ (let both : 64 ∷ begins.0 ≡ b ∷ tag = sym begins.1 ∙ e.0 in cc)
        | inr e ↦ (let both : 64 ∷ begins.0 ≡ b ∷ (tag ++ (32 ∷ more)) = sym begins.1 ∙ e in cc)
      ] in
      let sign : is_tag (64 ∷ tag) ≡ true = rw first at t in
      cc,
)

plain_after_tag : (rest tag more : List ℕ) → CutsTag rest tag more → NoCharPasses is_banned rest → NoCharPasses is_banned more
plain_after_tag rest tag more (t, inl e) n = subst (λ b. NoCharPasses is_banned b) (sym e.1) (NoCharPasses-nil is_banned)
plain_after_tag rest tag more (t, inr e) n =
    let ascii = AllByRecursion-weaker _ _ tag_character_ascii tag (tag_each tag t) in
    NoCharPasses-tail is_banned 32 more (omega arith) (NoCharPasses-suffix is_banned tag (32 ∷ more) ascii (subst (λ b. NoCharPasses is_banned b) e n))

pub plain_value : (piece : List ℕ) (level : ℕ) (bytes : List ℕ) (xref : Option (List ℕ)) (rest tag more : List ℕ)
    → Leveled piece level bytes → IsXrefCut bytes xref rest → CutsTag rest tag more → NoCharPasses is_banned more
plain_value piece level bytes xref rest tag more s x t = plain_after_tag rest tag more t (plain_after_xref bytes xref rest x (plain_after_level piece level bytes s))

pub value_fault : (piece : List ℕ) (level : ℕ) (bytes : List ℕ) (xref : Option (List ℕ)) (rest tag value : List ℕ)
    → Leveled piece level bytes → IsXrefCut bytes xref rest → CutsTag rest tag value
    → ((more : List ℕ) × (value ≡ 64 ∷ more) × ¬ (IsPointer value) × ¬ (BeginsWith at_sign more)) → IsFaultOf BadValue piece
value_fault piece level bytes xref rest tag value s x (t, inl e) (more, v, p, b) = let both : 64 ∷ more ≡ [] = sym v ∙ e.1 in cc
value_fault piece level bytes xref rest tag value s x (t, inr e) (more, v, p, b) =
    bad_value piece level bytes xref rest tag more s x t (e ∙ ap (λ w. tag ++ (32 ∷ w)) v) (subst (λ w. ¬ (IsPointer w)) v p) b

pub xref_spelled : (bytes : List ℕ) (xref : Option (List ℕ)) (rest : List ℕ) → IsXrefCut bytes xref rest → bytes ≡ xref_part xref ++ rest
xref_spelled bytes None rest x = x.0
xref_spelled bytes (Some name) rest x = x.spelled ∙ ap (λ w. 64 ∷ w) (sym (append_assoc name (64 ∷ 32 ∷ []) rest))

xref_may_be : (bytes : List ℕ) (xref : Option (List ℕ)) (rest : List ℕ) → IsXrefCut bytes xref rest → may_be_xref xref ≡ true
xref_may_be bytes None rest x = refl
xref_may_be bytes (Some name) rest x = x.name_is

small_level : (n : ℕ) → n ≤ 99 → nat_le n 99 ≡ true
small_level n h = grind (arith, nat_tests)

pub parts_are_line : (level : ℕ) (xref : Option (List ℕ)) (tag : List ℕ) (value : Value)
    → level ≤ 99 → may_be_xref xref ≡ true → is_tag tag ≡ true → is_value value ≡ true
    → is_line (record { level = level; xref = xref; tag = tag; value = value }) ≡ true
parts_are_line level xref tag value l x t v =
    and_true (nat_le level 99 && may_be_xref xref && is_tag tag) (is_value value)
    (and_true (nat_le level 99 && may_be_xref xref) (is_tag tag) (and_true (nat_le level 99) (may_be_xref xref) (small_level level l) x) t) v

pub cut_is_line : (piece : List ℕ) (level : ℕ) (bytes : List ℕ) (xref : Option (List ℕ)) (rest tag : List ℕ) (value : Value)
    → Leveled piece level bytes → IsXrefCut bytes xref rest → is_tag tag ≡ true → is_value value ≡ true
    → is_line (record { level = level; xref = xref; tag = tag; value = value }) ≡ true
cut_is_line piece level bytes xref rest tag value s x t v = parts_are_line level xref tag value s.small (xref_may_be bytes xref rest x) t v

-- the bytes spell what was read
pub found_line : (piece : List ℕ) (level : ℕ) (bytes : List ℕ) (xref : Option (List ℕ)) (rest tag more : List ℕ) (value : Value)
    → Leveled piece level bytes → IsXrefCut bytes xref rest → CutsTag rest tag more
    → (is_value value ≡ true) × IsValuePart value (32 ∷ more) × (more ≡ [] → value ≡ Empty)
    → LineText (record { level = level; xref = xref; tag = tag; value = value }) piece
found_line piece level bytes xref rest tag more value s x (t, inl e) v =
    from_parts _ piece (record {
      is_line = cut_is_line piece level bytes xref rest tag value s x t v.0;
      value_part = [];
      value = subst (λ w. IsValuePart w []) (sym (v.2 e.1)) (inl refl);
      spelled = s.spelled ∙ ap (λ b. decimal level ++ (32 ∷ b)) (xref_spelled bytes xref rest x ∙ ap (λ r. xref_part xref ++ r) (e.0 ∙ sym (append-nil tag)));
    })
found_line piece level bytes xref rest tag more value s x (t, inr e) v =
    from_parts _ piece (record {
      is_line = cut_is_line piece level bytes xref rest tag value s x t v.0;
      value_part = 32 ∷ more;
      value = v.1;
      spelled = s.spelled ∙ ap (λ b. decimal level ++ (32 ∷ b)) (xref_spelled bytes xref rest x ∙ ap (λ r. xref_part xref ++ r) e);
    })

fault_from_one : (other : LineFault) → line_fault_number other < 1 → ⊥
fault_from_one NotUtf8 lt = omega arith
fault_from_one BannedCharacter lt = omega arith
fault_from_one EmptyLine lt = omega arith
fault_from_one BadLevel lt = omega arith
fault_from_one LevelTooLarge lt = omega arith
fault_from_one BadXref lt = omega arith
fault_from_one BadTag lt = omega arith
fault_from_one BadValue lt = omega arith

invalid : (piece : List ℕ) → ¬ (IsUtf8 piece) → is_utf8 piece ≡ false
invalid piece n = elim (bool_cases (is_utf8 piece)) [ inl e ↦ absurd (n (IsUtf8-from_is_utf8 piece e)) | inr e ↦ e ]

pub not_utf8 : (piece : List ℕ) → ¬ (IsUtf8 piece) → IsFaultOf NotUtf8 piece
not_utf8 piece n = record { stands = invalid piece n; least = λ other lt h. fault_from_one other lt }

-- the faults below a number that don't stand at a text, a text without banned characters, and one that isn't empty
text_below : (piece : List ℕ) → IsUtf8 piece → (other : LineFault) → line_fault_number other < 2 → ¬ (StandsAt other piece)
text_below piece u NotUtf8 lt h = let valid : is_utf8 piece ≡ true = is_utf8-from_IsUtf8 piece u in cc
text_below piece u BannedCharacter lt h = omega arith
text_below piece u EmptyLine lt h = omega arith
text_below piece u BadLevel lt h = omega arith
text_below piece u LevelTooLarge lt h = omega arith
text_below piece u BadXref lt h = omega arith
text_below piece u BadTag lt h = omega arith
text_below piece u BadValue lt h = omega arith

clean_below : (piece : List ℕ) → IsUtf8 piece → has_banned piece ≡ false → (other : LineFault) → line_fault_number other < 3 → ¬ (StandsAt other piece)
clean_below piece u n NotUtf8 lt h = text_below piece u NotUtf8 (omega arith) h
clean_below piece u n BannedCharacter lt h = cc
clean_below piece u n EmptyLine lt h = omega arith
clean_below piece u n BadLevel lt h = omega arith
clean_below piece u n LevelTooLarge lt h = omega arith
clean_below piece u n BadXref lt h = omega arith
clean_below piece u n BadTag lt h = omega arith
clean_below piece u n BadValue lt h = omega arith

some_below : (piece : List ℕ) → IsUtf8 piece → has_banned piece ≡ false → piece ≢ [] → (other : LineFault) → line_fault_number other < 4 → ¬ (StandsAt other piece)
some_below piece u n s NotUtf8 lt h = text_below piece u NotUtf8 (omega arith) h
some_below piece u n s BannedCharacter lt h = cc
some_below piece u n s EmptyLine lt h = s h
some_below piece u n s BadLevel lt h = omega arith
some_below piece u n s LevelTooLarge lt h = omega arith
some_below piece u n s BadXref lt h = omega arith
some_below piece u n s BadTag lt h = omega arith
some_below piece u n s BadValue lt h = omega arith

large_below : (piece : List ℕ) → IsUtf8 piece → has_banned piece ≡ false → piece ≢ [] → StandsAt LevelTooLarge piece
    → (other : LineFault) → line_fault_number other < 5 → ¬ (StandsAt other piece)
large_below piece u n s t NotUtf8 lt h = text_below piece u NotUtf8 (omega arith) h
large_below piece u n s t BannedCharacter lt h = cc
large_below piece u n s t EmptyLine lt h = s h
large_below piece u n s (digits, rest, a, l) BadLevel lt h = h digits rest a
large_below piece u n s t LevelTooLarge lt h = omega arith
large_below piece u n s t BadXref lt h = omega arith
large_below piece u n s t BadTag lt h = omega arith
large_below piece u n s t BadValue lt h = omega arith

pub banned_character : (piece : List ℕ) → IsUtf8 piece → has_banned piece ≡ true → IsFaultOf BannedCharacter piece
banned_character piece u h = record { stands = h; least = text_below piece u }

pub empty_line : (piece : List ℕ) → IsUtf8 piece → has_banned piece ≡ false → piece ≡ [] → IsFaultOf EmptyLine piece
empty_line piece u n e = record { stands = e; least = clean_below piece u n }

pub level_fault_of : (piece : List ℕ) (fault : LineFault) → IsUtf8 piece → has_banned piece ≡ false → piece ≢ []
    → ((fault ≡ BadLevel) × StandsAt BadLevel piece) ⊎ ((fault ≡ LevelTooLarge) × StandsAt LevelTooLarge piece) → IsFaultOf fault piece
level_fault_of piece fault u n s (inl h) = rw h.0 (record { stands = h.1; least = some_below piece u n s })
level_fault_of piece fault u n s (inr h) = rw h.0 (record { stands = h.1; least = large_below piece u n s h.1 })

not_nil : (piece : List ℕ) → false ≡ (length piece == 0) → piece ≢ []
not_nil [] e h = cc
not_nil (b ∷ bs) e h = cc

nil_only : (piece : List ℕ) → true ≡ (length piece == 0) → piece ≡ []
nil_only [] e = refl
nil_only (b ∷ bs) e = absurd (grind (arith, nat_tests))

pub empty_at : (piece : List ℕ) → IsUtf8 piece → has_banned piece ≡ false → true ≡ (length piece == 0) → IsFaultOf EmptyLine piece
empty_at piece u n e = empty_line piece u n (nil_only piece e)

pub level_at : (piece : List ℕ) (fault : LineFault) → IsUtf8 piece → has_banned piece ≡ false → false ≡ (length piece == 0)
    → ((fault ≡ BadLevel) × StandsAt BadLevel piece) ⊎ ((fault ≡ LevelTooLarge) × StandsAt LevelTooLarge piece) → IsFaultOf fault piece
level_at piece fault u n e h = level_fault_of piece fault u n (not_nil piece e) h
