-- What is read as a name is spelled so, and what is spelled so is read.
use Rattle.std.proofs.Common.{◌≡◌, ℕ, ◌≤◌, ◌-◌, Bool, true, false, ◌&&◌, cond, [], ◌∷◌, ◌++◌, Option, Some, None, refl, sym, ap, subst, ◌∙◌, append-nil, arith, length, take, drop, slice_index_or, IsTrue}
use Rattle.std.proofs.lemmas.List.{take_all}
use Rattle.ged_value.specs.Words.{Bytes}
use Rattle.ged_value.specs.inner.Cuts.{cut_at, marked}
use Rattle.ged_value.specs.Names.{NameParts, plain, parts, is_name_part, NameText}
use Rattle.ged_value.specs.inner.NameReading.{is_name_byte, surname_at, parts_at, name_at}
use Rattle.ged_value.proofs.WordLaws.{both}
use Rattle.ged_value.proofs.CutLaws.{has, has_none, cut_again, cut_joined}

part_lacks : (text : Bytes) → is_name_part text ≡ true → has 47 text ≡ false
part_lacks text h = has_none is_name_byte 47 text refl h

pub name_again : (n : NameParts) (text : Bytes) → NameText n text → name_at text ≡ Some n
name_again (plain name) text h =
    let whole : cut_at 47 text ≡ (name, None) = ap (cut_at 47) (h.1 ∙ sym (append-nil name)) ∙ cut_again 47 name None (part_lacks name h.0) in
    rw (whole, h.0) refl
name_again (parts before surname after) text h =
    let a = both (is_name_part before) (is_name_part surname && is_name_part after) h.0 in
    let b = both (is_name_part surname) (is_name_part after) a.1 in
    let first : cut_at 47 text ≡ (before, Some (surname ++ (47 ∷ after))) = ap (cut_at 47) h.1 ∙ cut_again 47 before (Some (surname ++ (47 ∷ after))) (part_lacks before a.0) in
    let second : cut_at 47 (surname ++ (47 ∷ after)) ≡ (surname, Some after) = cut_again 47 surname (Some after) (part_lacks surname b.0) in
    rw (first, second, h.0) refl

chosen : (b : Bool) (x n : NameParts) → cond b (Some x) None ≡ Some n → (b ≡ true) × (x ≡ n)
chosen true x n h = (refl, cc)
chosen false x n h = absurd cc

surname_found : (before surname : Bytes) (after : Option Bytes) (n : NameParts) → surname_at before surname after ≡ Some n → NameText n (before ++ (47 ∷ (surname ++ marked 47 after)))
surname_found before surname None n h = absurd cc
surname_found before surname (Some after) n h =
    let same = chosen _ (parts before surname after) n h in
    subst (λ x. NameText x (before ++ (47 ∷ (surname ++ (47 ∷ after))))) same.1 (same.0, refl)

parts_found : (before : Bytes) (others : Option Bytes) (n : NameParts) → parts_at before others ≡ Some n → NameText n (before ++ marked 47 others)
parts_found before None n h =
    let same = chosen _ (plain before) n h in
    subst (λ x. NameText x (before ++ [])) same.1 (same.0, append-nil before)
parts_found before (Some others) n h =
    subst (λ x. NameText n (before ++ (47 ∷ x))) (sym (cut_joined 47 others)) (surname_found before (cut_at 47 others).0 (cut_at 47 others).1 n h)

pub name_found : (n : NameParts) (text : Bytes) → name_at text ≡ Some n → NameText n text
name_found n text h = subst (NameText n) (sym (cut_joined 47 text)) (parts_found (cut_at 47 text).0 (cut_at 47 text).1 n h)

-- ---- the quick test

-- a part of a name at the front of bytes
abbrev pub StartsNamed : Bytes → Bytes → Type 0
StartsNamed bytes rest = (part : Bytes) × IsTrue (is_name_part part) × (bytes ≡ part ++ rest)

-- behind the first of some bytes
behind_first : (b : ℕ) (bs : Bytes) → take (length (b ∷ bs) - 1) (drop 1 (b ∷ bs)) ≡ bs
behind_first b bs = take_all (length (b ∷ bs) - 1) bs (omega arith)

pub one_byte_more : (bytes rest : Bytes) (is : Bool) → 1 ≤ length bytes → is ≡ true → is ≡ is_name_byte (slice_index_or bytes 0 0)
    → StartsNamed (take (length bytes - 1) (drop 1 bytes)) rest → StartsNamed bytes rest
one_byte_more [] rest is some so told behind = absurd (omega (arith, some))
one_byte_more (b ∷ bs) rest is some so told (part, are, same) =
    let first : is_name_byte b ≡ true = sym told ∙ so in
    (b ∷ part, rw first are, ap (λ (more : Bytes). b ∷ more) (sym (behind_first b bs) ∙ same))

pub without_surname : (bytes rest : Bytes) → StartsNamed bytes rest → length rest ≡ 0 → (name : NameParts) × NameText name bytes
without_surname bytes [] (part, are, same) none = (plain part, (are, same ∙ append-nil part))
without_surname bytes (b ∷ bs) (part, are, same) none = absurd (omega (arith, none))

pub about_surname : (bytes rest : Bytes) → StartsNamed bytes rest → 1 ≤ length rest → slice_index_or rest 0 0 ≡ 47
    → ((surname : Bytes) × (after : Bytes) × IsTrue (is_name_part surname) × IsTrue (is_name_part after) × (take (length rest - 1) (drop 1 rest) ≡ surname ++ (47 ∷ after)))
    → (name : NameParts) × NameText name bytes
about_surname bytes [] named some slash behind = absurd (omega (arith, some))
about_surname bytes (b ∷ bs) (part, are, same) some slash (surname, after, first, second, told) =
    let more : bs ≡ surname ++ (47 ∷ after) = sym (behind_first b bs) ∙ told in
    (parts part surname after, (rw (are, first, second) refl, same ∙ ap (λ (more : Bytes). part ++ more) (ap (λ (x : ℕ). x ∷ bs) slash ∙ ap (λ (more : Bytes). 47 ∷ more) more)))
