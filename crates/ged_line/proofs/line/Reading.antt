-- What the parts of a line's text are.
use Rattle.std.proofs.Common.{◌≡◌, ◌≢◌, ℕ, ◌<◌, Bool, true, false, List, [], ◌∷◌, ◌++◌, ◌⊎◌, inl, inr, Some, None, refl, sym, ◌∙◌, ap, arith}
use Rattle.std.proofs.lemmas.Bool.Decides.{nat_tests}
use Rattle.std.proofs.lemmas.Str.{cons_from_encodes, encode_ascii}
use Rattle.std.proofs.lemmas.Str.Pattern.{IsSplitOnceResult, split_parts}
use Rattle.std.specs.Str.{NoCharPasses, NonePass}
use lib.Utf8.{encodes}
use denote.Ref.{Bor}
use Rattle.ged_line.specs.Names.{is_xref}
use Rattle.ged_line.specs.Lines.{doubled}
use Rattle.ged_line.specs.Faults.{AfterLevel, AfterXref, StandsAt, is_level, number_after}
use Rattle.ged_line.proofs.line.NameTests.{xref_each}
use Rattle.ged_line.specs.declared.fault.LineFault.{LineFault}
use Rattle.ged_line.specs.declared.fault.LineFault.TheVariants.{BadLevel, LevelTooLarge}
use Rattle.ged_line.proofs.line.Cuts.{Lacks, Lacks-from_places, AllByRecursion-weaker, tag_character_not_at, cut_same, cut_not_whole}
use Rattle.ged_line.proofs.line.Levels.{Lacks-level}

pub lacks_if_none : (c : ℕ) (bs : List ℕ) → IsSplitOnceResult c bs None → c < 128 → Lacks c bs
lacks_if_none c bs h lt = Lacks-from_places c bs (split_parts c bs None h lt)

pub cut_if_some : (c : ℕ) (bs : List ℕ) (x : Bor (List ℕ) × Bor (List ℕ)) → IsSplitOnceResult c bs (Some x) → c < 128 → (bs ≡ x.0.now ++ (c ∷ x.1.now)) × Lacks c x.0.now
cut_if_some c bs x h lt = let parts = split_parts c bs (Some x) h lt in (parts.0, Lacks-from_places c x.0.now parts.1)

pub no_level : (text digits rest : List ℕ) → Lacks 32 text → ¬ (AfterLevel text digits rest)
no_level text digits rest f a = cut_not_whole 32 digits rest text f (sym a.spelled)

-- the digits that stand before the first space are the level's
pub same_level : (text front back digits rest : List ℕ) → text ≡ front ++ (32 ∷ back) → Lacks 32 front → AfterLevel text digits rest → (digits ≡ front) × (rest ≡ back)
same_level text front back digits rest e f a =
    cut_same 32 digits front rest back (Lacks-level digits a.digits_are) f (sym a.spelled ∙ e)

pub level_fault : (text front back : List ℕ) (fault : LineFault) → text ≡ front ++ (32 ∷ back) → Lacks 32 front
    → ((fault ≡ BadLevel) × (is_level front ≡ false)) ⊎ ((fault ≡ LevelTooLarge) × (is_level front ≡ true) × (99 < number_after 0 front))
    → ((fault ≡ BadLevel) × StandsAt BadLevel text) ⊎ ((fault ≡ LevelTooLarge) × StandsAt LevelTooLarge text)
level_fault text front back fault e f (inl bad) =
    inl (
      bad.0,
      λ digits rest a.
          let same = same_level text front back digits rest e f a in
          let passes : is_level front ≡ true = rw same.0 at a.digits_are in
          let fails : is_level front ≡ false = bad.1 in
          cc,
    )
level_fault text front back fault e f (inr large) =
    inr (large.0, (front, back, record { digits_are = large.1; spelled = e }, large.2))

pub Lacks-xref : (name : List ℕ) → is_xref name ≡ true → Lacks 64 name
Lacks-xref name x = AllByRecursion-weaker _ _ tag_character_not_at name (xref_each name x)

-- where a cross-reference stands behind a sign
pub after_sign : (text after name rest : List ℕ) → text ≡ 64 ∷ after → AfterXref text name rest → after ≡ name ++ (64 ∷ 32 ∷ rest)
after_sign text after name rest e a =
    let whole : text ≡ 64 ∷ (name ++ (64 ∷ 32 ∷ rest)) = a.spelled in
    cc

-- a text that begins with no sign isn't changed by doubling
pub doubled_plain : (text : List ℕ) → ((rest : List ℕ) → text ≢ 64 ∷ rest) → doubled text ≡ text
doubled_plain [] h = refl
doubled_plain (c ∷ cs) h = let ne : c ≢ 64 = λ e. h cs (ap (λ d. d ∷ cs) e) in grind (arith, nat_tests)

tail_of : (p : ℕ → Bool) (b : ℕ) (bs cs : List ℕ) → ((es : List ℕ) × (cs ≡ b ∷ es) × (encodes es ≡ bs)) → NonePass p cs → NoCharPasses p bs
tail_of p b bs cs (es, e, s) h = let all : NonePass p (b ∷ es) = rw e at h in (es, s, all.1)

pub NoCharPasses-tail : (p : ℕ → Bool) (b : ℕ) (bs : List ℕ) → b < 128 → NoCharPasses p (b ∷ bs) → NoCharPasses p bs
NoCharPasses-tail p b bs lt h = tail_of p b bs h.0 (cons_from_encodes h.0 bs b (h.1 ∙ sym (ap (λ x. x ++ bs) (encode_ascii b lt)))) h.2
