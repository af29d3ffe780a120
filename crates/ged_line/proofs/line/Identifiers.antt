-- A cross-reference identifier, cut behind its tag characters.
use Rattle.std.proofs.Common.{◌≡◌, ◌≢◌, ℕ, ◌<◌, ◌≤◌, ◌==◌, ◌&&◌, not, true, false, List, [], ◌∷◌, ◌++◌, ◌⊎◌, inl, inr, length, get_or, refl, sym, ◌∙◌, ap, subst, arith, codes}
use Rattle.std.specs.List.{list_all}
use Rattle.std.specs.Str.{bytes_eq}
use Rattle.ged_line.specs.Characters.{is_tag_character}
use Rattle.ged_line.specs.Names.{is_xref}
use Rattle.ged_line.specs.Faults.{AfterXref, IsPointer}
use Rattle.ged_line.proofs.line.NameTests.{AreTagCharacters, all_each, and_true, xref_each}
use Rattle.ged_line.proofs.line.Cuts.{tag_character_not_at}
use Rattle.ged_line.proofs.line.Reading.{after_sign}
use Rattle.ged_line.proofs.line.Values.{some_text}
use Rattle.ged_line.proofs.line.QuickReading.{TagCut, all_characters}

-- tag characters before a sign are all that stand at the front
pub same_characters : (a b x y : List ℕ) → AreTagCharacters a → AreTagCharacters b → (0 < length y → is_tag_character (get_or y 0 0) ≡ false)
    → a ++ (64 ∷ x) ≡ b ++ y → (a ≡ b) × (64 ∷ x ≡ y)
same_characters [] [] x y f g s e = (refl, e)
same_characters [] (b ∷ bs) x y f g s e = absurd (tag_character_not_at b g.0 (cc))
same_characters (a ∷ as') [] x [] f g s e = absurd (cc)
same_characters (a ∷ as') [] x (c ∷ cs) f g s e =
    let fails : is_tag_character c ≡ false = s (omega arith) in
    let passes : is_tag_character a ≡ true = f.0 in
    let same : a ≡ c = cc in
    absurd (cc)
same_characters (a ∷ as') (b ∷ bs) x y f g s e =
    let tails : as' ++ (64 ∷ x) ≡ bs ++ y = cc in
    let parts = same_characters as' bs x y f.1 g.1 s tails in
    let first : a ≡ b = cc in
    let front : as' ≡ bs = parts.0 in
    (cc, parts.1)

-- the identifier behind a sign is the one that was cut
pub same_identifier : (after name rest other back : List ℕ) → TagCut after name rest → AfterXref (64 ∷ after) other back → (other ≡ name) × (64 ∷ 32 ∷ back ≡ rest)
same_identifier after name rest other back c a =
    same_characters other name (32 ∷ back) rest (xref_each other a.name_is) c.characters c.stop
    (sym (after_sign (64 ∷ after) after other back refl a) ∙ c.spelled)

pub no_identifier : (after name rest : List ℕ) → TagCut after name rest → is_xref name ≡ false
    → (other back : List ℕ) → ¬ (AfterXref (64 ∷ after) other back)
no_identifier after name rest c isnt other back a =
    let same = same_identifier after name rest other back c a in
    let passes : is_xref name ≡ true = rw same.0 at a.name_is in
    cc

pub no_sign_behind : (after name rest : List ℕ) → TagCut after name rest → ((back : List ℕ) → rest ≢ 64 ∷ 32 ∷ back)
    → (other back : List ℕ) → ¬ (AfterXref (64 ∷ after) other back)
no_sign_behind after name rest c none other back a = none back (sym (same_identifier after name rest other back c a).1)

void_characters : AreTagCharacters (codes "VOID")
void_characters = all_each is_tag_character (codes "VOID") refl

pointer_characters : (name : List ℕ) → (is_xref name ≡ true) ⊎ (name ≡ codes "VOID") → AreTagCharacters name
pointer_characters name (inl h) = xref_each name h
pointer_characters name (inr h) = subst AreTagCharacters (sym h) void_characters

-- a pointer behind its first sign is a name and a sign
pub no_pointer : (after name rest : List ℕ) → TagCut after name rest → rest ≢ 64 ∷ [] → ¬ (IsPointer (64 ∷ after))
no_pointer after name rest c none (other, h, e) =
    let behind : after ≡ other ++ (64 ∷ []) = cc in
    none (sym (same_characters other name [] rest (pointer_characters other h) c.characters c.stop (sym behind ∙ c.spelled)).1)

pub pointer_name : (after name rest : List ℕ) → TagCut after name rest → rest ≡ 64 ∷ [] → get_or after 0 0 ≢ 64 → bytes_eq name (codes "VOID") ≡ false
    → (is_xref name ≡ true) × (after ≡ name ++ (64 ∷ []))
pointer_name after [] rest c e n v = absurd (n (ap (λ xs. get_or xs 0 0) (c.spelled ∙ e)))
pointer_name after (b ∷ bs) rest c e n v = (
  and_true (not (length (b ∷ bs) == 0) && not (bytes_eq (b ∷ bs) (codes "VOID"))) (list_all is_tag_character (b ∷ bs))
      (and_true (not (length (b ∷ bs) == 0)) (not (bytes_eq (b ∷ bs) (codes "VOID"))) (some_text b bs) (rw v refl))
      (all_characters after (b ∷ bs) rest c),
  c.spelled ∙ ap (λ r. (b ∷ bs) ++ r) e,
)

-- a first byte stands in a text that is not empty, and is the whole of one of length 1
pub some_first : (b : ℕ) (text : List ℕ) → get_or text 0 0 ≡ b → 0 < b → 1 ≤ length text
some_first b [] e s = absurd (omega arith)
some_first b (c ∷ cs) e s = omega arith

pub one_first : (b : ℕ) (text : List ℕ) → length text ≡ 1 → get_or text 0 0 ≡ b → text ≡ b ∷ []
one_first b [] l e = absurd (omega arith)
one_first b (c ∷ []) l e = ap (λ d. d ∷ []) e
one_first b (c ∷ d ∷ ds) l e = absurd (omega arith)
