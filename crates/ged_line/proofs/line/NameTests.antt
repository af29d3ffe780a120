-- What the tests of names and texts say.
use Rattle.std.proofs.Common.{◌≡◌, ◌≢◌, ℕ, Bool, true, false, ◌&&◌, ◌||◌, ◌==◌, not, List, [], ◌∷◌, ◌⊎◌, inl, inr, length, refl, arith, codes}
use Rattle.std.proofs.lemmas.Bool.Decides.{nat_tests}
use Rattle.std.specs.List.{AllByRecursion, list_all}
use Rattle.std.specs.Str.{bytes_eq}
use Rattle.ged_line.specs.Characters.{is_tag_character}
use Rattle.std.specs.Char.{is_ascii_uppercase}
use Rattle.ged_line.specs.Names.{is_tag, is_standard_tag, is_extension_tag, is_xref}

pub bool_cases : (b : Bool) → (b ≡ true) ⊎ (b ≡ false)
bool_cases true = inl refl
bool_cases false = inr refl

pub or_cases : (a b : Bool) → (a || b) ≡ true → (a ≡ true) ⊎ (b ≡ true)
or_cases true b h = inl refl
or_cases false b h = inr h

pub and_left : (a b : Bool) → (a && b) ≡ true → a ≡ true
and_left true b h = refl
and_left false b h = cc

pub and_right : (a b : Bool) → (a && b) ≡ true → b ≡ true
and_right true b h = h
and_right false b h = cc

pub and_true : (a b : Bool) → a ≡ true → b ≡ true → (a && b) ≡ true
and_true a b e f = rw (e, f) refl

pub all_each : (p : ℕ → Bool) (xs : List ℕ) → list_all p xs ≡ true → AllByRecursion (λ x. p x ≡ true) xs
all_each p [] h = tt
all_each p (x ∷ xs) h = (and_left (p x) (list_all p xs) h, all_each p xs (and_right (p x) (list_all p xs) h))

pub each_all : (p : ℕ → Bool) (xs : List ℕ) → AllByRecursion (λ x. p x ≡ true) xs → list_all p xs ≡ true
each_all p [] h = refl
each_all p (x ∷ xs) h = and_true (p x) (list_all p xs) h.0 (each_all p xs h.1)

-- every character of a tag or an identifier is a tag character
abbrev pub AreTagCharacters : List ℕ → Type 0
AreTagCharacters xs = AllByRecursion (λ c. is_tag_character c ≡ true) xs

pub capital_is_tag_character : (c : ℕ) → is_ascii_uppercase c ≡ true → is_tag_character c ≡ true
capital_is_tag_character c h = grind (arith, nat_tests)

underscore_is_tag_character : (c : ℕ) → (c == 0x5F) ≡ true → is_tag_character c ≡ true
underscore_is_tag_character c h = grind (arith, nat_tests)

pub tag_each : (tag : List ℕ) → is_tag tag ≡ true → AreTagCharacters tag
tag_each [] h = cc
tag_each (c ∷ cs) h = elim (or_cases (is_standard_tag (c ∷ cs)) (is_extension_tag (c ∷ cs)) h) [
  | inl s ↦ (capital_is_tag_character c (and_left (is_ascii_uppercase c) (list_all is_tag_character cs) s), all_each is_tag_character cs (and_right (is_ascii_uppercase c) (list_all is_tag_character cs) s))
  | inr x ↦
      let front : ((c == 0x5F) && not (length cs == 0)) ≡ true = and_left ((c == 0x5F) && not (length cs == 0)) (list_all is_tag_character cs) x in
      (underscore_is_tag_character c (and_left (c == 0x5F) (not (length cs == 0)) front), all_each is_tag_character cs (and_right ((c == 0x5F) && not (length cs == 0)) (list_all is_tag_character cs) x))
]

pub tag_some : is_tag [] ≡ true → ⊥
tag_some h = cc

pub xref_each : (name : List ℕ) → is_xref name ≡ true → AreTagCharacters name
xref_each name h = all_each is_tag_character name (and_right (not (length name == 0) && not (bytes_eq name (codes "VOID"))) (list_all is_tag_character name) h)

pub xref_apart : (name : List ℕ) → is_xref name ≡ true → not (bytes_eq name (codes "VOID")) ≡ true
xref_apart name h = and_right (not (length name == 0)) (not (bytes_eq name (codes "VOID"))) (and_left (not (length name == 0) && not (bytes_eq name (codes "VOID"))) (list_all is_tag_character name) h)

pub xref_not_void : (name : List ℕ) → is_xref name ≡ true → name ≢ codes "VOID"
xref_not_void name h e = let n : not (bytes_eq (codes "VOID") (codes "VOID")) ≡ true = rw e at (xref_apart name h) in cc
