-- Where a list is cut at a first byte.
use Rattle.std.proofs.Common.{◌≡◌, ◌≢◌, ℕ, ◌<◌, true, List, [], ◌∷◌, ◌++◌, length, get_or, refl, arith}
use Rattle.std.proofs.lemmas.Bool.Decides.{nat_tests}
use Rattle.std.proofs.lemmas.List.Elements.{recursion_from_All, All-from_get_or}
use Rattle.std.specs.List.{AllByRecursion}
use Rattle.ged_line.specs.Characters.{is_tag_character}
use Rattle.std.specs.Char.{is_ascii_digit}

-- c is no element
abbrev pub Lacks : ℕ → List ℕ → Type 0
Lacks c xs = AllByRecursion (λ b. b ≢ c) xs

pub Lacks-from_places : (c : ℕ) (xs : List ℕ) → ((i : ℕ) → i < length xs → get_or xs i 0 ≢ c) → Lacks c xs
Lacks-from_places c xs h = recursion_from_All (λ b. b ≢ c) xs (All-from_get_or (λ b. b ≢ c) xs 0 h)

pub AllByRecursion-weaker : {X : Type 0} (P Q : X → Type 0) → ((x : X) → P x → Q x) → (xs : List X) → AllByRecursion P xs → AllByRecursion Q xs
AllByRecursion-weaker P Q h [] a = tt
AllByRecursion-weaker P Q h (x ∷ xs) a = (h x a.0, AllByRecursion-weaker P Q h xs a.1)

pub digit_not_space : (c : ℕ) → is_ascii_digit c ≡ true → c ≢ 32
digit_not_space c h = λ (e : c ≡ 32). grind (arith, nat_tests)

pub tag_character_not_space : (c : ℕ) → is_tag_character c ≡ true → c ≢ 32
tag_character_not_space c h = λ (e : c ≡ 32). grind (arith, nat_tests)

pub tag_character_not_at : (c : ℕ) → is_tag_character c ≡ true → c ≢ 64
tag_character_not_at c h = λ (e : c ≡ 64). grind (arith, nat_tests)

-- a list is cut at its first c in one way
pub cut_same : (c : ℕ) (a b x y : List ℕ) → Lacks c a → Lacks c b → a ++ (c ∷ x) ≡ b ++ (c ∷ y) → (a ≡ b) × (x ≡ y)
cut_same c [] [] x y f g e = (refl, cc)
cut_same c [] (b ∷ bs) x y f g e = absurd (g.0 (cc))
cut_same c (a ∷ as') [] x y f g e = absurd (f.0 (cc))
cut_same c (a ∷ as') (b ∷ bs) x y f g e =
    let tails : as' ++ (c ∷ x) ≡ bs ++ (c ∷ y) = cc in
    let parts = cut_same c as' bs x y f.1 g.1 tails in
    let first : a ≡ b = cc in
    let front : as' ≡ bs = parts.0 in
    (cc, parts.1)

-- a list with a c is none without
pub cut_not_whole : (c : ℕ) (a x b : List ℕ) → Lacks c b → a ++ (c ∷ x) ≡ b → ⊥
cut_not_whole c [] x [] f e = cc
cut_not_whole c [] x (b ∷ bs) f e = f.0 (cc)
cut_not_whole c (a ∷ as') x [] f e = cc
cut_not_whole c (a ∷ as') x (b ∷ bs) f e = cut_not_whole c as' x bs f.1 (cc)
