-- A line's parts, looked at byte by byte.
use Rattle.std.proofs.Common.{Result, Ok, Err, ◌≡◌, ◌≢◌, ℕ, ◌<◌, ◌≤◌, ◌+◌, ◌-◌, ◌*◌, zero, suc, true, false, List, [], ◌∷◌, ◌++◌, ◌⊎◌, inl, inr, length, get_or, take, drop, refl, sym, ◌∙◌, ap, subst, arith, decimal, get_or-take}
use Rattle.std.proofs.lemmas.Bool.Decides.{nat_tests}
use Rattle.std.proofs.lemmas.List.{take-append-drop, length-take-le, length-drop, get_or-drop, append-nil}
use Rattle.std.proofs.lemmas.List.Elements.{recursion_from_All, All-from_get_or}
use Rattle.std.proofs.lemmas.Str.{IsCharBoundary-after_ascii, IsCharBoundary-start}
use Rattle.std.proofs.Math.Numerals.{one-add, add-one}
use Rattle.std.specs.List.{list_all}
use Rattle.std.specs.Str.{IsUtf8, IsCharBoundary, NoCharPasses}
use Rattle.std.specs.Result.{MatchResult}
use Rattle.ged_line.specs.Characters.{is_tag_character, is_banned}
use Rattle.std.specs.Char.{is_ascii_uppercase}
use Rattle.ged_line.specs.Names.{is_tag}
use Rattle.ged_line.specs.Lines.{Empty, Text, is_value}
use Rattle.ged_line.specs.inner.LineTexts.{IsValuePart}
use Rattle.ged_line.specs.Views.{viewed_value}
use Rattle.ged_line.specs.Faults.{word, IsPointer, BeginsWith}
use Rattle.ged_line.specs.declared.line.view.ValueView.{ValueView}
use Rattle.ged_line.specs.declared.fault.LineFault.{LineFault}
use Rattle.ged_line.specs.declared.fault.LineFault.TheVariants.{BadValue}
use Rattle.ged_line.proofs.line.Values.{text_is}
use Rattle.ged_line.proofs.line.Reading.{NoCharPasses-tail}
use Rattle.ged_line.proofs.line.NameTests.{AreTagCharacters, bool_cases, capital_is_tag_character, each_all, tag_each}
use Rattle.ged_line.proofs.line.Cuts.{Lacks, AllByRecursion-weaker, tag_character_not_space}
use Rattle.ged_line.proofs.line.Levels.{digit_from, number_one, number_two}
use Rattle.ged_line.proofs.line.Words.{not_space, word_cut, word_whole}

-- a digit and a space at the front
pub level_digit : (text : List ℕ) → 2 ≤ length text → 48 ≤ get_or text 0 0 → get_or text 0 0 ≤ 57 → get_or text 1 0 ≡ 32
    → (get_or text 0 0 - 48 ≤ 99) × (text ≡ decimal (get_or text 0 0 - 48) ++ (32 ∷ drop 2 text))
level_digit [] l a b e = absurd (omega arith)
level_digit (d ∷ []) l a b e = absurd (omega arith)
level_digit (d ∷ s ∷ rest) l a b e =
    let one : decimal (d - 48) ≡ d ∷ [] = number_one d (digit_from d a b) in
    (omega arith, rw (one, e) refl)

-- two digits, of which the first is not 0, and a space at the front
pub level_digits : (text : List ℕ) → 3 ≤ length text → 49 ≤ get_or text 0 0 → get_or text 0 0 ≤ 57 → 48 ≤ get_or text 1 0 → get_or text 1 0 ≤ 57 → get_or text 2 0 ≡ 32
    → ((get_or text 0 0 - 48) * 10 + (get_or text 1 0 - 48) ≤ 99)
    × ((rest : List ℕ) × (text ≡ decimal ((get_or text 0 0 - 48) * 10 + (get_or text 1 0 - 48)) ++ 32 ∷ rest))
level_digits [] l a b c d e = absurd (omega arith)
level_digits (x ∷ []) l a b c d e = absurd (omega arith)
level_digits (x ∷ y ∷ []) l a b c d e = absurd (omega arith)
level_digits (x ∷ y ∷ s ∷ rest) l a b c d e =
    let two : decimal ((x - 48) * 10 + (y - 48)) ≡ x ∷ y ∷ [] = number_two x y (digit_from x (omega arith) b) (digit_from y c d) (λ z. omega (arith, a, z)) in
    (omega arith, (rest, rw (two, e) refl))

-- the first n characters are tag characters
abbrev pub TagFront : List ℕ → ℕ → Type 0
TagFront text n = (at : ℕ) → at < n → is_tag_character (get_or text at 0) ≡ true

tag_character_ascii : (c : ℕ) → is_tag_character c ≡ true → c < 128
tag_character_ascii c h = grind (arith, nat_tests)

pub front_boundary : (text : List ℕ) (n : ℕ) → IsUtf8 text → n ≤ length text → TagFront text n → IsCharBoundary text n
front_boundary text zero u l f = IsCharBoundary-start text u
front_boundary text (suc n) u l f =
    rw (sym (add-one n)) (IsCharBoundary-after_ascii text n u (omega arith) (tag_character_ascii (get_or text n 0) (f n (omega arith))))

pub front_characters : (text : List ℕ) (n : ℕ) → n ≤ length text → TagFront text n → AreTagCharacters (take n text)
front_characters text n l f = recursion_from_All (λ c. is_tag_character c ≡ true) (take n text)
    (All-from_get_or (λ c. is_tag_character c ≡ true) (take n text) 0 (λ i s.
    let m : length (take n text) ≡ n = length-take-le n text l in
    let low : i < n = omega arith in
    let at : get_or (take n text) i 0 ≡ get_or text i 0 = get_or-take n text i 0 low in
    ap is_tag_character at ∙ f i low))

-- a text that a test of its first bytes cuts into a tag and the rest
pub record TagCut (text tag rest : List ℕ) : Type 0 where
  pub characters : AreTagCharacters tag
  pub spelled : text ≡ tag ++ rest
  pub stop : 0 < length rest → is_tag_character (get_or rest 0 0) ≡ false

pub tag_cut : (text tag rest : List ℕ) (n : ℕ) → n ≤ length text → TagFront text n → (n < length text → is_tag_character (get_or text n 0) ≡ false)
    → tag ≡ take n text → rest ≡ drop n text → TagCut text tag rest
tag_cut text tag rest n l f s t r = record {
  characters = subst AreTagCharacters (sym t) (front_characters text n l f);
  spelled = rw (t, r) (sym (take-append-drop n text));
  stop = λ some.
      let k : length (drop n text) ≡ length text - n = length-drop n text in
      let same : length rest ≡ length (drop n text) = ap length r in
      let here : get_or (drop n text) 0 0 ≡ get_or text (n + 0) 0 = get_or-drop n text 0 0 in
      let plus : n + 0 ≡ n = omega arith in
      ap (λ b. is_tag_character (get_or b 0 0)) r ∙ ap is_tag_character (here ∙ ap (λ k. get_or text k 0) plus) ∙ s (omega arith);
}

pub all_characters : (text tag rest : List ℕ) → TagCut text tag rest → list_all is_tag_character tag ≡ true
all_characters text tag rest c = each_all is_tag_character tag c.characters

Lacks-tag : (tag : List ℕ) → AreTagCharacters tag → Lacks 32 tag
Lacks-tag tag a = AllByRecursion-weaker _ _ tag_character_not_space tag a

abbrev pub IsBehindTag : List ℕ → List ℕ → Type 0
IsBehindTag rest value = ((rest ≡ []) × (value ≡ [])) ⊎ (rest ≡ 32 ∷ value)

pub behind_none : (rest value : List ℕ) → length rest < 1 → value ≡ rest → IsBehindTag rest value
behind_none [] value l e = inl (refl, e)
behind_none (b ∷ rest) value l e = absurd (omega arith)

pub behind_space : (rest value : List ℕ) → 1 ≤ length rest → get_or rest 0 0 ≡ 32 → value ≡ drop 1 rest → IsBehindTag rest value
behind_space [] value l s e = absurd (omega arith)
behind_space (b ∷ rest) value l s e = inr (rw (s, e) refl)

pub word_is_tag : (text tag rest value : List ℕ) → TagCut text tag rest → IsBehindTag rest value → word text ≡ tag
word_is_tag text tag rest value c (inl (e, v)) =
    ap word (c.spelled ∙ ap (λ r. tag ++ r) e ∙ append-nil tag) ∙ word_whole tag (Lacks-tag tag c.characters)
word_is_tag text tag rest value c (inr e) = ap word (c.spelled ∙ ap (λ r. tag ++ r) e) ∙ word_cut tag value (Lacks-tag tag c.characters)

-- a text that begins with four capital letters
abbrev pub CapitalFront : List ℕ → Type 0
CapitalFront text = (at : ℕ) → at < 4 → is_ascii_uppercase (get_or text at 0) ≡ true

pub capital_boundary : (text : List ℕ) → IsUtf8 text → 4 ≤ length text → CapitalFront text → IsCharBoundary text 4
capital_boundary text u l f = front_boundary text 4 u l (λ at lt. capital_is_tag_character (get_or text at 0) (f at lt))

capitals_are_tag : (text : List ℕ) → 4 ≤ length text → CapitalFront text → is_tag (take 4 text) ≡ true
capitals_are_tag [] l f = absurd (omega arith)
capitals_are_tag (a ∷ []) l f = absurd (omega arith)
capitals_are_tag (a ∷ b ∷ []) l f = absurd (omega arith)
capitals_are_tag (a ∷ b ∷ c ∷ []) l f = absurd (omega arith)
capitals_are_tag (a ∷ b ∷ c ∷ d ∷ rest) l f =
    let first : is_ascii_uppercase a ≡ true = f 0 (omega arith) in
    let second : is_tag_character b ≡ true = capital_is_tag_character b (f 1 (omega arith)) in
    let third : is_tag_character c ≡ true = capital_is_tag_character c (f 2 (omega arith)) in
    let fourth : is_tag_character d ≡ true = capital_is_tag_character d (f 3 (omega arith)) in
    rw (first, second, third, fourth) refl

cut_behind : (text tag rest value : List ℕ) → text ≡ tag ++ rest → IsBehindTag rest value
    → ((text ≡ tag) × (value ≡ [])) ⊎ (text ≡ tag ++ (32 ∷ value))
cut_behind text tag rest value s (inl (e, v)) = inl (s ∙ ap (λ r. tag ++ r) e ∙ append-nil tag, v)
cut_behind text tag rest value s (inr e) = inr (s ∙ ap (λ r. tag ++ r) e)

pub capital_cut : (text tag rest value : List ℕ) → 4 ≤ length text → CapitalFront text → tag ≡ take 4 text → rest ≡ drop 4 text → IsBehindTag rest value
    → (is_tag tag ≡ true) × (((text ≡ tag) × (value ≡ [])) ⊎ (text ≡ tag ++ (32 ∷ value)))
capital_cut text tag rest value l f t r b =
    let spelled : text ≡ tag ++ rest = rw (t, r) (sym (take-append-drop 4 text)) in
    (ap is_tag t ∙ capitals_are_tag text l f, cut_behind text tag rest value spelled b)

-- a word that goes on behind a first byte that is no space
word_on : (tag : List ℕ) (c : ℕ) (rest : List ℕ) → Lacks 32 tag → c ≢ 32 → word (tag ++ (c ∷ rest)) ≡ tag ++ (c ∷ word rest)
word_on [] c rest f n = rw (not_space c n, one-add) refl
word_on (b ∷ tag) c rest f n = rw (not_space b f.0, one-add) (ap (λ xs. b ∷ xs) (word_on tag c rest f.1 n))

last_character : (tag : List ℕ) (c : ℕ) (rest : List ℕ) → AreTagCharacters (tag ++ (c ∷ rest)) → is_tag_character c ≡ true
last_character [] c rest a = a.0
last_character (b ∷ tag) c rest a = last_character tag c rest a.1

pub no_tag : (text tag rest : List ℕ) → TagCut text tag rest → 0 < length rest → get_or rest 0 0 ≢ 32 → is_tag (word text) ≡ false
no_tag text tag [] c l n = absurd (omega arith)
no_tag text tag (b ∷ rest) c l n = elim (bool_cases (is_tag (word text))) [
  | inl t ↦
      let w : word text ≡ tag ++ (b ∷ word rest) = ap word c.spelled ∙ word_on tag b rest (Lacks-tag tag c.characters) n in
      let passes : is_tag_character b ≡ true = last_character tag b (word rest) (subst AreTagCharacters w (tag_each (word text) t)) in
      let fails : is_tag_character b ≡ false = c.stop l in
      cc
  | inr f ↦ f
]

pub cut_first : (b : ℕ) (text after : List ℕ) → 1 ≤ length text → get_or text 0 0 ≡ b → after ≡ drop 1 text → text ≡ b ∷ after
cut_first b [] after l e d = absurd (omega arith)
cut_first b (c ∷ cs) after l e d = rw (e, d) refl

pub plain_behind : (text after : List ℕ) → text ≡ 64 ∷ after → NoCharPasses is_banned text → NoCharPasses is_banned after
plain_behind text after e n = NoCharPasses-tail is_banned 64 after (omega arith) (subst (λ t. NoCharPasses is_banned t) e n)

-- a text behind a sign that begins with one too
pub signed_text : (after : List ℕ) → ((more : List ℕ) × (after ≡ 64 ∷ more)) → IsUtf8 after → NoCharPasses is_banned after
    → (is_value (Text after) ≡ true) × IsValuePart (Text after) (32 ∷ 64 ∷ after)
signed_text after (more, m) u n = rw m (text_is 64 more (rw m at u) (rw m at n), refl)

-- what is told of a text behind a sign holds of the text with it
pub signed_value : (text after : List ℕ) (result : Result ValueView LineFault) → text ≡ 64 ∷ after
    → MatchResult result (λ v. (is_value (viewed_value v) ≡ true) × IsValuePart (viewed_value v) (32 ∷ 64 ∷ after))
    (λ f. (f ≡ BadValue) × ¬ (IsPointer (64 ∷ after)) × ¬ (BeginsWith 64 after))
    → MatchResult result (λ v. (is_value (viewed_value v) ≡ true) × IsValuePart (viewed_value v) (32 ∷ text) × (text ≡ [] → viewed_value v ≡ Empty))
    (λ f. (f ≡ BadValue) × ((more : List ℕ) × (text ≡ 64 ∷ more) × ¬ (IsPointer text) × ¬ (BeginsWith 64 more)))
signed_value text after (Ok v) e h = (h.0, subst (λ t. IsValuePart (viewed_value v) (32 ∷ t)) (sym e) h.1, λ none. let both : 64 ∷ after ≡ [] = sym e ∙ none in cc)
signed_value text after (Err f) e h = (h.0, (after, e, subst (λ t. ¬ (IsPointer t)) (sym e) h.1, h.2))
