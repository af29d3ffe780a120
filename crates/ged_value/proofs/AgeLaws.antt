-- What is read as an age is spelled so, and what is spelled so is read.
use Rattle.std.proofs.Common.{◌≡◌, ◌≢◌, ℕ, ◌≤◌, ◌<◌, Bool, true, false, not, ◌&&◌, inl, inr, cond, List, [], ◌∷◌, ◌++◌, length, Option, Some, None, refl, sym, ap, subst, ◌∙◌, arith, length-append}
use Rattle.std.specs.Prelude.{codes, nat_lt, ◌==◌, option_and_then, MatchOption}
use Rattle.std.specs.List.{list_all}
use Rattle.std.specs.Option.{option_map}
use Rattle.std.specs.Borrow.{Bor}
use Rattle.std.specs.Str.{bytes_eq}
use Rattle.std.specs.Char.{is_ascii_digit}
use Rattle.std.proofs.lemmas.Bool.{ne_eqb, and_parts, and_right, or_from, or_parts, false≢true}
use Rattle.std.proofs.lemmas.Bool.Decides.{Decides-eqb, nat_tests}
use Rattle.std.proofs.lemmas.Option.{cond_some}
use Rattle.std.proofs.lemmas.Slice.Eq.{bytes_eq-Decides}
use Rattle.std.proofs.lemmas.List.Splits.{join_with_byte-slice_split}
use Rattle.ged_value.specs.Words.{Bytes, is_integer, words_of, joined}
use Rattle.ged_value.specs.Texts.{bytes_of}
use Rattle.ged_value.specs.Reading.{Reads}
use Rattle.ged_value.specs.Ages.{Sign, less, greater, AgeParts, sign_words, unit_words, duration_words, IsNumber, HasNumbers, AgeText}
use Rattle.ged_value.specs.inner.AgeReading.{before_last, if_integer, number_before, unit_behind, unit_at, sign_at, units_at, age_at}
use Rattle.ged_value.proofs.DateLaws.{nots, some_same}
use Rattle.ged_value.proofs.Foreign.{Lack, has_space, no_space}
use Rattle.ged_value.proofs.ValueLaws.{none_some, map_some}
use Rattle.ged_value.proofs.TextLaws.{Plainly, words_same, lack_join}

same_byte : (c : ℕ) → (c == c) ≡ true
same_byte c = (Decides-eqb c c).1 refl

before_again : (c : ℕ) (front : Bytes) → before_last c (front ++ (c ∷ [])) ≡ Some front
before_again c [] = rw (same_byte c) refl
before_again c (b ∷ []) = rw (same_byte c) refl
before_again c (b ∷ d ∷ bs) = ap (option_map (λ front. b ∷ front)) (before_again c (d ∷ bs))

before_other : (c d : ℕ) (front : Bytes) → (d == c) ≡ false → before_last c (front ++ (d ∷ [])) ≡ None
before_other c d [] n = rw n refl
before_other c d (b ∷ []) n = rw n refl
before_other c d (b ∷ e ∷ bs) n = ap (option_map (λ front. b ∷ front)) (before_other c d (e ∷ bs) n)

before_one : (c b : ℕ) (front : Bytes) (t : Bool) → (b == c) ≡ t → cond {A = Option Bytes} t (Some []) None ≡ Some front → b ∷ [] ≡ front ++ (c ∷ [])
before_one c b front true e h = let q : ◌≡◌ {A = Bytes} [] front = cc in subst (λ f. b ∷ [] ≡ f ++ (c ∷ [])) q (ap (λ x. x ∷ []) ((Decides-eqb b c).0 e))
before_one c b front false e h = absurd (none_some h)

before_found : (c : ℕ) (w front : Bytes) → before_last c w ≡ Some front → w ≡ front ++ (c ∷ [])
before_found c [] front h = absurd (none_some h)
before_found c (b ∷ []) front h = before_one c b front (b == c) refl h
before_found c (b ∷ d ∷ bs) front h =
    let m = map_some (λ f. b ∷ f) (before_last c (d ∷ bs)) front h in
    subst (λ f. b ∷ d ∷ bs ≡ f ++ (c ∷ [])) m.2 (ap (λ x. b ∷ x) (before_found c (d ∷ bs) m.0 m.1))

none_of_option : {A : Type 0} (o : Option A) → ((x : A) → o ≡ Some x → ⊥) → None ≡ o
none_of_option None h = refl
none_of_option (Some x) h = absurd (h x refl)

pub stripped : (c : ℕ) (w : Bytes) (r : Option (Bor (List ℕ))) → MatchOption r ((front : List ℕ) → w ≢ front ++ (c ∷ [])) (λ x. w ≡ x.now ++ (c ∷ [])) → option_map bytes_of r ≡ before_last c w
stripped c w None h = none_of_option (before_last c w) (λ front e. h front (before_found c w front e))
stripped c w (Some x) h = sym (ap (before_last c) h ∙ before_again c x.now)

number_again : (c : ℕ) (n : Bytes) → is_integer n ≡ true → number_before c (n ++ (c ∷ [])) ≡ Some n
number_again c n i = rw (before_again c n) (rw i refl)

number_other : (c d : ℕ) (n : Bytes) → (d == c) ≡ false → number_before c (n ++ (d ∷ [])) ≡ None
number_other c d n e = rw (before_other c d n e) refl

integer_some : (o : Option Bytes) (n : Bytes) → option_and_then if_integer o ≡ Some n → (o ≡ Some n) × (is_integer n ≡ true)
integer_some None n h = absurd (none_some h)
integer_some (Some x) n h = let q = cond_some (is_integer x) x n h in (ap (λ y. Some y) q.1, subst (λ y. is_integer y ≡ true) q.1 q.0)

-- no number before the letter comes first
abbrev NoUnit : ℕ → List Bytes → Type 0
NoUnit c [] = Unit {0}
NoUnit c (w ∷ ws) = number_before c w ≡ None

no_unit_more : (c d : ℕ) (p : Option Bytes) (rest : List Bytes) → (d == c) ≡ false → NoUnit c rest → NoUnit c (unit_words d p ++ rest)
no_unit_more c d None rest e h = h
no_unit_more c d (Some n) rest e h = number_other c d n e

unit_again : (c : ℕ) (p : Option Bytes) (rest : List Bytes) → IsNumber p → NoUnit c rest → unit_at c (unit_words c p ++ rest) ≡ (p, rest)
unit_again c None [] i h = refl
unit_again c None (w ∷ ws) i h = rw h refl
unit_again c (Some n) rest i h = rw (number_again c n i) refl

last_again : (c : ℕ) (p : Option Bytes) → IsNumber p → unit_at c (unit_words c p) ≡ (p, [])
last_again c None i = refl
last_again c (Some n) i = rw (number_again c n i) refl

none_last : (c d : ℕ) (p : Option Bytes) → (d == c) ≡ false → NoUnit c (unit_words d p)
none_last c d None e = tt
none_last c d (Some n) e = number_other c d n e

units_again : (a : AgeParts) → HasNumbers a → 0 < length (duration_words a) → units_at a.bound (duration_words a) ≡ Some a
units_again a h some =
    let d = unit_words 100 a.days in
    let w = unit_words 119 a.weeks ++ d in
    let m = unit_words 109 a.months ++ w in
    let y = unit_again 121 a.years m h.0 (no_unit_more 121 109 a.months w refl (no_unit_more 121 119 a.weeks d refl (none_last 121 100 a.days refl))) in
    let n = unit_again 109 a.months w h.1 (no_unit_more 109 119 a.weeks d refl (none_last 109 100 a.days refl)) in
    let k = unit_again 119 a.weeks d h.2 (none_last 119 100 a.days refl) in
    let z : (length (duration_words a) == 0) ≡ false = ne_eqb _ _ (λ q. omega arith) in
    rw (y, n, k, last_again 100 a.days h.3, z) refl

-- no sign comes first
abbrev NoSign : List Bytes → Type 0
NoSign [] = Unit {0}
NoSign (w ∷ ws) = (bytes_eq w (codes "<") ≡ false) × (bytes_eq w (codes ">") ≡ false)

unit_no_sign : (c : ℕ) (n : Bytes) (rest : List Bytes) → is_integer n ≡ true → NoSign ((n ++ (c ∷ [])) ∷ rest)
unit_no_sign c [] rest i = absurd (false≢true i)
unit_no_sign c (b ∷ []) rest i = (and_right _ _ refl, and_right _ _ refl)
unit_no_sign c (b ∷ d ∷ bs) rest i = (and_right _ _ refl, and_right _ _ refl)

no_sign_more : (c : ℕ) (p : Option Bytes) (rest : List Bytes) → IsNumber p → NoSign rest → NoSign (unit_words c p ++ rest)
no_sign_more c None rest i h = h
no_sign_more c (Some n) rest i h = unit_no_sign c n rest i

no_sign_last : (c : ℕ) (p : Option Bytes) → IsNumber p → NoSign (unit_words c p)
no_sign_last c None i = tt
no_sign_last c (Some n) i = unit_no_sign c n [] i

sign_again : (b : Option Sign) (ws : List Bytes) → NoSign ws → sign_at (sign_words b ++ ws) ≡ (b, ws)
sign_again None [] h = refl
sign_again None (w ∷ ws) h = rw (h.0, h.1) refl
sign_again (Some less) ws h = refl
sign_again (Some greater) ws h = refl

pub age_again : (a : AgeParts) → HasNumbers a → 0 < length (duration_words a) → age_at (sign_words a.bound ++ duration_words a) ≡ Some a
age_again a h some =
    let d = unit_words 100 a.days in
    let w = unit_words 119 a.weeks ++ d in
    let m = unit_words 109 a.months ++ w in
    let n = no_sign_more 121 a.years m h.0 (no_sign_more 109 a.months w h.1 (no_sign_more 119 a.weeks d h.2 (no_sign_last 100 a.days h.3))) in
    rw (sign_again a.bound (duration_words a) n) (units_again a h some)

unit_choice : (c : ℕ) (w : Bytes) (ws : List Bytes) (o : Option Bytes) → number_before c w ≡ o → ((w ∷ ws) ≡ unit_words c (unit_behind o w ws).0 ++ (unit_behind o w ws).1) × IsNumber (unit_behind o w ws).0
unit_choice c w ws None e = (refl, tt)
unit_choice c w ws (Some n) e =
    let q = integer_some (before_last c w) n e in
    (ap (λ x. x ∷ ws) (before_found c w n q.0), q.1)

unit_found : (c : ℕ) (ws : List Bytes) → (ws ≡ unit_words c (unit_at c ws).0 ++ (unit_at c ws).1) × IsNumber (unit_at c ws).0
unit_found c [] = (refl, tt)
unit_found c (w ∷ ws) = unit_choice c w ws (number_before c w) refl

sign_choice : (w : Bytes) (ws : List Bytes) (s t : Bool) → bytes_eq w (codes "<") ≡ s → bytes_eq w (codes ">") ≡ t
    → let r : Option Sign × List Bytes = cond s (Some less, ws) (cond t (Some greater, ws) (None, w ∷ ws)) in (w ∷ ws) ≡ sign_words r.0 ++ r.1
sign_choice w ws true t e f = ap (λ x. x ∷ ws) ((bytes_eq-Decides w (codes "<")).0 e)
sign_choice w ws false true e f = ap (λ x. x ∷ ws) ((bytes_eq-Decides w (codes ">")).0 f)
sign_choice w ws false false e f = refl

sign_found : (ws : List Bytes) → ws ≡ sign_words (sign_at ws).0 ++ (sign_at ws).1
sign_found [] = refl
sign_found (w ∷ ws) = sign_choice w ws (bytes_eq w (codes "<")) (bytes_eq w (codes ">")) refl refl

nothing : (ws : List Bytes) → (length ws == 0) ≡ true → ws ≡ []
nothing [] h = refl
nothing (w ∷ ws) h = absurd (false≢true (sym (ne_eqb (length (w ∷ ws)) 0 (λ q. omega arith)) ∙ h))

positive : (n : ℕ) → not (n == 0) ≡ true → 0 < n
positive n h = let z = nots (n == 0) h in grind (arith, nat_tests)

append_none : (ws : List Bytes) → ws ++ [] ≡ ws
append_none [] = refl
append_none (w ∷ ws) = ap (λ x. w ∷ x) (append_none ws)

-- the parts of an age that was read
pub record IsAge (a : AgeParts) (ws : List Bytes) : Type 0 where
  pub numbers : HasNumbers a
  pub some : 0 < length (duration_words a)
  pub words : ws ≡ sign_words a.bound ++ duration_words a

pub age_found : (a : AgeParts) (ws : List Bytes) → age_at ws ≡ Some a → IsAge a ws
age_found a ws h =
    let us = (sign_at ws).1 in
    let y = unit_at 121 us in
    let m = unit_at 109 y.1 in
    let w = unit_at 119 m.1 in
    let d = unit_at 100 w.1 in
    let read : AgeParts = record { bound = (sign_at ws).0; years = y.0; months = m.0; weeks = w.0; days = d.0 } in
    let q = cond_some (not (length us == 0) && (length d.1 == 0)) read a h in
    let t = and_parts _ _ q.0 in
    let last : w.1 ≡ unit_words 100 d.0 = (unit_found 100 w.1).0 ∙ ap (λ x. unit_words 100 d.0 ++ x) (nothing d.1 t.1) ∙ append_none (unit_words 100 d.0) in
    let all : us ≡ duration_words read =
    (unit_found 121 us).0 ∙ ap (λ x. unit_words 121 y.0 ++ x) ((unit_found 109 y.1).0 ∙ ap (λ x. unit_words 109 m.0 ++ x) ((unit_found 119 m.1).0 ∙ ap (λ x. unit_words 119 w.0 ++ x) last)) in
    let some : 0 < length (duration_words read) = subst (λ x. 0 < length x) all (positive (length us) t.0) in
    let r : IsAge read ws = record {
      numbers = ((unit_found 121 us).1, (unit_found 109 y.1).1, (unit_found 119 m.1).1, (unit_found 100 w.1).1);
      some = some;
      words = sign_found ws ∙ ap (λ x. sign_words (sign_at ws).0 ++ x) all;
    } in
    subst (λ x. IsAge x ws) q.1 r

-- words without spaces, five at most
space_end : (n : Bytes) (c : ℕ) → has_space n ≡ false → (c == 32) ≡ false → has_space (n ++ (c ∷ [])) ≡ false
space_end [] c h e = rw e refl
space_end (b ∷ bs) c h e = let p = or_parts (b == 32) (has_space bs) h in or_from _ _ p.0 (space_end bs c p.1 e)

unit_spaceless : (c : ℕ) (p : Option Bytes) → (c == 32) ≡ false → IsNumber p → Lack has_space (unit_words c p)
unit_spaceless c None e i = refl
unit_spaceless c (Some n) e i =
    let digits = and_parts (nat_lt 0 (length n)) (list_all is_ascii_digit n) i in
    let l : has_space (n ++ (c ∷ [])) ≡ false = space_end n c (no_space is_ascii_digit n refl digits.1) e in
    rw l refl

sign_spaceless : (b : Option Sign) → Lack has_space (sign_words b)
sign_spaceless None = refl
sign_spaceless (Some less) = refl
sign_spaceless (Some greater) = refl

one_at_most : (c : ℕ) (p : Option Bytes) → length (unit_words c p) ≤ 1
one_at_most c None = omega arith
one_at_most c (Some n) = omega arith

sign_at_most : (b : Option Sign) → length (sign_words b) ≤ 1
sign_at_most None = omega arith
sign_at_most (Some less) = omega arith
sign_at_most (Some greater) = omega arith

pub age_plainly : (a : AgeParts) → HasNumbers a → 0 < length (duration_words a) → Plainly (sign_words a.bound ++ duration_words a)
age_plainly a h some =
    let y = unit_words 121 a.years in
    let m = unit_words 109 a.months in
    let w = unit_words 119 a.weeks in
    let d = unit_words 100 a.days in
    record {
      some = omega (arith, length-append (sign_words a.bound) (duration_words a), some);
      few = omega (
        arith,
        length-append (sign_words a.bound) (duration_words a),
        length-append y (m ++ (w ++ d)),
        length-append m (w ++ d),
        length-append w d,
        one_at_most 121 a.years,
        one_at_most 109 a.months,
        one_at_most 119 a.weeks,
        one_at_most 100 a.days,
        sign_at_most a.bound,
      );
      spaceless = lack_join (sign_words a.bound) (duration_words a) (sign_spaceless a.bound)
          (lack_join y (m ++ (w ++ d)) (unit_spaceless 121 a.years refl h.0) (lack_join m (w ++ d) (unit_spaceless 109 a.months refl h.1)
          (lack_join w d (unit_spaceless 119 a.weeks refl h.2) (unit_spaceless 100 a.days refl h.3))));
    }

-- a text that isn't empty, by its words
pub reads_age : {X : Type 0} (view : X → AgeParts) (text : Bytes) (r : Option X) → 0 < length text → option_map view r ≡ age_at (words_of text) → Reads r view (λ a. AgeText a text)
reads_age view text None full e = λ a s. elim s [
  | inl n ↦ absurd (let z = ap length n.1 in omega arith)
  | inr t ↦ none_some (e ∙ ap age_at (words_same _ text (age_plainly a t.0 t.1) t.2) ∙ age_again a t.0 t.1)
]
reads_age view text (Some x) full e =
    let f = age_found (view x) (words_of text) (sym e) in
    inr (f.numbers, f.some, sym (join_with_byte-slice_split 32 text) ∙ ap joined f.words)

pub too_many_words : {X : Type 0} (view : X → AgeParts) (text : Bytes) → 0 < length text → 12 < length (words_of text) → Reads None view (λ a. AgeText a text)
too_many_words view text full many = λ a s. elim s [
  | inl n ↦ absurd (let z = ap length n.1 in omega arith)
  | inr t ↦ (let p = age_plainly a t.0 t.1 in let few = p.few in let z = ap length (words_same _ text p t.2) in absurd (omega arith))
]

-- the empty text spells no sign and numbers
empty_spells_none : (text : Bytes) (a : AgeParts) → text ≡ [] → HasNumbers a → 0 < length (duration_words a) → text ≡ joined (sign_words a.bound ++ duration_words a) → ⊥
empty_spells_none text a n h some e = none_some (ap age_at (words_same _ [] (age_plainly a h some) (sym n ∙ e)) ∙ age_again a h some)

-- a text is one age at most
pub one_age : (text : Bytes) (a b : AgeParts) → AgeText a text → AgeText b text → a ≡ b
one_age text a b s t = elim s [
  | inl n ↦ elim t [ inl m ↦ n.0 ∙ sym m.0 | inr u ↦ absurd (empty_spells_none text b n.1 u.0 u.1 u.2) ]
  | inr r ↦ elim t [
    | inl m ↦ absurd (empty_spells_none text a m.1 r.0 r.1 r.2)
    | inr u ↦ some_same a b (sym (age_again a r.0 r.1) ∙ ap age_at (sym (words_same _ text (age_plainly a r.0 r.1) r.2) ∙ words_same _ text (age_plainly b u.0 u.1) u.2) ∙ age_again b u.0 u.1)
  ]
]

pub not_empty : (n : ℕ) → (n == 0) ≡ false → 0 < n
not_empty n h = grind (arith, nat_tests)
