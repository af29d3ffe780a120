-- A level and its digits.
use Rattle.std.proofs.Common.{◌≡◌, ◌≢◌, ℕ, ◌<◌, ◌≤◌, ◌+◌, ◌-◌, ◌*◌, ◌/◌, ◌%◌, ◌==◌, ◌&&◌, cond, suc, Bool, true, false, List, [], ◌∷◌, ◌++◌, length, get_or, drop, refl, sym, ◌∙◌, ap, arith, decimal}
use native.Mathlib.Decide.{dec_lt}
use Rattle.std.proofs.lemmas.Bool.Decides.{nat_tests}
use Rattle.std.proofs.lemmas.Fmt.{decimal_digit, decimal_step}
use Rattle.std.specs.List.{AllByRecursion, list_all}
use Rattle.std.specs.Char.{is_ascii_digit}
use Rattle.ged_line.specs.Faults.{is_level, number_after}
use Rattle.ged_line.proofs.line.NameTests.{and_left, and_right, and_true, all_each, each_all}
use Rattle.ged_line.proofs.line.Cuts.{Lacks, AllByRecursion-weaker, digit_not_space}

pub digit_from : (d : ℕ) → 48 ≤ d → d ≤ 57 → is_ascii_digit d ≡ true
digit_from d l h = grind (arith, nat_tests)

pub digit_bounds : (d : ℕ) → is_ascii_digit d ≡ true → (48 ≤ d) × (d ≤ 57)
digit_bounds d h = (grind (arith, nat_tests), grind (arith, nat_tests))

abbrev pub AreDigits : List ℕ → Type 0
AreDigits ds = AllByRecursion (λ c. is_ascii_digit c ≡ true) ds

-- what the test of a level says
level_by : (b : Bool) (d : ℕ) (ds : List ℕ) → (d == 0x30) ≡ b → cond b (length ds == 0) (is_ascii_digit d && list_all is_ascii_digit ds) ≡ true → AreDigits (d ∷ ds)
level_by true d [] z h = let e : d ≡ 48 = grind (arith, nat_tests) in (digit_from d (omega arith) (omega arith), tt)
level_by true d (x ∷ ds) z h = absurd (grind (arith, nat_tests))
level_by false d ds z h = (and_left (is_ascii_digit d) (list_all is_ascii_digit ds) h, all_each is_ascii_digit ds (and_right (is_ascii_digit d) (list_all is_ascii_digit ds) h))

pub level_each : (digits : List ℕ) → is_level digits ≡ true → AreDigits digits
level_each [] h = cc
level_each (d ∷ ds) h = level_by (d == 0x30) d ds refl h

not_zero : (d : ℕ) → d ≢ 48 → (d == 0x30) ≡ false
not_zero d h = grind (arith, nat_tests)

pub level_from : (d : ℕ) (ds : List ℕ) → AreDigits (d ∷ ds) → d ≢ 48 → is_level (d ∷ ds) ≡ true
level_from d ds a h = rw (not_zero d h) (and_true (is_ascii_digit d) (list_all is_ascii_digit ds) a.0 (each_all is_ascii_digit ds a.1))

digit_by : (b : Bool) (d : ℕ) → (d == 0x30) ≡ b → is_ascii_digit d ≡ true → cond b true (is_ascii_digit d && true) ≡ true
digit_by true d z h = refl
digit_by false d z h = and_true (is_ascii_digit d) true h refl

digit_is_level : (d : ℕ) → is_ascii_digit d ≡ true → is_level (d ∷ []) ≡ true
digit_is_level d h = digit_by (d == 0x30) d refl h

pub Lacks-level : (digits : List ℕ) → is_level digits ≡ true → Lacks 32 digits
Lacks-level digits h = AllByRecursion-weaker _ _ digit_not_space digits (level_each digits h)

-- what `decimal` gives up to 99
pub decimal_two : (n : ℕ) → 10 ≤ n → n ≤ 99 → decimal n ≡ (48 + n / 10) ∷ (48 + n % 10) ∷ []
decimal_two n l h =
    let one : decimal (n / 10) ≡ (48 + n / 10) ∷ [] = decimal_digit (n / 10) (omega arith) in
    let two : decimal n ≡ decimal (n / 10) ++ ((48 + n % 10) ∷ []) = decimal_step n l (omega arith) in
    cc

pub number_two : (d e : ℕ) → is_ascii_digit d ≡ true → is_ascii_digit e ≡ true → d ≢ 48 → decimal ((d - 48) * 10 + (e - 48)) ≡ d ∷ e ∷ []
number_two d e p q ne =
    let x = digit_bounds d p in
    let y = digit_bounds e q in
    let n : ℕ = (d - 48) * 10 + (e - 48) in
    let two : decimal n ≡ (48 + n / 10) ∷ (48 + n % 10) ∷ [] = decimal_two n (omega arith) (omega arith) in
    let high : 48 + n / 10 ≡ d = omega arith in
    let low : 48 + n % 10 ≡ e = omega arith in
    cc

pub number_one : (d : ℕ) → is_ascii_digit d ≡ true → decimal (d - 48) ≡ d ∷ []
number_one d p =
    let x = digit_bounds d p in
    let one : decimal (d - 48) ≡ (48 + (d - 48)) ∷ [] = decimal_digit (d - 48) (omega arith) in
    let same : 48 + (d - 48) ≡ d = omega arith in
    cc

pub number_grows : (ds : List ℕ) (n : ℕ) → n ≤ number_after n ds
number_grows [] n = omega arith
number_grows (d ∷ ds) n =
    let more : n * 10 + (d - 48) ≤ number_after (n * 10 + (d - 48)) ds = number_grows ds (n * 10 + (d - 48)) in
    omega arith

first_not_zero : (d : ℕ) (e : ℕ) (ds : List ℕ) → is_level (d ∷ e ∷ ds) ≡ true → d ≢ 48
first_not_zero d e ds h = λ (z : d ≡ 48).
    let first : is_level (48 ∷ e ∷ ds) ≡ true = ap (λ x. is_level (x ∷ e ∷ ds)) (sym z) ∙ h in
    let none : (suc (length ds) == 0) ≡ true = first in
    absurd (grind (arith, nat_tests))

pub level_one : (ds : List ℕ) → 1 ≤ length ds → length ds < 2 → is_level ds ≡ true → (get_or ds 0 0 - 48 ≤ 99) × (ds ≡ decimal (get_or ds 0 0 - 48))
level_one [] l h p = absurd (omega arith)
level_one (d ∷ []) l h p =
    let each : AreDigits (d ∷ []) = level_each (d ∷ []) p in
    let x = digit_bounds d each.0 in
    (omega arith, sym (number_one d each.0))
level_one (d ∷ e ∷ ds) l h p = absurd (omega arith)

pub level_two : (ds : List ℕ) → 2 ≤ length ds → length ds < 3 → is_level ds ≡ true
    → ((get_or ds 0 0 - 48) * 10 + (get_or ds 1 0 - 48) ≤ 99) × (ds ≡ decimal ((get_or ds 0 0 - 48) * 10 + (get_or ds 1 0 - 48)))
level_two [] l h p = absurd (omega arith)
level_two (d ∷ []) l h p = absurd (omega arith)
level_two (d ∷ e ∷ []) l h p =
    let each : AreDigits (d ∷ e ∷ []) = level_each (d ∷ e ∷ []) p in
    let x = digit_bounds d each.0 in
    let y = digit_bounds e each.1.0 in
    (omega arith, sym (number_two d e each.0 each.1.0 (first_not_zero d e [] p)))
level_two (d ∷ e ∷ f ∷ ds) l h p = absurd (omega arith)

pub level_many : (ds : List ℕ) → 3 ≤ length ds → is_level ds ≡ true → 99 < number_after 0 ds
level_many [] l p = absurd (omega arith)
level_many (d ∷ []) l p = absurd (omega arith)
level_many (d ∷ e ∷ []) l p = absurd (omega arith)
level_many (d ∷ e ∷ f ∷ ds) l p =
    let each : AreDigits (d ∷ e ∷ f ∷ ds) = level_each (d ∷ e ∷ f ∷ ds) p in
    let x = digit_bounds d each.0 in
    let ne = first_not_zero d e (f ∷ ds) p in
    let grown : ((0 * 10 + (d - 48)) * 10 + (e - 48)) * 10 + (f - 48) ≤ number_after (((0 * 10 + (d - 48)) * 10 + (e - 48)) * 10 + (f - 48)) ds
    = number_grows ds (((0 * 10 + (d - 48)) * 10 + (e - 48)) * 10 + (f - 48)) in
    omega arith

-- the digits of a level up to 99 are a level, and spell it
pub is_level-decimal : (n : ℕ) → n ≤ 99 → (is_level (decimal n) ≡ true) × (number_after 0 (decimal n) ≡ n)
is_level-decimal n h =
    elim (dec_lt n 10) [
      | yes l ↦
          let one : decimal n ≡ (48 + n) ∷ [] = decimal_digit n l in
          rw one (digit_is_level (48 + n) (digit_from (48 + n) (omega arith) (omega arith)), omega arith)
      | no g ↦
          let two : decimal n ≡ (48 + n / 10) ∷ (48 + n % 10) ∷ [] = decimal_two n (omega arith) h in
          rw two (
            level_from (48 + n / 10) ((48 + n % 10) ∷ [])
                (digit_from (48 + n / 10) (omega arith) (omega arith), (digit_from (48 + n % 10) (omega arith) (omega arith), tt))
                (omega arith),
            omega arith,
          )
    ]

-- where the space stands behind a level up to 99, and what stands behind it
pub behind_one : (text : List ℕ) (level : ℕ) (rest : List ℕ) → level < 10 → text ≡ decimal level ++ (32 ∷ rest)
    → (2 ≤ length text) × (get_or text 1 0 ≡ 32) × (drop 2 text ≡ rest)
behind_one text level rest l e =
    let whole : text ≡ (48 + level) ∷ 32 ∷ rest = e ∙ ap (λ digits. digits ++ (32 ∷ rest)) (decimal_digit level l) in
    (rw whole (omega arith), ap (λ t. get_or t 1 0) whole, ap (drop 2) whole)

pub behind_two : (text : List ℕ) (level : ℕ) (rest : List ℕ) → 10 ≤ level → level ≤ 99 → text ≡ decimal level ++ (32 ∷ rest)
    → (3 ≤ length text) × (get_or text 2 0 ≡ 32) × (drop 3 text ≡ rest)
behind_two text level rest l h e =
    let whole : text ≡ (48 + level / 10) ∷ (48 + level % 10) ∷ 32 ∷ rest = e ∙ ap (λ digits. digits ++ (32 ∷ rest)) (decimal_two level l h) in
    (rw whole (omega arith), ap (λ t. get_or t 2 0) whole, ap (drop 3) whole)
