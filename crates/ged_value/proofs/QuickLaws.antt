-- The dates that quick tests find.
use Rattle.std.proofs.Common.{◌≡◌, ℕ, zero, suc, ◌-◌, ◌<◌, ◌≤◌, Bool, true, false, ◌&&◌, cond, inl, inr, List, [], ◌∷◌, ◌++◌, length, get_or, take, drop, Option, Some, None, refl, sym, ap, subst, ◌∙◌, arith, append_assoc}
use Rattle.std.specs.Prelude.{codes, nat_le, ◌==◌, if◌then◌else◌}
use Rattle.std.specs.Option.{IfSome}
use Rattle.std.specs.Str.{bytes_eq}
use Rattle.std.proofs.lemmas.Bool.{or_cases, false≢true, eqb-true}
use Rattle.std.proofs.lemmas.Bool.Decides.{nat_tests}
use Rattle.std.proofs.lemmas.List.{take_rest, take-append-drop}
use Rattle.ged_value.specs.Words.{Bytes, words_of, is_integer, is_one_of, number, joined}
use Rattle.ged_value.specs.Dates.{gregorian, DateParts, calendar_word, roman_days, date_words, SpellsDate}
use Rattle.ged_value.specs.Exact.{ExactParts, ExactText}
use Rattle.ged_value.specs.Values.{from, from_to, ValueParts, span, plain, between, after, before, about, calculated, estimated, Behind, BothBehind, SpellsValue}
use Rattle.ged_value.specs.inner.Quick.{IsBeforeYear, IsWordAndYear, IsMonthAndYear, is_day_to, IsDayTo, IsUnnamedDate, IsBehindCalendar, IsDateText, IsBehindKeyword, AreDatesAround, IsValueText, lone_keywords}
use Rattle.ged_value.proofs.WordLaws.{both}
use Rattle.ged_value.proofs.DateLaws.{same_word, date_again}
use Rattle.ged_value.proofs.ValueLaws.{none_some}
use Rattle.ged_value.proofs.ExactLaws.{date_of, is_date_of}

word_then : (text : Bytes) (days : ℕ) → 4 ≤ length text → get_or text 3 0 ≡ 32
    → IsBeforeYear days (get_or text 0 0 ∷ get_or text 1 0 ∷ get_or text 2 0 ∷ []) → is_integer (drop 4 text) ≡ true → IsWordAndYear days text
word_then [] days long gap word year = absurd (omega arith)
word_then (a ∷ []) days long gap word year = absurd (omega arith)
word_then (a ∷ b ∷ []) days long gap word year = absurd (omega arith)
word_then (a ∷ b ∷ c ∷ []) days long gap word year = absurd (omega arith)
word_then (a ∷ b ∷ c ∷ d ∷ text) days long gap word year = (a ∷ b ∷ c ∷ [], text, word, year, ap (λ x. a ∷ b ∷ c ∷ x ∷ text) gap)

-- three letters, a space and a year
pub word_and_year : (text : Bytes) (o : Option ℕ) → 4 ≤ length text → get_or text 3 0 ≡ 32
    → IfSome o (λ days. IsBeforeYear days (get_or text 0 0 ∷ get_or text 1 0 ∷ get_or text 2 0 ∷ [])) → is_integer (take (length text - 4) (drop 4 text)) ≡ true → IfSome o (λ days. IsWordAndYear days text)
word_and_year text None long gap word year = tt
word_and_year text (Some days) long gap word year = word_then text days long gap word (rw (take_rest text 4) at year)

-- no month is without days
days_from : (a b c : Bool) → cond {A = Option ℕ} a (Some 31) (cond b (Some 30) (cond c (Some 29) None)) ≡ Some 0 → ⊥
days_from true b c h = absurd cc
days_from false true c h = absurd cc
days_from false false true h = absurd cc
days_from false false false h = absurd cc

without_days : (word : Bytes) → roman_days word ≡ Some 0 → ⊥
without_days word h = days_from (is_one_of (words_of (codes "JAN MAR MAY JUL AUG OCT DEC")) word) (is_one_of (words_of (codes "APR JUN SEP NOV")) word) (bytes_eq (codes "FEB") word) h

-- a word that has days is a month
month_of : (text : Bytes) (days : ℕ) → 0 < days → IsWordAndYear days text → IsMonthAndYear days text
month_of text days some h = elim h.2 [ inl k ↦ absurd (omega (arith, k.0)) | inr month ↦ (h.0, h.1, month, h.3, h.4) ]

-- a word without days is a keyword
pub keyword_of : (word : Bytes) (days : ℕ) → IsBeforeYear days word → days ≡ 0 → is_one_of lone_keywords word ≡ true
keyword_of word days h none = elim h [ inl k ↦ k.1 | inr month ↦ absurd (without_days word (month ∙ ap Some none)) ]

-- the first of three bytes, so many
pub day_of : (text : Bytes) (count greatest : ℕ) → 3 ≤ length text → count ≤ 3
    → (nat_le 2 count && ((if count == 3 then get_or text 2 0 else get_or text 1 0) == 32 && is_day_to greatest ((if count == 3 then get_or text 0 0 else 48) ∷ (if count == 3 then get_or text 1 0 else get_or text 0 0) ∷ []))) ≡ true
    → IsDayTo greatest (take count text)
day_of [] count greatest long few h = absurd (omega arith)
day_of (a ∷ []) count greatest long few h = absurd (omega arith)
day_of (a ∷ b ∷ []) count greatest long few h = absurd (omega arith)
day_of (a ∷ b ∷ c ∷ text) zero greatest long few h = absurd (false≢true h)
day_of (a ∷ b ∷ c ∷ text) (suc zero) greatest long few h = absurd (false≢true h)
day_of (a ∷ b ∷ c ∷ text) (suc (suc zero)) greatest long few h =
    let p = both (b == 32) (is_day_to greatest (48 ∷ a ∷ [])) h in (a ∷ [], p.1, ap (λ x. a ∷ x ∷ []) (eqb-true b 32 p.0))
day_of (a ∷ b ∷ c ∷ text) (suc (suc (suc zero))) greatest long few h =
    let p = both (c == 32) (is_day_to greatest (a ∷ b ∷ [])) h in (a ∷ b ∷ [], p.1, ap (λ x. a ∷ b ∷ x ∷ []) (eqb-true c 32 p.0))
day_of (a ∷ b ∷ c ∷ text) (suc (suc (suc (suc count)))) greatest long few h = absurd (omega arith)

-- a month has a day, so it has days
some_days : (day : Bytes) (greatest : ℕ) → is_day_to greatest day ≡ true → 0 < greatest
some_days day greatest h =
    let digits = both (is_integer day) (nat_le 1 (number day) && nat_le (number day) greatest) h in
    let range = both (nat_le 1 (number day)) (nat_le (number day) greatest) digits.1 in
    let low = range.0 in
    let high = range.1 in
    grind (arith, nat_tests)

-- a day before a month and a year
exact_from : (text day others : Bytes) (days : ℕ) → text ≡ day ++ (32 ∷ others) → is_day_to days day ≡ true → IsMonthAndYear days others → (date : ExactParts) × ExactText date text
exact_from text day others days e h parts =
    let digits = both (is_integer day) (nat_le 1 (number day) && nat_le (number day) days) h in
    let range = both (nat_le 1 (number day)) (nat_le (number day) days) digits.1 in
    let date : ExactParts = record { day = day; month = parts.0; year = parts.1 } in
    (date, (day ∷ parts.0 ∷ parts.1 ∷ [], (rw (parts.2, digits.0, range.0, range.1, parts.3) refl, refl), e ∙ ap (λ x. day ++ (32 ∷ x)) parts.4))

exact_of : (text front others : Bytes) (days : ℕ) → text ≡ front ++ others → IsDayTo days front → IsWordAndYear days others → (date : ExactParts) × ExactText date text
exact_of text front others days e h word =
    exact_from text h.0 others days (e ∙ ap (λ x. x ++ others) h.2 ∙ append_assoc h.0 (32 ∷ []) others) h.1 (month_of others days (some_days h.0 days h.1) word)

-- the same, where the day ends at a place
pub exact_at_end : (text front back : Bytes) (days n : ℕ) → front ≡ take n text → back ≡ drop n text → length front ≡ n → IsDayTo days (take (length front) text) → IsWordAndYear days back → (date : ExactParts) × ExactText date text
exact_at_end text front back days n f b long day word =
    exact_of text (take n text) (drop n text) days (sym (take-append-drop n text)) (subst (λ m. IsDayTo days (take m text)) long day) (subst (λ others. IsWordAndYear days others) b word)

pub exact_is_date : (text : Bytes) → ((date : ExactParts) × ExactText date text) → IsUnnamedDate text
exact_is_date text h =
    let spelled = h.1 in
    let exact = spelled.1 in
    (date_of h.0, refl, is_date_of h.0 exact.0, spelled.2 ∙ ap joined exact.1)

pub month_is_date : (text : Bytes) (days : ℕ) → IsMonthAndYear days text → IsUnnamedDate text
month_is_date text days h =
    let date : DateParts = record { calendar = gregorian; day = None; month = Some h.0; year = h.1; epoch = None } in
    (date, refl, rw (h.2, h.3) refl, h.4)

pub year_is_date : (text : Bytes) → is_integer text ≡ true → IsUnnamedDate text
year_is_date text h =
    let date : DateParts = record { calendar = gregorian; day = None; month = None; year = text; epoch = None } in
    (date, refl, rw h refl, refl)

-- the calendar may be left out, or stand before the date
pub unnamed_is_date : (text : Bytes) → IsUnnamedDate text → IsDateText text
unnamed_is_date text h = (h.0, (date_words h.0, (h.2, inr (h.1, refl)), h.3))

named : (d : DateParts) (words : List Bytes) (text others : Bytes) → SpellsDate d words → d.calendar ≡ gregorian → words ≡ date_words d → text ≡ codes "GREGORIAN " ++ others → others ≡ joined words → IsDateText text
named d [] text others s g w e o = absurd (none_some (date_again d [] s))
named d (w ∷ ws) text others s g same e o =
    (d, (codes "GREGORIAN" ∷ w ∷ ws, (s.0, inl (ap (λ c. calendar_word c ∷ w ∷ ws) (sym g) ∙ ap (λ x. calendar_word d.calendar ∷ x) same)), e ∙ ap (λ x. codes "GREGORIAN " ++ x) o))

pub named_is_date : (text others : Bytes) → text ≡ codes "GREGORIAN " ++ others → IsUnnamedDate others → IsDateText text
named_is_date text others e h = named h.0 (date_words h.0) text others (h.2, inr (h.1, refl)) h.1 refl e h.3

pub calendar_before : (text others : Bytes) → IsBehindCalendar text others → IsUnnamedDate others → IsDateText text
calendar_before text others h date = elim h [ inl e ↦ unnamed_is_date text (subst IsUnnamedDate (sym e) date) | inr e ↦ named_is_date text others e date ]

pub date_is_value : (text : Bytes) → IsDateText text → IsValueText text
date_is_value text h = (plain h.0, h.1)

-- a keyword makes date values of dates
abbrev IsLone : Bytes → Type 0
IsLone keyword = (f : DateParts → ValueParts) × ((d : DateParts) (ws : List Bytes) → Behind keyword d ws → SpellsValue (f d) ws)

-- each of the words is such a keyword
abbrev AreLone : List Bytes → Type 0
AreLone [] = Unit {0}
AreLone (w ∷ ws) = IsLone w × AreLone ws

lone_among : (ws : List Bytes) (k : Bytes) → AreLone ws → is_one_of ws k ≡ true → IsLone k
lone_among [] k f h = absurd (false≢true h)
lone_among (w ∷ ws) k f h = elim (or_cases (bytes_eq w k) (is_one_of ws k) h) [ inl e ↦ subst IsLone (sym (same_word w k e)) f.0 | inr h ↦ lone_among ws k f.1 h ]

lone : (k : Bytes) → is_one_of lone_keywords k ≡ true → IsLone k
lone k h = lone_among lone_keywords k ((about, λ d ws b. b), ((after, λ d ws b. b), ((before, λ d ws b. b), ((calculated, λ d ws b. b), ((estimated, λ d ws b. b), tt))))) h

behind : (k text others : Bytes) (d : DateParts) (ws : List Bytes) → IsLone k → text ≡ k ++ (32 ∷ others) → SpellsDate d ws → others ≡ joined ws → IsValueText text
behind k text others d [] f e s o = absurd (none_some (date_again d [] s))
behind k text others d (w ∷ ws) f e s o = (f.0 d, (k ∷ w ∷ ws, f.1 d (k ∷ w ∷ ws) (w ∷ ws, s, refl), e ∙ ap (λ x. k ++ (32 ∷ x)) o))

-- three letters of a keyword and a space
pub keyword_here : (text : Bytes) → 4 ≤ length text → get_or text 3 0 ≡ 32 → is_one_of lone_keywords (get_or text 0 0 ∷ get_or text 1 0 ∷ get_or text 2 0 ∷ []) ≡ true
    → IsBehindKeyword text (take (length text - 4) (drop 4 text))
keyword_here [] long gap keyword = absurd (omega arith)
keyword_here (a ∷ []) long gap keyword = absurd (omega arith)
keyword_here (a ∷ b ∷ []) long gap keyword = absurd (omega arith)
keyword_here (a ∷ b ∷ c ∷ []) long gap keyword = absurd (omega arith)
keyword_here (a ∷ b ∷ c ∷ d ∷ text) long gap keyword =
    let whole = a ∷ b ∷ c ∷ d ∷ text in
    subst (λ others. IsBehindKeyword whole others) (sym (take_rest whole 4)) (inr (a ∷ b ∷ c ∷ [], keyword, ap (λ x. a ∷ b ∷ c ∷ x ∷ text) gap))

pub keyword_before : (text others : Bytes) → IsBehindKeyword text others → IsDateText others → IsValueText text
keyword_before text others h date = elim h [
  | inl e ↦ subst IsValueText (sym e) (date_is_value others date)
  | inr k ↦ let spelled = date.1 in behind k.0 text others date.0 spelled.0 (lone k.0 k.1) k.2 spelled.1 spelled.2
]

-- a word and a year
pub word_is_value : (text : Bytes) (days : ℕ) → IsWordAndYear days text → IsValueText text
word_is_value text days h = elim h.2 [
  | inl k ↦ keyword_before text h.1 (inr (h.0, k.1, h.4)) (unnamed_is_date h.1 (year_is_date h.1 h.3))
  | inr month ↦ date_is_value text (unnamed_is_date text (month_is_date text days (h.0, h.1, month, h.3, h.4)))
]

-- such a word and a year, with nothing before them
pub word_at_end : (text front back : Bytes) (days n : ℕ) → front ≡ take n text → back ≡ drop n text → length front ≡ 0 → IsWordAndYear days back → IsValueText text
word_at_end text [] back days n f b none word =
    subst IsValueText (ap (λ x. x ++ back) f ∙ ap (λ x. take n text ++ x) b ∙ take-append-drop n text) (word_is_value back days word)
word_at_end text (a ∷ front) back days n f b none word = absurd (omega (arith, none))

pub from_is_value : (text date : Bytes) → text ≡ codes "FROM " ++ date → IsDateText date → IsValueText text
from_is_value text date e h = let spelled = h.1 in behind (codes "FROM") text date h.0 spelled.0 (λ d. span (from d), λ d ws b. b) e spelled.1 spelled.2

-- words with another one between them
joined_around : (word l r : Bytes) (left right : List Bytes) → joined ((l ∷ left) ++ (word ∷ r ∷ right)) ≡ joined (l ∷ left) ++ (32 ∷ (word ++ (32 ∷ joined (r ∷ right))))
joined_around word l r [] right = refl
joined_around word l r (v ∷ vs) right =
    ap (λ x. l ++ (32 ∷ x)) (joined_around word v r vs right) ∙ sym (append_assoc l (32 ∷ joined (v ∷ vs)) (32 ∷ (word ++ (32 ∷ joined (r ∷ right)))))

-- two dates behind keywords
abbrev AreBothBehind : Bytes → DateParts → Bytes → DateParts → Bytes → Type 0
AreBothBehind first d second e text = (words : List Bytes) × BothBehind first d second e words × (text ≡ joined words)

both_behind : (first second text dates front back : Bytes) (d e : DateParts) (left right : List Bytes) → text ≡ first ++ (32 ∷ dates) → dates ≡ front ++ (32 ∷ (second ++ (32 ∷ back)))
    → SpellsDate d left → front ≡ joined left → SpellsDate e right → back ≡ joined right → AreBothBehind first d second e text
both_behind first second text dates front back d e [] right t u s f r b = absurd (none_some (date_again d [] s))
both_behind first second text dates front back d e (l ∷ left) [] t u s f r b = absurd (none_some (date_again e [] r))
both_behind first second text dates front back d e (l ∷ left) (w ∷ ws) t u s f r b =
    let inside : dates ≡ joined ((l ∷ left) ++ (second ∷ w ∷ ws)) =
    u ∙ ap (λ x. x ++ (32 ∷ (second ++ (32 ∷ back)))) f ∙ ap (λ x. joined (l ∷ left) ++ (32 ∷ (second ++ (32 ∷ x)))) b ∙ sym (joined_around second l w left ws) in
    (first ∷ ((l ∷ left) ++ (second ∷ w ∷ ws)), (l ∷ left, w ∷ ws, s, r, refl), t ∙ ap (λ x. first ++ (32 ∷ x)) inside)

-- the first date's calendar stands before what is searched
pub dates_there : (word text others front back : Bytes) → IsBehindCalendar text others → others ≡ front ++ (word ++ back) → IsUnnamedDate front → IsDateText back → AreDatesAround word text
dates_there word text others front back h o first last = elim h [
  | inl e ↦ (front, back, unnamed_is_date front first, last, e ∙ o)
  | inr e ↦ (codes "GREGORIAN " ++ front, back, named_is_date (codes "GREGORIAN " ++ front) front refl first, last, e ∙ ap (λ x. codes "GREGORIAN " ++ x) o)
]

dates_behind : (first second text dates : Bytes) → text ≡ first ++ (32 ∷ dates) → AreDatesAround (32 ∷ (second ++ (32 ∷ []))) dates → (d : DateParts) × ((e : DateParts) × AreBothBehind first d second e text)
dates_behind first second text dates e h =
    let front = h.2 in
    let back = h.3 in
    let left = front.1 in
    let right = back.1 in
    let inside : dates ≡ h.0 ++ (32 ∷ (second ++ (32 ∷ h.1))) = h.4 ∙ ap (λ x. h.0 ++ (32 ∷ x)) (append_assoc second (32 ∷ []) h.1) in
    (front.0, (back.0, both_behind first second text dates h.0 h.1 front.0 back.0 left.0 right.0 e inside left.1 left.2 right.1 right.2))

pub between_is_value : (text dates : Bytes) → text ≡ codes "BET " ++ dates → AreDatesAround (codes " AND ") dates → IsValueText text
between_is_value text dates e h =
    let both = dates_behind (codes "BET") (codes "AND") text dates e h in
    let rest = both.1 in
    (between both.0 rest.0, rest.1)

pub period_is_value : (text dates : Bytes) → text ≡ codes "FROM " ++ dates → AreDatesAround (codes " TO ") dates → IsValueText text
period_is_value text dates e h =
    let both = dates_behind (codes "FROM") (codes "TO") text dates e h in
    let rest = both.1 in
    (span (from_to both.0 rest.0), rest.1)
