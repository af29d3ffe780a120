-- What is read as a period or a date value is spelled so, and what is spelled so is read.
use Rattle.std.proofs.Common.{◌≡◌, Bool, true, false, inl, inr, cond, List, [], ◌∷◌, ◌++◌, length, Option, Some, None, is_some, refl, sym, ap, subst, ◌∙◌, arith}
use Rattle.std.specs.Prelude.{codes, ◌==◌, ◌⊎◌}
use Rattle.std.specs.Option.{option_map}
use Rattle.std.specs.Str.{bytes_eq}
use Rattle.std.proofs.lemmas.Bool.{ne_eqb, and_parts, false≢true}
use Rattle.std.proofs.lemmas.Slice.Eq.{bytes_eq-Decides}
use Rattle.ged_value.specs.Words.{Bytes}
use Rattle.ged_value.specs.inner.WordReading.{around}
use Rattle.ged_value.specs.Dates.{DateParts, SpellsDate}
use Rattle.ged_value.specs.inner.Months.{calendar_words}
use Rattle.ged_value.specs.inner.DateReading.{date_at}
use Rattle.ged_value.specs.Values.{PeriodParts, empty, to, from, from_to, ValueParts, span, plain, between, after, before, about, calculated, estimated, Behind, BothBehind, SpellsPeriod, SpellsValue}
use Rattle.ged_value.specs.inner.ValueReading.{both_dates, dates_at, from_at, period_at, keyword_at, behind, value_behind, value_at}
use Rattle.ged_value.specs.declared.value.Keyword.{Keyword}
use Rattle.ged_value.specs.declared.value.Keyword.TheVariants.{After, Before, About, Calculated, Estimated}
use Rattle.ged_value.proofs.WordLaws.{other}
use Rattle.ged_value.proofs.DateLaws.{date_again, date_found, nots}
use Rattle.ged_value.proofs.Foreign.{Lack, is_foreign, foreign_lacks}

-- a word is found behind words that are others
pub around_again : (k : Bytes) (left right : List Bytes) → Lack (λ w. bytes_eq w k) left → around k (left ++ (k ∷ right)) ≡ Some (left, right)
around_again k [] right h = rw ((bytes_eq-Decides k k).1 refl) refl
around_again k (w ∷ ws) right h =
    let p = and_parts _ _ h in
    rw (nots (bytes_eq w k) p.0, around_again k ws right p.1) refl

pub around_lacks : (k : Bytes) (ws : List Bytes) → Lack (λ w. bytes_eq w k) ws → around k ws ≡ None
around_lacks k [] h = refl
around_lacks k (w ∷ ws) h =
    let p = and_parts _ _ h in
    rw (nots (bytes_eq w k) p.0, around_lacks k ws p.1) refl

some_pair : (a c : List Bytes) (b d : List Bytes) → ◌≡◌ {A = Option (List Bytes × List Bytes)} (Some (a, b)) (Some (c, d)) → (a ≡ c) × (b ≡ d)
some_pair a c b d h = let e : ◌≡◌ {A = List Bytes × List Bytes} (a, b) (c, d) = cc in (ap (λ p. p.0) e, ap (λ p. p.1) e)

pub none_some : {A : Type 0} {x : A} → ◌≡◌ {A = Option A} None (Some x) → ⊥
none_some h = false≢true (ap is_some h)

pub map_some : {A B : Type 0} (f : A → B) (o : Option A) (y : B) → option_map f o ≡ Some y → (x : A) × (o ≡ Some x) × (f x ≡ y)
map_some f None y h = absurd (none_some h)
map_some f (Some x) y h = (x, refl, cc)

around_step : (k w : Bytes) (ws left right : List Bytes) (b : Bool) → bytes_eq w k ≡ b → ((l r : List Bytes) → around k ws ≡ Some (l, r) → ws ≡ l ++ (k ∷ r))
    → cond {A = Option (List Bytes × List Bytes)} b (Some ([], ws)) (option_map (λ parts. (w ∷ parts.0, parts.1)) (around k ws)) ≡ Some (left, right) → w ∷ ws ≡ left ++ (k ∷ right)
around_step k w ws left right true e rest h =
    let s = some_pair _ _ _ _ h in
    rw (← s.0, ← s.1, (bytes_eq-Decides w k).0 e) refl
around_step k w ws left right false e rest h =
    let m = map_some _ _ _ h in
    ap (λ x. w ∷ x) (rest m.0.0 m.0.1 m.1) ∙ ap (λ p. p.0 ++ (k ∷ p.1)) m.2

-- what is round a word stands round it
pub around_found : (k : Bytes) (ws left right : List Bytes) → around k ws ≡ Some (left, right) → ws ≡ left ++ (k ∷ right)
around_found k [] left right h = absurd (none_some h)
around_found k (w ∷ ws) left right h = around_step k w ws left right (bytes_eq w k) refl (λ l r e. around_found k ws l r e) h

-- a date's first word is no foreign word
other_first : (k : Bytes) → is_foreign k ≡ true → Lack (λ w. bytes_eq w k) calendar_words → (d : DateParts) (w : Bytes) (ws : List Bytes) → SpellsDate d (w ∷ ws) → bytes_eq w k ≡ false
other_first k f l d w ws h = nots _ (and_parts _ _ (foreign_lacks k f l d (w ∷ ws) h)).0

plain_again : (d : DateParts) (ws : List Bytes) → SpellsDate d ws → date_at ws ≡ Some d → value_at ws ≡ Some (plain d)
plain_again d [] h e = absurd (none_some e)
plain_again d (w ∷ ws) h e =
    rw (
      other_first (codes "AFT") refl refl d w ws h,
      other_first (codes "BEF") refl refl d w ws h,
      other_first (codes "ABT") refl refl d w ws h,
      other_first (codes "CAL") refl refl d w ws h,
      other_first (codes "EST") refl refl d w ws h,
      other_first (codes "BET") refl refl d w ws h,
      other_first [] refl refl d w ws h,
      other_first (codes "TO") refl refl d w ws h,
      other_first (codes "FROM") refl refl d w ws h,
    )
    (ap (option_map plain) e)

pub period_again : (p : PeriodParts) (ws : List Bytes) → SpellsPeriod p ws → period_at ws ≡ Some p
period_again empty ws h = rw h refl
period_again (to d) ws h = rw (h.2, date_again d h.0 h.1) refl
period_again (from d) ws h = rw (h.2, around_lacks (codes "TO") h.0 (foreign_lacks (codes "TO") refl refl d h.0 h.1), date_again d h.0 h.1) refl
period_again (from_to d e) ws h = rw (h.4, around_again (codes "TO") h.0 h.1 (foreign_lacks (codes "TO") refl refl d h.0 h.2), date_again d h.0 h.2, date_again e h.1 h.3) refl

-- a period begins with no other keyword
span_again : (p : PeriodParts) (ws : List Bytes) → SpellsPeriod p ws → period_at ws ≡ Some p → value_at ws ≡ Some (span p)
span_again empty ws h e = rw h refl
span_again (to d) ws h e = rw (h.2) (ap (option_map span) (rw (h.2) at e))
span_again (from d) ws h e = rw (h.2) (ap (option_map span) (rw (h.2) at e))
span_again (from_to d f) ws h e = rw (h.4) (ap (option_map span) (rw (h.4) at e))

pub value_again : (v : ValueParts) (ws : List Bytes) → SpellsValue v ws → value_at ws ≡ Some v
value_again (plain d) ws h = plain_again d ws h (date_again d ws h)
value_again (between d e) ws h = rw (h.4, around_again (codes "AND") h.0 h.1 (foreign_lacks (codes "AND") refl refl d h.0 h.2), date_again d h.0 h.2, date_again e h.1 h.3) refl
value_again (after d) ws h = rw (h.2, date_again d h.0 h.1) refl
value_again (before d) ws h = rw (h.2, date_again d h.0 h.1) refl
value_again (about d) ws h = rw (h.2, date_again d h.0 h.1) refl
value_again (calculated d) ws h = rw (h.2, date_again d h.0 h.1) refl
value_again (estimated d) ws h = rw (h.2, date_again d h.0 h.1) refl
value_again (span p) ws h = span_again p ws h (period_again p ws h)

date_behind : (k : Bytes) (f : DateParts → ValueParts) → ((d : DateParts) (ws : List Bytes) → Behind k d ws → SpellsValue (f d) ws)
    → (w : Bytes) (ws : List Bytes) (v : ValueParts) → bytes_eq w k ≡ true → option_map f (date_at ws) ≡ Some v → SpellsValue v (w ∷ ws)
date_behind k f spelled w ws v e h =
    let m = map_some f (date_at ws) v h in
    subst (λ x. SpellsValue x (w ∷ ws)) m.2 (spelled m.0 (w ∷ ws) (ws, date_found m.0 ws m.1, ap (λ x. x ∷ ws) ((bytes_eq-Decides w k).0 e)))

both_some : (o p : Option DateParts) (x : DateParts × DateParts) → both_dates o p ≡ Some x → (o ≡ Some x.0) × (p ≡ Some x.1)
both_some None p x h = absurd (none_some h)
both_some (Some d) None x h = absurd (none_some h)
both_some (Some d) (Some e) x h = let q : ◌≡◌ {A = DateParts × DateParts} (d, e) x = cc in (ap (λ y. Some y.0) q, ap (λ y. Some y.1) q)

dates_found : (k : Bytes) (first w : Bytes) (ws : List Bytes) (o : Option (List Bytes × List Bytes)) (x : DateParts × DateParts) → around k ws ≡ o → dates_at o ≡ Some x → bytes_eq w first ≡ true → BothBehind first x.0 k x.1 (w ∷ ws)
dates_found k first w ws None x a h e = absurd (none_some h)
dates_found k first w ws (Some p) x a h e =
    let b = both_some (date_at p.0) (date_at p.1) x h in
    (p.0, p.1, date_found x.0 p.0 b.0, date_found x.1 p.1 b.1, rw ((bytes_eq-Decides w first).0 e) (ap (λ y. first ∷ y) (around_found k ws p.0 p.1 a)))

-- a choice, by what its test says
chosen : {A : Type 0} (b : Bool) (x y z : A) (P : Type 0) → cond b x y ≡ z → (b ≡ true → x ≡ z → P) → (b ≡ false → y ≡ z → P) → P
chosen true x y z P h f g = f refl h
chosen false x y z P h f g = g refl h

from_found : (w : Bytes) (ws : List Bytes) (o : Option (List Bytes × List Bytes)) (p : PeriodParts) → around (codes "TO") ws ≡ o → from_at ws o ≡ Some p → bytes_eq w (codes "FROM") ≡ true → SpellsPeriod p (w ∷ ws)
from_found w ws None p a h e =
    let m = map_some from (date_at ws) p h in
    subst (λ x. SpellsPeriod x (w ∷ ws)) m.2 (ws, date_found m.0 ws m.1, ap (λ x. x ∷ ws) ((bytes_eq-Decides w (codes "FROM")).0 e))
from_found w ws (Some q) p a h e =
    let m = map_some (λ dates. from_to dates.0 dates.1) (both_dates (date_at q.0) (date_at q.1)) p h in
    subst (λ x. SpellsPeriod x (w ∷ ws)) m.2 (dates_found (codes "TO") (codes "FROM") w ws (Some q) m.0 a m.1 e)

empty_found : (w : Bytes) (ws : List Bytes) (p : PeriodParts) → bytes_eq w [] ≡ true → cond (length ws == 0) (Some empty) None ≡ Some p → SpellsPeriod p (w ∷ ws)
empty_found w [] p e h = let q : empty ≡ p = cc in subst (λ x. SpellsPeriod x (w ∷ [])) q (ap (λ x. x ∷ []) ((bytes_eq-Decides w []).0 e))
empty_found w (x ∷ xs) p e h =
    let z : (length (x ∷ xs) == 0) ≡ false = ne_eqb (length (x ∷ xs)) 0 (λ q. omega arith) in
    absurd (none_some (rw z at h))

pub period_found : (p : PeriodParts) (ws : List Bytes) → period_at ws ≡ Some p → SpellsPeriod p ws
period_found p [] h = absurd (none_some h)
period_found p (w ∷ ws) h =
    let P = SpellsPeriod p (w ∷ ws) in
    chosen _ _ _ _ P h
    (λ e o. let m = map_some to (date_at ws) p o in subst (λ x. SpellsPeriod x (w ∷ ws)) m.2 (ws, date_found m.0 ws m.1, ap (λ x. x ∷ ws) ((bytes_eq-Decides w (codes "TO")).0 e)))
    (λ n1 h1. chosen _ _ _ _ P h1 (λ e o. from_found w ws (around (codes "TO") ws) p refl o e)
    (λ n2 h2. chosen _ _ _ _ P h2 (λ e o. empty_found w ws p e o) (λ n3 h3. absurd (none_some h3))))

-- the word that a keyword stands for
abbrev keyword_word : Keyword → Bytes
keyword_word After = codes "AFT"
keyword_word Before = codes "BEF"
keyword_word About = codes "ABT"
keyword_word Calculated = codes "CAL"
keyword_word Estimated = codes "EST"

some_keyword : (k l : Keyword) → Some k ≡ Some l → k ≡ l
some_keyword k l e = cc

-- a keyword is the word that it stands for
keyword_found : (w : Bytes) (k : Keyword) → keyword_at w ≡ Some k → bytes_eq w (keyword_word k) ≡ true
keyword_found w k h =
    let P : Type 0 = bytes_eq w (keyword_word k) ≡ true in
    let Q : Type 0 = (l : Keyword) → bytes_eq w (keyword_word l) ≡ true → Some l ≡ Some k → P in
    let is : Q = λ l e o. subst (λ x. bytes_eq w (keyword_word x) ≡ true) (some_keyword l k o) e in
    chosen _ _ _ _ P h (is After)
    (λ n1 h1. chosen _ _ _ _ P h1 (is Before)
    (λ n2 h2. chosen _ _ _ _ P h2 (is About)
    (λ n3 h3. chosen _ _ _ _ P h3 (is Calculated)
    (λ n4 h4. chosen _ _ _ _ P h4 (is Estimated) (λ n5 h5. absurd (none_some h5))))))

behind_found : (k : Keyword) (w : Bytes) (ws : List Bytes) (v : ValueParts) → bytes_eq w (keyword_word k) ≡ true → option_map (behind k) (date_at ws) ≡ Some v → SpellsValue v (w ∷ ws)
behind_found After w ws v e h = date_behind (codes "AFT") after (λ d ws b. b) w ws v e h
behind_found Before w ws v e h = date_behind (codes "BEF") before (λ d ws b. b) w ws v e h
behind_found About w ws v e h = date_behind (codes "ABT") about (λ d ws b. b) w ws v e h
behind_found Calculated w ws v e h = date_behind (codes "CAL") calculated (λ d ws b. b) w ws v e h
behind_found Estimated w ws v e h = date_behind (codes "EST") estimated (λ d ws b. b) w ws v e h

first_found : (k : Option Keyword) (v : ValueParts) (w : Bytes) (ws : List Bytes) → keyword_at w ≡ k → value_behind k w ws ≡ Some v → SpellsValue v (w ∷ ws)
first_found (Some k) v w ws e h = behind_found k w ws v (keyword_found w k e) h
first_found None v w ws n h =
    let P = SpellsValue v (w ∷ ws) in
    chosen _ _ _ _ P h
    (λ e o. let m = map_some (λ dates. between dates.0 dates.1) (dates_at (around (codes "AND") ws)) v o in
    subst (λ x. SpellsValue x (w ∷ ws)) m.2 (dates_found (codes "AND") (codes "BET") w ws (around (codes "AND") ws) m.0 refl m.1 e))
    (λ n1 h1. chosen _ _ _ _ P h1
    (λ e o. let m = map_some span (period_at (w ∷ ws)) v o in subst (λ x. SpellsValue x (w ∷ ws)) m.2 (period_found m.0 (w ∷ ws) m.1))
    (λ n2 o. let m = map_some plain (date_at (w ∷ ws)) v o in subst (λ x. SpellsValue x (w ∷ ws)) m.2 (date_found m.0 (w ∷ ws) m.1)))

pub value_found : (v : ValueParts) (ws : List Bytes) → value_at ws ≡ Some v → SpellsValue v ws
value_found v [] h = absurd (none_some h)
value_found v (w ∷ ws) h = first_found (keyword_at w) v w ws refl h

-- what is read, step by step
pub value_read : (words : List Bytes) (w : Bytes) (ws : List Bytes) (keyword : Option Keyword) → words ≡ w ∷ ws → keyword ≡ keyword_at w → value_at words ≡ value_behind keyword w ws
value_read words w ws keyword e f = rw (e, ← f) refl

pub bet_read : (w : Bytes) (ws : List Bytes) → w ≡ codes "BET" → value_behind None w ws ≡ option_map (λ dates. between dates.0 dates.1) (dates_at (around (codes "AND") ws))
bet_read w ws e = rw e refl

pub span_read : (w : Bytes) (ws : List Bytes) → (w ≡ []) ⊎ ((w ≡ codes "TO") ⊎ (w ≡ codes "FROM")) → value_behind None w ws ≡ option_map span (period_at (w ∷ ws))
span_read w ws (inl e) = rw e refl
span_read w ws (inr (inl e)) = rw e refl
span_read w ws (inr (inr e)) = rw e refl

pub plain_read : (w : Bytes) (ws : List Bytes) → (w ≡ codes "BET" → ⊥) → (w ≡ [] → ⊥) → (w ≡ codes "TO" → ⊥) → (w ≡ codes "FROM" → ⊥) → value_behind None w ws ≡ option_map plain (date_at (w ∷ ws))
plain_read w ws b n t f = rw (other w (codes "BET") (λ e. b (sym e)), other w [] (λ e. n (sym e)), other w (codes "TO") (λ e. t (sym e)), other w (codes "FROM") (λ e. f (sym e))) refl
