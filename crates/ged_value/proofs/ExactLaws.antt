-- What is read as an exact date is spelled so, and what is spelled so is read.
use Rattle.std.proofs.Common.{◌≡◌, ◌≢◌, Bool, true, false, ◌&&◌, cond, List, [], ◌∷◌, length, Some, None, refl, subst, arith, inr}
use Rattle.ged_value.specs.Words.{Bytes, is_integer}
use Rattle.ged_value.specs.Dates.{gregorian, DateParts, is_month, is_day, is_date}
use Rattle.ged_value.specs.Exact.{ExactParts, is_exact, SpellsExact}
use Rattle.ged_value.specs.inner.ExactReading.{exact_at}
use Rattle.ged_value.proofs.WordLaws.{both}
use Rattle.ged_value.proofs.Foreign.{space_lacks}
use Rattle.ged_value.proofs.TextLaws.{Plainly}

pub exact_again : (e : ExactParts) (ws : List Bytes) → SpellsExact e ws → exact_at ws ≡ Some e
exact_again e ws h = rw (h.1, h.0) refl

chosen : (b : Bool) (x e : ExactParts) → is_exact x ≡ b → cond b (Some x) None ≡ Some e → (is_exact e ≡ true) × (x ≡ e)
chosen true x e t h = let s : x ≡ e = cc in (subst (λ y. is_exact y ≡ true) s t, s)
chosen false x e t h = absurd cc

pub exact_found : (e : ExactParts) (ws : List Bytes) → exact_at ws ≡ Some e → SpellsExact e ws
exact_found e [] h = absurd cc
exact_found e (d ∷ []) h = absurd cc
exact_found e (d ∷ m ∷ []) h = absurd cc
exact_found e (d ∷ m ∷ y ∷ []) h =
    let x : ExactParts = record { day = d; month = m; year = y } in
    let c = chosen (is_exact x) x e refl h in
    (c.0, subst (λ z. (d ∷ m ∷ y ∷ []) ≡ z.day ∷ z.month ∷ z.year ∷ []) c.1 refl)
exact_found e (d ∷ m ∷ y ∷ w ∷ ws) h = absurd cc

-- the same parts as a date of the Gregorian calendar
abbrev pub date_of : ExactParts → DateParts
date_of e = record { calendar = gregorian; day = Some e.day; month = Some e.month; year = e.year; epoch = None }

pub is_date_of : (e : ExactParts) → is_exact e ≡ true → is_date (date_of e) ≡ true
is_date_of e h =
    let month = both (is_month gregorian e.month) (is_day gregorian e.month e.day && is_integer e.year) h in
    let day = both (is_day gregorian e.month e.day) (is_integer e.year) month.1 in
    rw (month.0, day.0, day.1) refl

pub exact_plainly : (e : ExactParts) (ws : List Bytes) → SpellsExact e ws → Plainly ws
exact_plainly e ws h = rw h.1 (record {
  some = omega arith;
  few = omega arith;
  spaceless = space_lacks (date_of e) (e.day ∷ e.month ∷ e.year ∷ []) (is_date_of e h.0, inr (refl, refl));
})

-- fewer or more words than three spell none
pub few_or_many : (ws : List Bytes) → length ws ≢ 3 → exact_at ws ≡ None
few_or_many [] h = refl
few_or_many (d ∷ []) h = refl
few_or_many (d ∷ m ∷ []) h = refl
few_or_many (d ∷ m ∷ y ∷ []) h = absurd (h refl)
few_or_many (d ∷ m ∷ y ∷ w ∷ ws) h = refl
