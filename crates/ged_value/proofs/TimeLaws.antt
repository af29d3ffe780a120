-- What is read as a time is spelled so, and what is spelled so is read.
use Rattle.std.proofs.Common.{◌≡◌, ℕ, Bool, true, false, ◌&&◌, cond, [], ◌∷◌, ◌++◌, Option, Some, None, refl, sym, ap, subst, ◌∙◌}
use Rattle.std.specs.Char.{is_ascii_digit}
use Rattle.ged_value.specs.Words.{Bytes, is_integer}
use Rattle.ged_value.specs.inner.Cuts.{cut_at, marked}
use Rattle.ged_value.specs.Times.{TimeParts, is_hour, is_sixtieth, is_second, is_time, clock, TimeText}
use Rattle.ged_value.specs.inner.TimeReading.{zone}
use Rattle.ged_value.specs.inner.TimeReading.{if_time, second_at, minute_at, clock_at, zone_at, time_at}
use Rattle.ged_value.proofs.WordLaws.{both}
use Rattle.ged_value.proofs.CutLaws.{has, has_none, has_neither, cut_again, cut_joined}

-- digits have none of the characters between the parts
digits_lack : (c : ℕ) (w : Bytes) → is_ascii_digit c ≡ false → is_integer w ≡ true → has c w ≡ false
digits_lack c w f h = has_none is_ascii_digit c w f (both _ _ h).1

hour_lacks : (c : ℕ) (w : Bytes) → is_ascii_digit c ≡ false → is_hour w ≡ true → has c w ≡ false
hour_lacks c w f h = digits_lack c w f (both _ _ h).0

sixtieth_lacks : (c : ℕ) (w : Bytes) → is_ascii_digit c ≡ false → is_sixtieth w ≡ true → has c w ≡ false
sixtieth_lacks c w f h = digits_lack c w f (both _ _ h).0

seconds_lack : (second fraction : Option Bytes) → is_second second fraction ≡ true → has 90 (marked 58 second ++ marked 46 fraction) ≡ false
seconds_lack None None h = refl
seconds_lack None (Some f) h = absurd cc
seconds_lack (Some s) None h = has_neither 90 s [] (sixtieth_lacks 90 s refl (both _ _ h).0) refl
seconds_lack (Some s) (Some f) h =
    let p = both (is_sixtieth s) (is_integer f) h in
    has_neither 90 s (46 ∷ f) (sixtieth_lacks 90 s refl p.0) (digits_lack 90 f refl p.1)

-- the parts of `is_time`
record Valid (t : TimeParts) : Type 0 where
  hour : is_hour t.hour ≡ true
  minute : is_sixtieth t.minute ≡ true
  second : is_second t.second t.fraction ≡ true

valid : (t : TimeParts) → is_time t ≡ true → Valid t
valid t h =
    let a = both (is_hour t.hour) (is_sixtieth t.minute && is_second t.second t.fraction) h in
    let b = both (is_sixtieth t.minute) (is_second t.second t.fraction) a.1 in
    record { hour = a.0; minute = b.0; second = b.1 }

clock_lacks : (t : TimeParts) → Valid t → has 90 (clock t) ≡ false
clock_lacks t v =
    has_neither 90 t.hour _ (hour_lacks 90 t.hour refl v.hour)
    (has_neither 90 t.minute _ (sixtieth_lacks 90 t.minute refl v.minute) (seconds_lack t.second t.fraction v.second))

-- what stands behind the hour is read again
behind_hour : (utc : Bool) (hour minute : Bytes) (second fraction : Option Bytes) → is_sixtieth minute ≡ true → is_second second fraction ≡ true
    → minute_at utc hour (Some (minute ++ (marked 58 second ++ marked 46 fraction))) ≡ if_time (record { hour = hour; minute = minute; second = second; fraction = fraction; utc = utc })
behind_hour utc hour minute None None m s = rw (cut_again 58 minute None (sixtieth_lacks 58 minute refl m)) refl
behind_hour utc hour minute None (Some f) m s = absurd cc
behind_hour utc hour minute (Some s) None m h =
    rw (cut_again 58 minute (Some (s ++ [])) (sixtieth_lacks 58 minute refl m), cut_again 46 s None (sixtieth_lacks 46 s refl (both _ _ h).0)) refl
behind_hour utc hour minute (Some s) (Some f) m h =
    let p = both (is_sixtieth s) (is_integer f) h in
    rw (cut_again 58 minute (Some (s ++ (46 ∷ f))) (sixtieth_lacks 58 minute refl m), cut_again 46 s (Some f) (sixtieth_lacks 46 s refl p.0)) refl

clock_again : (t : TimeParts) → is_time t ≡ true → clock_at t.utc (clock t) ≡ Some t
clock_again t h =
    let v = valid t h in
    let cut_hour = cut_again 58 t.hour (Some (t.minute ++ (marked 58 t.second ++ marked 46 t.fraction))) (hour_lacks 58 t.hour refl v.hour) in
    rw (cut_hour, behind_hour t.utc t.hour t.minute t.second t.fraction v.minute v.second, h) refl

zone_again : (utc : Bool) (text : Bytes) → has 90 text ≡ false → time_at (text ++ zone utc) ≡ clock_at utc text
zone_again true text h = rw (cut_again 90 text (Some []) h) refl
zone_again false text h = rw (cut_again 90 text None h) refl

pub time_again : (t : TimeParts) (text : Bytes) → TimeText t text → time_at text ≡ Some t
time_again t text h = ap time_at h.1 ∙ zone_again t.utc (clock t) (clock_lacks t (valid t h.0)) ∙ clock_again t h.0

chosen : (b : Bool) (x t : TimeParts) → is_time x ≡ b → cond b (Some x) None ≡ Some t → (is_time t ≡ true) × (x ≡ t)
chosen true x t e h = let s : x ≡ t = cc in (subst (λ y. is_time y ≡ true) s e, s)
chosen false x t e h = absurd cc

second_joined : (text : Option Bytes) → marked 58 text ≡ marked 58 (second_at text).0 ++ marked 46 (second_at text).1
second_joined None = refl
second_joined (Some text) = ap (λ x. 58 ∷ x) (cut_joined 46 text)

-- the parts of a text without its zone
record Clocked (utc : Bool) (text : Bytes) (t : TimeParts) : Type 0 where
  valid : is_time t ≡ true
  spelled : text ≡ clock t
  zoned : t.utc ≡ utc

minute_found : (utc : Bool) (hour : Bytes) (others : Option Bytes) (t : TimeParts) → minute_at utc hour others ≡ Some t → Clocked utc (hour ++ marked 58 others) t
minute_found utc hour None t h = absurd cc
minute_found utc hour (Some rest) t h =
    let parts = cut_at 58 rest in
    let seconds = second_at parts.1 in
    let x : TimeParts = record { hour = hour; minute = parts.0; second = seconds.0; fraction = seconds.1; utc = utc } in
    let same = chosen (is_time x) x t refl h in
    let joined : rest ≡ parts.0 ++ (marked 58 seconds.0 ++ marked 46 seconds.1) = cut_joined 58 rest ∙ ap (λ y. parts.0 ++ y) (second_joined parts.1) in
    let spelled : (hour ++ (58 ∷ rest)) ≡ clock x = ap (λ y. hour ++ (58 ∷ y)) joined in
    record { valid = same.0; spelled = spelled ∙ ap clock same.1; zoned = sym (ap (λ (y : TimeParts). y.utc) same.1) }

clock_found : (utc : Bool) (text : Bytes) (t : TimeParts) → clock_at utc text ≡ Some t → Clocked utc text t
clock_found utc text t h = subst (λ x. Clocked utc x t) (sym (cut_joined 58 text)) (minute_found utc (cut_at 58 text).0 (cut_at 58 text).1 t h)

zone_found : (text : Bytes) (z : Option Bytes) (t : TimeParts) → zone_at text z ≡ Some t → TimeText t (text ++ marked 90 z)
zone_found text None t h = let f = clock_found false text t h in (f.valid, rw (f.zoned, f.spelled) refl)
zone_found text (Some []) t h = let f = clock_found true text t h in (f.valid, rw (f.zoned, f.spelled) refl)
zone_found text (Some (b ∷ bs)) t h = absurd cc

pub time_found : (t : TimeParts) (text : Bytes) → time_at text ≡ Some t → TimeText t text
time_found t text h = subst (λ x. TimeText t x) (sym (cut_joined 90 text)) (zone_found (cut_at 90 text).0 (cut_at 90 text).1 t h)

-- a text that is cut at `Z`, and what is read of it
pub zoned : (text before : Bytes) (behind : Option Bytes) → (before, behind) ≡ cut_at 90 text → zone_at before behind ≡ time_at text
zoned text before behind e = ap (λ (p : Bytes × Option Bytes). zone_at p.0 p.1) e

pub zoned_empty : (text before behind : Bytes) → behind ≡ [] → (before, Some behind) ≡ cut_at 90 text → clock_at true before ≡ time_at text
zoned_empty text before [] e h = zoned text before (Some []) h
zoned_empty text before (b ∷ bs) e h = absurd cc

pub zoned_other : (text before behind : Bytes) → (behind ≡ [] → ⊥) → (before, Some behind) ≡ cut_at 90 text → None ≡ time_at text
zoned_other text before [] n h = absurd (n refl)
zoned_other text before (b ∷ bs) n h = zoned text before (Some (b ∷ bs)) h
