use Rattle.std.proofs.Common.{◌≡◌, ℕ, ◌&&◌, Bool, true, false, None, Some, [], ◌∷◌, length, get_or, refl, sym, ◌∙◌, arith, ap}
use Rattle.std.specs.Prelude.{nat_le}
use Rattle.std.proofs.lemmas.Bool.{OnTrue_from, false≢true}
use Rattle.ged_value.specs.Words.{Bytes, is_integer, number}
use Rattle.ged_value.specs.Times.{TimeParts, TimeText}
use Rattle.ged_value.proofs.WordLaws.{both}
use Rattle.ged_value.proofs.quick_time.is_clock.Goals as goal
use Rattle.ged_value.proofs.quick_time.is_clock.Goals.{then-is_number_to, else-is_number_to}

-- two digits up to a number
abbrev is_part : ℕ → ℕ → ℕ → Bool
is_part ten one greatest = is_integer (ten ∷ one ∷ []) && nat_le (number (ten ∷ one ∷ [])) greatest

parts : (a b c d e f g h : ℕ) → c ≡ 58 → f ≡ 58 → is_part a b 23 ≡ true → is_part d e 59 ≡ true → is_part g h 59 ≡ true
    → (time : TimeParts) × TimeText time (a ∷ b ∷ c ∷ d ∷ e ∷ f ∷ g ∷ h ∷ [])
parts a b c d e f g h colon colon2 hour minute second =
    let hours = both (is_integer (a ∷ b ∷ [])) (nat_le (number (a ∷ b ∷ [])) 23) hour in
    let minutes = both (is_integer (d ∷ e ∷ [])) (nat_le (number (d ∷ e ∷ [])) 59) minute in
    let seconds = both (is_integer (g ∷ h ∷ [])) (nat_le (number (g ∷ h ∷ [])) 59) second in
    let time : TimeParts = record { hour = a ∷ b ∷ []; minute = d ∷ e ∷ []; second = Some (g ∷ h ∷ []); fraction = None; utc = false } in
    (time, (rw (hours.0, hours.1, minutes.0, minutes.1, seconds.0, seconds.1) refl, ap (λ x. a ∷ b ∷ x ∷ d ∷ e ∷ f ∷ g ∷ h ∷ []) colon ∙ ap (λ x. a ∷ b ∷ 58 ∷ d ∷ e ∷ x ∷ g ∷ h ∷ []) colon2))

-- eight characters, of which two are `:`
clock_of : (text : Bytes) → length text ≡ 8 → get_or text 2 0 ≡ 58 → get_or text 5 0 ≡ 58 → is_part (get_or text 0 0) (get_or text 1 0) 23 ≡ true → is_part (get_or text 3 0) (get_or text 4 0) 59 ≡ true
    → is_part (get_or text 6 0) (get_or text 7 0) 59 ≡ true → (time : TimeParts) × TimeText time text
clock_of [] long colon colon2 hour minute second = absurd (omega arith)
clock_of (a ∷ []) long colon colon2 hour minute second = absurd (omega arith)
clock_of (a ∷ b ∷ []) long colon colon2 hour minute second = absurd (omega arith)
clock_of (a ∷ b ∷ c ∷ []) long colon colon2 hour minute second = absurd (omega arith)
clock_of (a ∷ b ∷ c ∷ d ∷ []) long colon colon2 hour minute second = absurd (omega arith)
clock_of (a ∷ b ∷ c ∷ d ∷ e ∷ []) long colon colon2 hour minute second = absurd (omega arith)
clock_of (a ∷ b ∷ c ∷ d ∷ e ∷ f ∷ []) long colon colon2 hour minute second = absurd (omega arith)
clock_of (a ∷ b ∷ c ∷ d ∷ e ∷ f ∷ g ∷ []) long colon colon2 hour minute second = absurd (omega arith)
clock_of (a ∷ b ∷ c ∷ d ∷ e ∷ f ∷ g ∷ h ∷ []) long colon colon2 hour minute second = parts a b c d e f g h colon colon2 hour minute second
clock_of (a ∷ b ∷ c ∷ d ∷ e ∷ f ∷ g ∷ h ∷ i ∷ text) long colon colon2 hour minute second = absurd (omega arith)

pub returns-then-is_number_to-2 : goal.returns-then-is_number_to-2
returns-then-is_number_to-2 c =
    OnTrue_from _ _ (λ t. elim c.if-is_number_to.branch [
      | then-is_number_to w ↦
          clock_of c.args.bytes.now (omega arith) (omega arith) (omega arith) (sym c.is_number_to.ensures ∙ w.if-is_number_to.true)
          (sym w.is_number_to-then-is_number_to.ensures ∙ sym w.value-is ∙ c.if-is_number_to-2.true) (sym c.is_number_to-then-is_number_to-2.ensures ∙ t)
      | else-is_number_to w ↦ absurd (false≢true (sym w.if-is_number_to.false ∙ sym w.value-is ∙ c.if-is_number_to-2.true))
    ])
