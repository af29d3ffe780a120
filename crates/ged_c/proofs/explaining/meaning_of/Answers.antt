-- No fault has a number that is above those of a byte.
use Rattle.std.proofs.Common.{◌≡◌, ◌<◌, ◌≤◌, ℕ, Bool, true, false, List, [], ◌∷◌, None, if◌then◌else◌, nat_lt, refl, sym, arith}
use Rattle.std.proofs.lemmas.Bool.{ne_eqb}
use borrow.Author.Tests.{ltb-true}
use Rattle.ged_explain.specs.Names.{Named, named_faults, with_number}
use Rattle.ged_c.proofs.explaining.meaning_of.Goals as goal

abbrev are_bytes : List Named → Bool
are_bytes [] = true
are_bytes (named ∷ others) = if nat_lt named.number 256 then are_bytes others else false

first_is_byte : (is others : Bool) → (if is then others else false) ≡ true → (is ≡ true) × (others ≡ true)
first_is_byte true others each = (refl, each)
first_is_byte false others each = absurd (cc)

none_above : (number : ℕ) (among : List Named) → 256 ≤ number → are_bytes among ≡ true → with_number number among ≡ None
none_above number [] above each = refl
none_above number (named ∷ others) above each =
    let parts = first_is_byte (nat_lt named.number 256) (are_bytes others) each in
    let below : named.number < 256 = ltb-true named.number 256 parts.0 in
    rw (ne_eqb named.number number (λ same. omega arith)) (none_above number others above parts.1)

none_numbered : (number : ℕ) → 256 ≤ number → with_number number named_faults ≡ None
unfolding named_faults
none_numbered number above = none_above number named_faults above refl

pub returns-in_default : goal.returns-in_default
returns-in_default c = sym (none_numbered c.args.fault (omega (arith, c.in_default.ensures)))
