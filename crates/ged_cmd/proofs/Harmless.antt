-- A text as it is shown has no character that misleads.
use Rattle.std.proofs.Common.{◌≡◌, ℕ, Bool, true, false, ◌||◌, List, [], ◌∷◌, ◌++◌, append-nil, codes, chars, encode_utf8, flat_map, refl, sym, subst, if◌then◌else◌, IfOk, Result, Ok, Err}
use Rattle.std.specs.Str.{NonePass}
use Rattle.std.proofs.lemmas.Str.{NoCharPasses-append, NoCharPasses-nil}
use Rattle.ged_explain.specs.Characters.{misleads, is_blank, takes_no_room, is_unseen}
use Rattle.ged_explain.specs.Showing.{IsSeen}
use Rattle.ged_cmd.specs.inner.Names.{IsHarmless, hexadecimal, shown_character, shown_text}
use Rattle.ged_explain.proofs.CallerLemmas.{numbered_seen}

neither : (a b c : Bool) → (a || b || c) ≡ false → a ≡ false
neither true b c none = none
neither false b c none = refl

none_misleads : (cs : List ℕ) → NonePass is_unseen cs → NonePass misleads cs
none_misleads [] none = tt
none_misleads (c ∷ cs) none = (neither (misleads c) (is_blank c) (takes_no_room c) none.0, none_misleads cs none.1)

seen_harmless : (text : List ℕ) → IsSeen text → IsHarmless text
seen_harmless text (cs, is, none) = (cs, is, none_misleads cs none)

one_harmless : (c : ℕ) → misleads c ≡ false → IsHarmless (encode_utf8 c)
one_harmless c harmless = (c ∷ [], append-nil (encode_utf8 c), (harmless, tt))

either_harmless : (misled : Bool) (number as_it_is : List ℕ) → IsHarmless number → (misled ≡ false → IsHarmless as_it_is) → IsHarmless (if misled then number else as_it_is)
either_harmless true number as_it_is numbered plain = numbered
either_harmless false number as_it_is numbered plain = plain refl

character_harmless : (c : ℕ) → IsHarmless (shown_character c)
character_harmless c = either_harmless (misleads c) (codes "U+" ++ hexadecimal c) (encode_utf8 c) (seen_harmless (codes "U+" ++ hexadecimal c) (numbered_seen 4 c)) (one_harmless c)

all_harmless : (cs : List ℕ) → IsHarmless (flat_map shown_character cs)
all_harmless [] = NoCharPasses-nil misleads
all_harmless (c ∷ cs) = NoCharPasses-append misleads (shown_character c) (flat_map shown_character cs) (character_harmless c) (all_harmless cs)

pub text_harmless : (text : List ℕ) → IsHarmless (shown_text text)
text_harmless text = all_harmless (chars text)

pub result_harmless : {T E : Type 0} (bytes : T → List ℕ) (r : Result T E) (text : List ℕ) → IfOk r (λ told. bytes told ≡ shown_text text) → IfOk r (λ told. IsHarmless (bytes told))
result_harmless bytes (Ok told) text is = subst (λ (shown : List ℕ). IsHarmless shown) (sym is) (text_harmless text)
result_harmless bytes (Err e) text is = tt
