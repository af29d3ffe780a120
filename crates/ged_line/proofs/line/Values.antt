-- What the value of a line is.
use Rattle.std.proofs.Common.{◌≡◌, ◌≢◌, ℕ, ◌==◌, true, false, List, [], ◌∷◌, length, get_or, sym, ap, arith, not}
use Rattle.std.proofs.lemmas.Bool.Decides.{nat_tests}
use Rattle.std.specs.Str.{NoCharPasses, IsUtf8}
use Rattle.ged_line.specs.Bytes.{space, at_sign}
use Rattle.ged_line.specs.Characters.{is_banned, is_plain}
use Rattle.ged_line.specs.Lines.{Empty, Text, is_value}
use Rattle.ged_line.specs.inner.LineTexts.{IsValuePart, is_line_text}
use Rattle.ged_line.specs.Faults.{BeginsWith}
use Rattle.ged_line.proofs.line.NameTests.{and_true}
use Rattle.ged_line.proofs.bytes.Banned.{is_plain-from}
use Rattle.ged_line.proofs.line.Reading.{doubled_plain}

pub some_text : (c : ℕ) (cs : List ℕ) → not (length (c ∷ cs) == 0) ≡ true
some_text c cs = grind (arith, nat_tests)

pub text_is : (c : ℕ) (cs : List ℕ) → IsUtf8 (c ∷ cs) → NoCharPasses is_banned (c ∷ cs) → is_line_text (c ∷ cs) ≡ true
text_is c cs u n = and_true (not (length (c ∷ cs) == 0)) (is_plain (c ∷ cs)) (some_text c cs) (is_plain-from (c ∷ cs) u n)

pub plain_text : (text : List ℕ) → false ≡ (length text == 0) → IsUtf8 text → NoCharPasses is_banned text → ((rest : List ℕ) → text ≢ 64 ∷ rest)
    → (is_value (Text text) ≡ true) × IsValuePart (Text text) (space ∷ text) × (text ≡ [] → Text text ≡ Empty)
plain_text [] e u n h = cc
plain_text (c ∷ cs) e u n h = (text_is c cs u n, ap (λ x. 32 ∷ x) (sym (doubled_plain (c ∷ cs) h)), λ z. cc)

pub starts_with_sign : (text : List ℕ) → get_or text 0 0 ≡ 64 → (more : List ℕ) × (text ≡ 64 ∷ more)
starts_with_sign [] e = cc
starts_with_sign (c ∷ cs) e = (cs, ap (λ x. x ∷ cs) e)

pub starts_with_none : (text : List ℕ) → ¬ (get_or text 0 0 ≡ 64) → ¬ (BeginsWith at_sign text)
starts_with_none text h (more, e) = h (ap (λ xs. get_or xs 0 0) e)
