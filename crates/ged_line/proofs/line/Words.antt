-- The word at the front of a text.
use Rattle.std.proofs.Common.{◌≡◌, ◌≢◌, ℕ, ◌==◌, false, List, [], ◌∷◌, ◌++◌, refl, ap, arith}
use Rattle.std.proofs.Math.Numerals.{one-add}
use Rattle.std.proofs.lemmas.Bool.Decides.{nat_tests}
use Rattle.ged_line.specs.Faults.{word}
use Rattle.ged_line.proofs.line.Cuts.{Lacks}

pub not_space : (c : ℕ) → c ≢ 32 → (c == 32) ≡ false
not_space c h = grind (arith, nat_tests)

-- what stands before a space, or a whole text with none
pub word_cut : (tag rest : List ℕ) → Lacks 32 tag → word (tag ++ (32 ∷ rest)) ≡ tag
word_cut [] rest f = refl
word_cut (c ∷ cs) rest f = rw (not_space c f.0, one-add) (ap (λ xs. c ∷ xs) (word_cut cs rest f.1))

pub word_whole : (tag : List ℕ) → Lacks 32 tag → word tag ≡ tag
word_whole [] f = refl
word_whole (c ∷ cs) f = rw (not_space c f.0, one-add) (ap (λ xs. c ∷ xs) (word_whole cs f.1))
