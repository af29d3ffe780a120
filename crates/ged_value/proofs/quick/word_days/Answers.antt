use Rattle.std.proofs.Common.{ℕ, [], ◌∷◌, ◌+◌, ◌*◌, ◌/◌, ◌%◌, inl, inr, refl, arith}
use Rattle.std.specs.List.{All}
use Rattle.std.proofs.lemmas.List.Elements.{All-get_or, All-from_recursion}
use Rattle.ged_value.specs.inner.Quick.{IsBeforeYear}
use Rattle.ged_value.specs.declared.quick.TheConstants.{WORDS}
use Rattle.ged_value.proofs.quick.word_days.Goals as goal

-- the letters of the row are a word with so many days
abbrev IsWordRow : ℕ × ℕ × ℕ × ℕ → Type 0
IsWordRow row = IsBeforeYear row.3 (row.0 ∷ row.1 ∷ row.2 ∷ [])

all_words : All IsWordRow WORDS
all_words = All-from_recursion IsWordRow WORDS (inl (refl, refl), (inr refl, (inr refl, (inr refl, (inl (refl, refl), (inr refl, (inr refl, (inr refl, (inr refl, (inr refl, (inr refl, (inr refl, (inr refl, (inr refl, (inl (refl, refl), (inr refl, (inr refl, (inl (refl, refl), (inr refl, (inl (refl, refl), (inr refl, (inr refl, (inr refl, (inr refl, (inr refl, (inr refl, (inr refl, (inr refl, (inr refl, (inr refl, (inr refl, (inr refl, tt))))))))))))))))))))))))))))))))

pub returns-then-third-three : goal.returns-then-third-three
returns-then-third-three c =
    rw (c.if-first-one.true, c.if-second-two.true, c.if-third-three.true)
    (All-get_or IsWordRow WORDS ((c.from.result * 2 + c.from-2.result * 3) / 2 % 32) (0, 0, 0, 0) (omega arith) all_words)
