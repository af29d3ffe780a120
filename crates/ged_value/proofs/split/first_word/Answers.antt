use Rattle.std.proofs.Common.{◌≡◌, List, ◌∷◌, Option, Some, None, option_map, refl, sym, ap, ◌∙◌, ℕ}
use Rattle.std.specs.Borrow.{Bor}
use Rattle.ged_value.specs.Texts.{bytes_of}
use Rattle.ged_value.specs.Words.{Bytes}
use Rattle.ged_value.specs.Left.{words_left}
use Rattle.ged_value.proofs.CutLaws.{words_behind, words_cut}
use Rattle.ged_value.proofs.split.first_word.Goals as goal

same_words : (rest : Option (Bor (List ℕ))) → words_behind (option_map bytes_of rest) ≡ words_left rest
same_words None = refl
same_words (Some rest) = refl

pub returns : goal.returns
returns c =
    words_cut c.args.text.now
    ∙ ap (λ (parts : Bytes × Option Bytes). parts.0 ∷ words_behind parts.1) (sym c.cut_at.ensures)
    ∙ ap (λ ws. c.cut_at.result.0.now ∷ ws) (same_words c.cut_at.result.1)
