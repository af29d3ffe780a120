use Rattle.std.proofs.Common.{◌≡◌, length}
use Rattle.std.specs.List.{list_all}
use Rattle.ged_value.specs.Words.{words_of}
use Rattle.ged_value.specs.Left.{words_left}
use Rattle.ged_canon.specs.inner.Working.{is_brief_word}
use Rattle.ged_canon.proofs.writer.brief.are_brief_words.Given as goal

-- all words are brief exactly when those that are left are
abbrev pub invariant-loop-rest : goal.invariant-loop-rest
invariant-loop-rest l =
    let test = is_brief_word l.left_out.calendar l.left_out.zeros in
    list_all test (words_of l.line) ≡ list_all test (words_left l.rest)

abbrev pub decreases-loop-rest : goal.decreases-loop-rest
decreases-loop-rest l = length (words_left l.rest)
