-- How the iterator over words is seen.
use Rattle.std.specs.Prelude.{List, [], Option, Some, None, ℕ, filter}
use Rattle.std.specs.Borrow.{Bor}
use Rattle.ged_value.specs.Words.{Bytes, words_of}
use Rattle.ged_value.specs.Default.{is_other}

-- the words of the text that is left, if any
abbrev pub words_left : Option (Bor (List ℕ)) → List Bytes
words_left None = []
words_left (Some rest) = words_of rest.now

-- those that the iterator has still to give
abbrev pub left_of : Option (Bor (List ℕ)) → List Bytes
left_of rest = filter is_other (words_left rest)
