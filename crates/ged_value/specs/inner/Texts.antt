-- Nothing here need be believed: only private contracts and proofs cite it.
use Rattle.std.specs.Prelude.{List, ℕ, map}
use Rattle.std.specs.Borrow.{Bor}
use Rattle.ged_value.specs.Words.{Bytes}
use Rattle.ged_value.specs.Texts.{bytes_of}

-- the words that a slice of words points to
abbrev pub texts : List (Bor (List ℕ)) → List Bytes
texts words = map bytes_of words
