-- Nothing here need be believed: only private contracts and proofs cite it.
use Rattle.std.specs.Prelude.{◌≡◌, false, string_bytes}
use Rattle.ged_explain.specs.Showing.{IsSeen}
use Rattle.ged_explain.specs.declared.explanation.Explanation.{Explanation}

-- what was told so far is seen, unless memory was wanting
abbrev pub TellsSeen : Explanation → Type 0
TellsSeen told = told.lacks_memory ≡ false → IsSeen (string_bytes told.text)
