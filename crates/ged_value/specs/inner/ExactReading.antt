-- Nothing here need be believed: only private contracts and proofs cite it.
-- How exact dates are read from words: the one answer of the private functions.
use Rattle.std.specs.Prelude.{List, [], ◌∷◌, Option, Some, None, if◌then◌else◌}
use Rattle.ged_value.specs.Words.{Bytes}
use Rattle.ged_value.specs.Exact.{ExactParts, is_exact}

abbrev pub if_exact : ExactParts → Option ExactParts
if_exact e = if is_exact e then Some e else None

abbrev pub exact_at : List Bytes → Option ExactParts
exact_at (d ∷ m ∷ y ∷ []) = if_exact (record { day = d; month = m; year = y })
exact_at _ = None
