-- Nothing here need be believed: only private contracts and proofs cite it.
-- How lists of restrictions are read: the answers of private functions.
use Rattle.std.specs.Prelude.{List, [], ◌∷◌, ◌==◌, if◌then◌else◌}
use Rattle.ged_value.specs.Words.{Bytes}
use Rattle.ged_value.specs.Restrictions.{are_spaces, RestrictionsText}

-- the text is a list of restrictions
abbrev pub AreRestrictions : Bytes → Type 0
AreRestrictions text = (items : List Bytes) × RestrictionsText items text

-- the text without the spaces that it begins with
abbrev pub trim_start : Bytes → Bytes
trim_start [] = []
trim_start (b ∷ bs) = if b == 32 then trim_start bs else b ∷ bs

-- the text without the spaces that it ends with
abbrev pub trim_end : Bytes → Bytes
trim_end [] = []
trim_end (b ∷ bs) = if are_spaces (b ∷ bs) then [] else b ∷ trim_end bs
