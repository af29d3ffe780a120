-- Nothing here need be believed: only private contracts and proofs cite it.
use Rattle.std.specs.Prelude.{List, ℕ, Option}
use Rattle.std.specs.Option.{option_map}
use Rattle.std.specs.Borrow.{Bor}
use Rattle.ged_value.specs.Words.{Bytes}
use Rattle.ged_value.specs.Texts.{bytes_of}
use Rattle.ged_value.specs.inner.Texts.{texts}
use Rattle.ged_value.specs.Ages.{Sign}
use Rattle.ged_value.specs.declared.age.Bound.{Bound}
use Rattle.ged_value.specs.AgeViews.{sign_name}

-- a number of an age, and the words that are left
abbrev pub unit_seen : Option (Bor (List ℕ)) × Bor (List (Bor (List ℕ))) → Option Bytes × List Bytes
unit_seen found = (option_map bytes_of found.0, texts found.1.now)

-- a sign, and the words that are left
abbrev pub sign_seen : Option Bound × Bor (List (Bor (List ℕ))) → Option Sign × List Bytes
sign_seen found = (option_map sign_name found.0, texts found.1.now)
