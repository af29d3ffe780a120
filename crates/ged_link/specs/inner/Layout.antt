-- Nothing here need be believed: only private contracts and proofs cite it.
-- How many slots the names are given, by their first bytes.
use Rattle.std.specs.Prelude.{ℕ, ◌+◌, ◌*◌, min, max, cond, nat_eq, List, [], ◌∷◌, ◌++◌, Option, Some, None, slice_index_or, set}
use Rattle.ged_line.specs.Bytes.{Bytes}
use Rattle.ged_link.specs.declared.layout.Tally.{Tally}
use Rattle.ged_link.specs.declared.slots.Region.{Region}
use Rattle.ged_link.specs.NameNumbers.{short_number}
use Rattle.ged_link.specs.Slots.{number_read}

abbrev pub no_names : Tally
no_names = record { count = 0; greatest = 0 }

-- one more name, with the number behind its first byte
abbrev pub tallied : Tally → ℕ → Tally
tallied tally number = record { count = min (tally.count + 1) 4294967295; greatest = max tally.greatest number }

-- a name is counted by its first byte
abbrev pub counted_at : List Tally → ℕ → ℕ → List Tally
counted_at tallies first number = set tallies first (tallied (slice_index_or tallies first no_names) number)

-- a name that has this first byte, and behind it this number, is counted if it spells a number itself: no other name has a slot
abbrev pub counted_as : List Tally → ℕ → ℕ → Option ℕ → List Tally
counted_as tallies first digits None = tallies
counted_as tallies first digits (Some number) = counted_at tallies first digits

abbrev pub counted_name : List Tally → Bytes → List Tally
counted_name tallies [] = tallies
counted_name tallies (b ∷ bs) = counted_as tallies b (number_read 0 bs) (short_number (b ∷ bs))

abbrev pub counted : List Tally → Option Bytes → List Tally
counted tallies None = tallies
counted tallies (Some name) = counted_name tallies name

-- the slots of so many names: no more than the numbers up to the greatest
abbrev pub room : Tally → ℕ
room tally = cond (nat_eq tally.count 0) 0 (min (min (min (tally.count * 2) 4294967295 + 8) 4294967295) (min (tally.greatest + 1) 4294967295))

-- the region of one more first byte, and how many slots there are
abbrev pub begun : List Region × ℕ → Tally → List Region × ℕ
begun so_far tally = (so_far.0 ++ record { start = so_far.1; room = room tally } ∷ [], min (so_far.1 + room tally) 4294967295)
