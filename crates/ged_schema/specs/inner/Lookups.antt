-- Nothing here need be believed: only private contracts and proofs cite it.
-- Rows and records that are looked up.
use Rattle.std.specs.Prelude.{◌≡◌, ◌<◌, ℕ, List, length, Option, Some, None, IfSome, MatchOption, slice_get}
use Rattle.std.specs.List.{find}
use Rattle.std.specs.Str.{bytes_eq}
use Rattle.ged_line.specs.Bytes.{Bytes}
use Rattle.ged_tree.specs.Trees.{Structure, Trees}
use Rattle.ged_schema.specs.Rows.{Row}

-- the row of a tag among rows
abbrev pub row_of : List Row → Bytes → Option Row
row_of rs tag = find (λ r. bytes_eq r.tag tag) rs

-- the number of a tag's row among rows, or that none of them has the tag; rows are counted from 0, and there are at most 64
pub record TellsNumber (rs : List Row) (tag : Bytes) (found : Option ℕ) : Type 0 where
  pub row : MatchOption found (row_of rs tag ≡ None) (λ number. (number < length rs) × (slice_get rs number ≡ row_of rs tag))
  pub small : IfSome found (λ number. number < 64)
  pub only : (number : ℕ) (r : Row) → slice_get rs number ≡ Some r → r.tag ≡ tag → found ≡ Some number

-- a record with this cross-reference identifier and this tag
abbrev pub IsRecordNamed : Bytes → Bytes → Structure → Trees → Type 0
IsRecordNamed name tag s below = (s.xref ≡ Some name) × (s.tag ≡ tag)
