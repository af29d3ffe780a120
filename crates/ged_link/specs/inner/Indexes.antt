-- Nothing here need be believed: only private contracts and proofs cite it.
use Rattle.std.specs.Prelude.{◌≡◌, ◌⊎◌, ℕ, List, Option, Some, nat_eq, fold, map}
use Rattle.std.specs.Hash.DefaultHasher.{initial, finish}
use Rattle.std.specs.HashMap.{get, hasher_of, hash_map_len}
use Rattle.ged_line.specs.Bytes.{Bytes}
use Rattle.ged_link.specs.declared.index.RecordPlace.{RecordPlace}
use Rattle.ged_link.specs.declared.names.Names.{Names}
use Rattle.ged_link.specs.declared.keys.KeyedNumbers.{KeyedNumbers}
use Rattle.ged_link.specs.Links.{IsAmong}
use Rattle.ged_link.specs.NameNumbers.{short_number}
use Rattle.ged_link.specs.TextRecords.{found_by_text}
use Rattle.ged_link.specs.inner.Keys.{fed_number, texts_key}
use Rattle.ged_link.specs.inner.Listing.{listed_halves}

-- the key of short names, by what is listed of them
abbrev pub numbers_key : List (Option Bytes) → ℕ
numbers_key names = finish (fold fed_number initial (map listed_halves names))

-- each number that the map of short names holds is that of one of these names
abbrev pub HoldsShort : List (Option Bytes) → Names → Type 0
HoldsShort names records = (number : ℕ) (found : RecordPlace) → get nat_eq records.short number ≡ Some found → (name : Bytes) × (short_number name ≡ Some number) × IsAmong (Some name) names

-- each long name that a record is found by is one of these
abbrev pub HoldsLong : List (Option Bytes) → Names → Type 0
HoldsLong names records = (name : Bytes) (found : RecordPlace) → found_by_text records.long name ≡ Some found → IsAmong (Some name) names

-- the map of short names, if it holds something, hashes under the key of these names, among which are all that it holds
abbrev pub IsKeyedShort : List (Option Bytes) → Names → Type 0
IsKeyedShort names records = (hash_map_len records.short ≡ 0) ⊎ (((hasher_of {S = KeyedNumbers} records.short).key ≡ numbers_key names) × HoldsShort names records)

-- and the table of the long ones under theirs
abbrev pub IsKeyedLong : List (Option Bytes) → Names → Type 0
IsKeyedLong names records = (records.long.key ≡ texts_key names) × HoldsLong names records

abbrev pub IsKeyed : List (Option Bytes) → Names → Type 0
IsKeyed names records = IsKeyedShort names records × IsKeyedLong names records
