-- Nothing here need be believed: only private contracts and proofs cite it.
-- How far the walks of resolving have come; only private functions cite this.
use Rattle.std.specs.Prelude.{◌≡◌, ℕ, ◌<◌, Bool, true, false, List, Some, ◌↔◌, Option, None, IfSome, IsTrue, is_none, if◌then◌else◌, option_map, slice_index_or, length}
use Rattle.std.specs.Str.{bytes_eq}
use Rattle.ged_line.specs.Bytes.{Bytes}
use Rattle.ged_tree.specs.Trees.{Trees, records_of}
use Rattle.ged_tree.specs.Documents.{is_document}
use Rattle.ged_tree.specs.Places.{structure_at}
use Rattle.ged_link.specs.declared.index.RecordPlace.{RecordPlace}
use Rattle.ged_link.specs.Links.{identifiers, IsRecordNumber, IsUsed}
use Rattle.ged_link.specs.LinkFaults.{HasXref, HasPointer, IsDangling}
use Rattle.ged_link.specs.declared.names.Names.{Names}
use Rattle.ged_link.specs.declared.pointers.Following.{Following}
use Rattle.ged_link.specs.declared.pointers.Records.{Records}
use Rattle.ged_link.specs.declared.record_type.RecordType.{RecordType}
use Rattle.ged_link.specs.RecordTypes.{record_tag}
use Rattle.ged_link.specs.LedByTags.{IsLed}
use Rattle.ged_link.specs.Places.{ArePlaces}
use Rattle.ged_link.specs.inner.PointerLists.{pointers_from, IsPointerList}
use Rattle.ged_link.specs.Indexes.{AreRecords, AreTyped, found_in, place_in, number_in}

-- the records gain a name, and keep all others
abbrev pub AddsName : Names → Names → Bytes → RecordPlace → Type 0
AddsName old new name found = (other : Bytes) → found_in new other ≡ (if bytes_eq name other then Some found else found_in old other)

-- the same of a record that may have no identifier; it is new where no record had its name
abbrev pub AddsRecord : Names → Names → Option Bytes → RecordPlace → Bool → Type 0
AddsRecord old new None found is_new = (is_new ≡ true) × (new ≡ old)
AddsRecord old new (Some name) found is_new = (is_new ≡ is_none (found_in old name)) × (is_new ≡ true → AddsName old new name found)

-- each identifier before a place, and those of so many records, and no other, has the number and the place of its record
pub record AreRecordsBefore (d : Trees) (place number : ℕ) (records : Names) : Type 0 where
  pub placed : (name : Bytes) (other : ℕ) → (place_in records name ≡ Some other) ↔ ((other < place) × HasXref d other name)
  pub numbered : (name : Bytes) (other : ℕ) → (number_in records name ≡ Some other) ↔ ((other < number) × IsRecordNumber d other name)

-- a record is marked exactly where a pointer before a place names it
abbrev pub AreUsedBefore : Trees → ℕ → List Bool → Type 0
AreUsedBefore d place used =
    (number : ℕ) → (slice_index_or used number false ≡ true) ↔ ((name : Bytes) × IsRecordNumber d number name × ((other : ℕ) × (other < place) × HasPointer d other name))

-- no pointer before a place dangles
abbrev pub NoneDanglesBefore : Trees → ℕ → Type 0
NoneDanglesBefore d place = (other : ℕ) → other < place → IsDangling d other → ⊥

-- whether what is known of a record's type is what a pointer's tag says that it leads to, if it says it
abbrev pub LeadsAsTagged : Bool → Option Bytes → Option RecordType → Type 0
LeadsAsTagged leads wanted known =
    (kind : Option RecordType) × (option_map record_tag kind ≡ wanted) × (IsTrue leads ↔ IfSome kind (λ kind. known ≡ Some kind))

-- each pointer before a place leads to such a record as its tag says
abbrev pub AreLedBefore : Trees → ℕ → Type 0
AreLedBefore d place = (other : ℕ) → other < place → IsLed d (structure_at d other).tag (structure_at d other).payload

-- a document's records by their identifiers, and the types and the places of the records
pub record AreKnown (d : Trees) (records : Records) : Type 0 where
  pub document : is_document d ≡ true
  pub named : AreRecords d records.names.now
  pub typed : AreTyped d records.names.now records.types.now
  pub placed : ArePlaces d records.places.now

-- all pointers before a place name records, those are marked, and what is kept of the pointers is true, as is what is listed of the others
pub record AreFollowed (d : Trees) (place : ℕ) (followed : Following) : Type 0 where
  pub long : length followed.used.items ≡ length (identifiers (records_of d))
  pub marked : AreUsedBefore d place followed.used.items
  pub list : IsPointerList d (pointers_from d place) followed.list
  pub found : NoneDanglesBefore d place
  pub led : IsTrue followed.led ↔ AreLedBefore d place

-- a record is marked exactly where some pointer names it
abbrev pub AreUsed : Trees → List Bool → Type 0
AreUsed d used = (number : ℕ) → (slice_index_or used number false ≡ true) ↔ IsUsed d number
