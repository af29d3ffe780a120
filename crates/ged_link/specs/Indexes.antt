-- Which document an index is of. The contracts of its calls say what follows; what it holds is told here for the proofs.
use Rattle.std.specs.Prelude.{◌≡◌, ℕ, true, false, List, Option, Some, None, ◌↔◌, nat_eq, slice_index_or, option_map, IsTrue}
use Rattle.std.specs.HashMap.{get}
use Rattle.ged_line.specs.Bytes.{Bytes}
use Rattle.ged_tree.specs.Trees.{Trees}
use Rattle.ged_tree.specs.Places.{structure_at}
use Rattle.ged_link.specs.declared.index.Index.{Index}
use Rattle.ged_link.specs.declared.index.RecordPlace.{RecordPlace}
use Rattle.ged_link.specs.declared.names.Names.{Names}
use Rattle.ged_link.specs.NameNumbers.{short_number}
use Rattle.ged_link.specs.Slots.{kept_in}
use Rattle.ged_link.specs.TextRecords.{found_by_text}
use Rattle.ged_link.specs.Links.{Resolved, IsRecordNumber, IsUsed}
use Rattle.ged_link.specs.LinkFaults.{HasXref}
use Rattle.ged_link.specs.declared.record_type.RecordType.{RecordType}
use Rattle.ged_link.specs.RecordTypes.{IsTypeOf}
use Rattle.ged_link.specs.Targets.{AreTargets}
use Rattle.ged_link.specs.Places.{ArePlaces}
use Rattle.ged_link.specs.LedByTags.{AreLed}
use Rattle.ged_link.specs.Notices.{AreOneWay}

abbrev pub first_of : Option RecordPlace → Option RecordPlace → Option RecordPlace
first_of (Some found) other = Some found
first_of None other = other

-- the record that has a name with a number: that in the name's slot, or else by the number
abbrev pub found_short : Names → Bytes → ℕ → Option RecordPlace
found_short records name number = first_of (kept_in records.slots name number) (get nat_eq records.short number)

-- the record that has a name: by the name's number, where it has one
abbrev pub found_by : Names → Bytes → Option ℕ → Option RecordPlace
found_by records name (Some number) = found_short records name number
found_by records name None = found_by_text records.long name

abbrev pub found_in : Names → Bytes → Option RecordPlace
found_in records name = found_by records name (short_number name)

abbrev pub number_in : Names → Bytes → Option ℕ
number_in records name = option_map (λ found. found.number) (found_in records name)

abbrev pub place_in : Names → Bytes → Option ℕ
place_in records name = option_map (λ found. found.place) (found_in records name)

-- each record that has a name has its type by its number
abbrev pub AreTyped : Trees → Names → List (Option RecordType) → Type 0
AreTyped d records types = (name : Bytes) (found : RecordPlace) → found_in records name ≡ Some found → IsTypeOf (slice_index_or types found.number None) (structure_at d found.place).tag

-- each identifier of a document, and no other, has the number and the place of its record
pub record AreRecords (d : Trees) (records : Names) : Type 0 where
  pub placed : (name : Bytes) (place : ℕ) → (place_in records name ≡ Some place) ↔ HasXref d place name
  pub numbered : (name : Bytes) (number : ℕ) → (number_in records name ≡ Some number) ↔ IsRecordNumber d number name

-- the index of a document, all of whose pointers name records
pub record IsIndexOf (d : Trees) (index : Index) : Type 0 where
  pub resolved : Resolved d
  pub records : AreRecords d index.records
  pub typed : AreTyped d index.records index.types.items
  pub used : (number : ℕ) → (slice_index_or index.followed.used.items number false ≡ true) ↔ IsUsed d number
  pub targets : AreTargets d index.followed.targets.items
  pub led : IsTrue index.followed.led ↔ AreLed d d
  pub places : ArePlaces d index.places.items
  pub one_way : AreOneWay d index.one_way.items
