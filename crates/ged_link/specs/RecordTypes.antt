-- The types of the records to which the pointers lead that the structure tables ask for (FamilySearch GEDCOM 7.0, "Structure Organization").
use Rattle.std.specs.Prelude.{◌≡◌, ℕ, ◌↔◌, Option, Some, codes}
use Rattle.ged_line.specs.Bytes.{Bytes}
use Rattle.ged_tree.specs.Trees.{Trees}
use Rattle.ged_tree.specs.Places.{structure_at}
use Rattle.ged_link.specs.declared.record_type.RecordType.{RecordType}
use Rattle.ged_link.specs.declared.record_type.RecordType.TheVariants.{Fam, Indi, Obje, Snote, Sour, Subm}
use Rattle.ged_link.specs.LinkFaults.{HasXref}

-- the tag of the records of a type
abbrev pub record_tag : RecordType → Bytes
record_tag Fam = codes "FAM"
record_tag Indi = codes "INDI"
record_tag Obje = codes "OBJE"
record_tag Snote = codes "SNOTE"
record_tag Sour = codes "SOUR"
record_tag Subm = codes "SUBM"

-- the type of the records with a tag, where they are of one
abbrev pub IsTypeOf : Option RecordType → Bytes → Type 0
IsTypeOf known tag = (wanted : RecordType) → (known ≡ Some wanted) ↔ (tag ≡ record_tag wanted)

-- a record of the type has this identifier
abbrev pub HasRecordOf : Trees → RecordType → Bytes → Type 0
HasRecordOf d wanted name = (place : ℕ) × HasXref d place name × ((structure_at d place).tag ≡ record_tag wanted)
