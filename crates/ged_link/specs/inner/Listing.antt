-- Nothing here need be believed: only private contracts and proofs cite it.
-- What is listed of each of the records.
use Rattle.std.specs.Prelude.{◌≡◌, ℕ, ◌-◌, ◌/◌, ◌%◌, List, [], ◌∷◌, ◌++◌, Option, Some, None, ⊤, drop, fold, length, map, replicate}
use Rattle.ged_line.specs.Bytes.{Bytes}
use Rattle.ged_tree.specs.Trees.{Trees, none, tree, records_of}
use Rattle.ged_tree.specs.Runs.{trees_between}
use Rattle.ged_link.specs.Links.{identifiers}
use Rattle.std.specs.Hash.DefaultHasher.{initial}
use Rattle.ged_link.specs.inner.Keys.{fed_long}
use Rattle.ged_link.specs.inner.Layout.{counted, no_names}
use Rattle.ged_link.specs.NameNumbers.{short_number}
use Rattle.ged_link.specs.Slots.{number_read}
use Rattle.ged_link.specs.RecordTypes.{IsTypeOf}
use Rattle.ged_link.specs.declared.listing.ListedName.{ListedName}
use Rattle.ged_link.specs.declared.listing.ListedNames.{ListedNames}
use Rattle.ged_link.specs.declared.listing.RecordList.{RecordList}
use Rattle.ged_link.specs.declared.record_type.RecordType.{RecordType}

-- of a record without a name, and of a name that spells no number
abbrev pub no_name : ListedName
no_name = record { number = 0; digits = 0 }

abbrev pub no_number : ListedName
no_number = record { number = 0; digits = 1 }

abbrev pub listed_with : ℕ → Option ℕ → ListedName
listed_with digits None = no_number
listed_with digits (Some number) = record { number = number; digits = digits }

abbrev pub listed_text : Bytes → ListedName
listed_text [] = no_number
listed_text (b ∷ bs) = listed_with (number_read 0 bs) (short_number (b ∷ bs))

-- what is listed of a record's name: its number, which is never 0, and the one behind its first byte
abbrev pub listed_name : Option Bytes → ListedName
listed_name None = no_name
listed_name (Some name) = listed_text name

-- the same in words of 32 bits: the low and the high half of the number
abbrev pub listed_halves : Option Bytes → ℕ × ℕ
listed_halves xref = ((listed_name xref).number % 4294967296, (listed_name xref).number / 4294967296)

abbrev pub listed_digits : Option Bytes → ℕ
listed_digits xref = (listed_name xref).digits

-- how many records stand before the first whose name is listed: none of them has one
abbrev pub unnamed_in : RecordList → ℕ
unnamed_in list = length list.types.items - length list.names.items

-- what is listed of the names of all records, theirs included
abbrev pub all_halves : RecordList → List (ℕ × ℕ)
all_halves list = replicate (unnamed_in list) (listed_halves None) ++ list.names.items

abbrev pub all_digits : RecordList → List ℕ
all_digits list = replicate (unnamed_in list) (listed_digits None) ++ list.digits.items

-- the names of the records from one with a number, which stands at a place, up to an end are listed
pub record IsListedFrom (d : Trees) (listed : ListedNames) (number place end : ℕ) : Type 0 where
  pub unnamed : listed.unnamed ≡ unnamed_in listed.list.now
  pub halves : drop number (all_halves listed.list.now) ≡ map listed_halves (identifiers (trees_between d place end))
  pub digits : drop number (all_digits listed.list.now) ≡ map listed_digits (identifiers (trees_between d place end))

-- the types of trees side by side, one for each
abbrev pub AreTypesOf : List (Option RecordType) → Trees → Type 0
AreTypesOf [] none = ⊤
AreTypesOf [] (tree s below next) = ⊥
AreTypesOf (known ∷ more) none = ⊥
AreTypesOf (known ∷ more) (tree s below next) = IsTypeOf known s.tag × AreTypesOf more next

-- the list has the records of a document
pub record IsRecordList (d : Trees) (list : RecordList) : Type 0 where
  pub tallies : list.tallies.items ≡ fold counted (replicate 256 no_names) (identifiers (records_of d))
  pub names : all_halves list ≡ map listed_halves (identifiers (records_of d))
  pub digits : all_digits list ≡ map listed_digits (identifiers (records_of d))
  pub types : AreTypesOf list.types.items (records_of d)
  pub long : list.long.hasher ≡ fold fed_long initial (identifiers (records_of d))
