-- Nothing here need be believed: only private contracts and proofs cite it.
-- The records of a document, read from its lines.
use Rattle.std.specs.Prelude.{◌≡◌, Bool, ◌&&◌, ◌==◌, not, codes, List, [], ◌∷◌, Option, ⊤, fold, map, replicate}
use Rattle.std.specs.List.{filter}
use Rattle.std.specs.Str.{bytes_eq}
use Rattle.ged_line.specs.Bytes.{Bytes}
use Rattle.ged_line.specs.Lines.{LineParts}
use Rattle.ged_link.specs.RecordTypes.{IsTypeOf}
use Rattle.std.specs.Hash.DefaultHasher.{initial}
use Rattle.ged_link.specs.inner.Keys.{fed_long}
use Rattle.ged_link.specs.inner.Layout.{counted, no_names}
use Rattle.ged_link.specs.inner.Listing.{listed_halves, listed_digits, all_halves, all_digits}
use Rattle.ged_link.specs.inner.PointerLists.{line_pointers, AreListedPointers}
use Rattle.ged_link.specs.declared.listing.RecordList.{RecordList}
use Rattle.ged_link.specs.declared.record_reader.RecordReader.{RecordReader}
use Rattle.ged_link.specs.declared.record_type.RecordType.{RecordType}

-- HEAD and TRLR are no records
abbrev pub is_record_tag : Bytes → Bool
is_record_tag tag = not (bytes_eq tag (codes "HEAD")) && not (bytes_eq tag (codes "TRLR"))

-- the lines among these on which records begin
abbrev pub record_lines : List LineParts → List LineParts
record_lines lines = filter (λ line. (line.level == 0) && is_record_tag line.tag) lines

-- the types of the records that begin on lines, one for each
abbrev pub AreTypesByTags : List (Option RecordType) → List LineParts → Type 0
AreTypesByTags [] [] = ⊤
AreTypesByTags [] (line ∷ lines) = ⊥
AreTypesByTags (known ∷ more) [] = ⊥
AreTypesByTags (known ∷ more) (line ∷ lines) = IsTypeOf known line.tag × AreTypesByTags more lines

-- the list has the records that begin on these lines
pub record AreListed (list : RecordList) (lines : List LineParts) : Type 0 where
  pub tallies : list.tallies.items ≡ fold counted (replicate 256 no_names) (map (λ line. line.xref) lines)
  pub names : all_halves list ≡ map listed_halves (map (λ line. line.xref) lines)
  pub digits : all_digits list ≡ map listed_digits (map (λ line. line.xref) lines)
  pub types : AreTypesByTags list.types.items lines
  pub long : list.long.hasher ≡ fold fed_long initial (map (λ line. line.xref) lines)

-- the lines were read, and their pointers are listed
abbrev pub HasListed : RecordReader → List LineParts → Type 0
HasListed reader lines = AreListed reader.list (record_lines lines) × AreListedPointers reader.pointers.items (line_pointers lines)
