-- Nothing here need be believed: only private contracts and proofs cite it.
-- The pointers of a document, each by the tag of its structure and the name of a record, and what is listed of them.
use Rattle.std.specs.Prelude.{◌≡◌, ℕ, ◌+◌, ◌-◌, ◌*◌, ◌/◌, ◌%◌, ◌^◌, ◌<◌, ◌≤◌, ◌⊎◌, ⊤, ◌==◌, nat_le, if◌then◌else◌, List, [], ◌∷◌, ◌++◌, Some, drop, length, slice_get}
use Rattle.ged_line.specs.Bytes.{Bytes}
use Rattle.ged_line.specs.Lines.{LineParts, Value, Empty}
use Rattle.ged_line.specs.Lines.{Void as VoidValue, Pointer as PointerValue, Text as TextValue}
use Rattle.ged_tree.specs.Trees.{Trees, none, tree, trees_count}
use Rattle.ged_tree.specs.declared.payload.Payload.{Payload}
use Rattle.ged_tree.specs.declared.payload.Payload.TheVariants.{Void, Pointer, Text}
use Rattle.ged_link.specs.NameNumbers.{short_number}
use Rattle.ged_link.specs.Targets.{PointsAt}
use Rattle.ged_link.specs.declared.pointer_list.PointerList.{PointerList}
use Rattle.ged_link.specs.declared.targets.Target.{Target}
use Rattle.ged_link.specs.inner.PointerTags.{IsTold, told_by}

-- the pointer on a line with a tag and a value, if it has one
abbrev pub line_pointer : Bytes → Value → List (Bytes × Bytes)
line_pointer tag Empty = []
line_pointer tag VoidValue = []
line_pointer tag (PointerValue name) = (tag, name) ∷ []
line_pointer tag (TextValue text) = []

-- those on lines
abbrev pub line_pointers : List LineParts → List (Bytes × Bytes)
line_pointers [] = []
line_pointers (line ∷ lines) = line_pointer line.tag line.value ++ line_pointers lines

-- the pointer of a structure with a tag and a payload, if it has one
abbrev pub own_pointer : Bytes → Payload → List (Bytes × Bytes)
own_pointer tag Void = []
own_pointer tag (Pointer name) = (tag, name) ∷ []
own_pointer tag (Text lines) = []

-- those of all structures
abbrev pub pointers : Trees → List (Bytes × Bytes)
pointers none = []
pointers (tree s below next) = own_pointer s.tag s.payload ++ (pointers below ++ pointers next)

-- those of the structures from a place on
abbrev pub pointers_from : Trees → ℕ → List (Bytes × Bytes)
pointers_from none place = []
pointers_from (tree s below next) place =
    if place == 0 then pointers (tree s below next)
    else if nat_le place (trees_count below) then pointers_from below (place - 1) ++ pointers next
    else pointers_from next (place - 1 - trees_count below)

-- the two words of a target as one number, of 64 bits
abbrev pub entry_in : Target → ℕ
entry_in target = target.place + target.number * 4294967296

-- what is listed of a pointer with a tag to a name: in the lowest 44 bits the name's number without its highest bit, and in the next four
-- what the tag tells
pub record TellsPointer (entry : ℕ) (tag name : Bytes) : Type 0 where
  pub number : short_number name ≡ Some (2 ^ 63 + entry % 2 ^ 44)
  pub told : IsTold (told_by (entry / 2 ^ 44 % 16)) tag

-- or 0, which tells nothing
abbrev pub IsListedPointer : Target → Bytes → Bytes → Type 0
IsListedPointer target tag name = (entry_in target ≡ 0) ⊎ TellsPointer (entry_in target) tag name

-- the first of the pointers are listed, in order, or all
abbrev pub AreListedFirst : List Target → List (Bytes × Bytes) → Type 0
AreListedFirst [] all = ⊤
AreListedFirst (target ∷ targets) [] = ⊥
AreListedFirst (target ∷ targets) (pointer ∷ all) = IsListedPointer target pointer.0 pointer.1 × AreListedFirst targets all

abbrev pub AreListedPointers : List Target → List (Bytes × Bytes) → Type 0
AreListedPointers targets all = AreListedFirst targets all × (length targets ≡ length all)

-- each of so many targets tells what a pointer names
abbrev pub AreTargetsBefore : Trees → ℕ → List Target → Type 0
AreTargetsBefore d count targets =
    (index : ℕ) (target : Target) → index < count → slice_get targets index ≡ Some target → PointsAt d target.place target.number

-- the targets at the front are true, and the first of the pointers that are left are listed, or all
pub record IsPointerList (d : Trees) (left : List (Bytes × Bytes)) (list : PointerList) : Type 0 where
  pub forth : list.written ≤ list.read
  pub within : list.read ≤ length list.targets.items
  pub told : AreTargetsBefore d list.written list.targets.items
  pub listed : AreListedFirst (drop list.read list.targets.items) left

-- one more target fits in front of what is left, or nothing is
pub record HasRoom (list : PointerList) : Type 0 where
  pub within : list.read ≤ length list.targets.items
  pub room : (list.written < list.read) ⊎ ((list.written ≡ list.read) × (list.read ≡ length list.targets.items))
