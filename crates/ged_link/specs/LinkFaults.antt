-- The faults of cross-references, at the places of a document's structures: lower places stand on lower lines
-- (FamilySearch GEDCOM 7.0, "Lines").
use Rattle.std.specs.Prelude.{◌≡◌, ℕ, ◌<◌, ◌≤◌, Some}
use Rattle.ged_line.specs.Bytes.{Bytes}
use Rattle.ged_tree.specs.Trees.{Trees, trees_count}
use Rattle.ged_tree.specs.Places.{structure_at, line_at}
use Rattle.ged_tree.specs.declared.payload.Payload.TheVariants.{Pointer}
use Rattle.ged_link.specs.declared.fault.LinkFault.{LinkFault}
use Rattle.ged_link.specs.declared.fault.LinkFault.TheVariants.{Duplicate, Dangling, Memory}

-- the structure at a place has this identifier
abbrev pub HasXref : Trees → ℕ → Bytes → Type 0
HasXref d place name = (place < trees_count d) × ((structure_at d place).xref ≡ Some name)

-- the structure at a place has a pointer with this name
abbrev pub HasPointer : Trees → ℕ → Bytes → Type 0
HasPointer d place name = (place < trees_count d) × ((structure_at d place).payload ≡ Pointer name)

-- an earlier structure has the identifier of the one at a place
abbrev pub IsRepeated : Trees → ℕ → Type 0
IsRepeated d place = (name : Bytes) × (earlier : ℕ) × HasXref d place name × HasXref d earlier name × (earlier < place)

-- the structure at a place has a pointer that names no identifier
abbrev pub IsDangling : Trees → ℕ → Type 0
IsDangling d place = (name : Bytes) × HasPointer d place name × ((other : ℕ) → HasXref d other name → ⊥)

-- the lowest number that has P
abbrev pub IsLowest : (ℕ → Type 0) → ℕ → Type 0
IsLowest P n = P n × ((other : ℕ) → P other → n ≤ other)

-- the fault of a document: its first repeated identifier; where none is repeated, its first pointer that dangles
abbrev pub HasLinkFault : Trees → LinkFault → Type 0
HasLinkFault d (Duplicate line) = (place : ℕ) × IsLowest (IsRepeated d) place × (line ≡ line_at 1 d place)
HasLinkFault d (Dangling line) = ((place : ℕ) → IsRepeated d place → ⊥) × ((place : ℕ) × IsLowest (IsDangling d) place × (line ≡ line_at 1 d place))
HasLinkFault d (Memory error) = ⊥
