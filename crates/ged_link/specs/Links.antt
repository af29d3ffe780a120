-- Cross-references: the identifiers that records have, and the pointers that name them (FamilySearch GEDCOM 7.0, "Lines").
use Rattle.std.specs.Prelude.{◌≡◌, ℕ, List, [], ◌∷◌, ◌++◌, Option, Some, ◌⊎◌, ⊤, slice_get}
use Rattle.std.specs.Option.{option_to_list}
use Rattle.ged_line.specs.Bytes.{Bytes}
use Rattle.ged_tree.specs.Trees.{Structure, Trees, none, tree, records_of}
use Rattle.ged_tree.specs.declared.payload.Payload.TheVariants.{Pointer}

-- x is one of them
abbrev pub IsAmong : {X : Type 0} → X → List X → Type 0
IsAmong x [] = ⊥
IsAmong x (y ∷ ys) = (x ≡ y) ⊎ IsAmong x ys

-- no two of them are the same
abbrev pub AreDistinct : {X : Type 0} → List X → Type 0
AreDistinct [] = ⊤
AreDistinct (x ∷ xs) = (IsAmong x xs → ⊥) × AreDistinct xs

-- one of the trees side by side has P, its structure and what stands below it
abbrev pub SomeTree : (Structure → Trees → Type 0) → Trees → Type 0
SomeTree P none = ⊥
SomeTree P (tree s below next) = P s below ⊎ SomeTree P next

-- the identifiers of trees side by side; of a document, those of its records
abbrev pub xrefs : Trees → List Bytes
xrefs none = []
xrefs (tree s below next) = option_to_list s.xref ++ xrefs next

-- some pointer, at any depth, has this name
abbrev pub IsNamed : Trees → Bytes → Type 0
IsNamed none name = ⊥
IsNamed (tree s below next) name = (s.payload ≡ Pointer name) ⊎ (IsNamed below name ⊎ IsNamed next name)

-- the identifiers are distinct, and each pointer names one of them
pub record Resolved (d : Trees) : Type 0 where
  pub distinct : AreDistinct (xrefs d)
  pub found : (name : Bytes) → IsNamed d name → IsAmong name (xrefs d)

-- what trees side by side have as identifiers, in order
abbrev pub identifiers : Trees → List (Option Bytes)
identifiers none = []
identifiers (tree s below next) = s.xref ∷ identifiers next

-- the record with this number, counted from 0, has this identifier
abbrev pub IsRecordNumber : Trees → ℕ → Bytes → Type 0
IsRecordNumber d number name = slice_get (identifiers (records_of d)) number ≡ Some (Some name)

-- some pointer names the record with this number
abbrev pub IsUsed : Trees → ℕ → Type 0
IsUsed d number = (name : Bytes) × IsRecordNumber d number name × IsNamed d name
