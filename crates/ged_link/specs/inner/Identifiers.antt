-- Nothing here need be believed: only private contracts and proofs cite it.
-- Identifiers and pointers of one structure.
use Rattle.std.specs.Prelude.{◌≡◌, List, ◌++◌, Option, Some}
use Rattle.std.specs.Option.{option_to_list}
use Rattle.ged_line.specs.Bytes.{Bytes}
use Rattle.ged_tree.specs.Trees.{Structure, Trees}
use Rattle.ged_tree.specs.declared.payload.Payload.{Payload}
use Rattle.ged_tree.specs.declared.payload.Payload.TheVariants.{Pointer}
use Rattle.ged_link.specs.Links.{IsAmong}

-- a structure's identifier, if it has one, before others
abbrev pub with_xref : Option Bytes → List Bytes → List Bytes
with_xref xref names = option_to_list xref ++ names

-- a pointer with this name
abbrev pub Names : Payload → Bytes → Type 0
Names payload name = payload ≡ Pointer name

-- a structure with one of these tags that points to the record with this identifier
abbrev pub PointsBack : Option Bytes → List Bytes → Structure → Trees → Type 0
PointsBack xref tags s below = IsAmong s.tag tags × (name : Bytes) × (xref ≡ Some name) × (s.payload ≡ Pointer name)
