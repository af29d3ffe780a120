-- Pointers whose tag alone says what records they lead to (FamilySearch GEDCOM 7.0, "Structure Organization").
use Rattle.std.specs.Prelude.{◌≡◌, ◌||◌, if◌then◌else◌, Option, Some, None, IfSome, ⊤, codes}
use Rattle.std.specs.Str.{bytes_eq}
use Rattle.ged_line.specs.Bytes.{Bytes}
use Rattle.ged_tree.specs.Trees.{Trees, none, tree}
use Rattle.ged_tree.specs.declared.payload.Payload.{Payload}
use Rattle.ged_tree.specs.declared.payload.Payload.TheVariants.{Pointer}
use Rattle.ged_link.specs.Links.{SomeTree}

-- the tag of the records to which a pointer with this tag may lead; of REPO, as of any other tag, nothing is said
abbrev pub led_by : Bytes → Option Bytes
led_by tag =
    if bytes_eq tag (codes "FAMC") || bytes_eq tag (codes "FAMS") then Some (codes "FAM")
    else if bytes_eq tag (codes "HUSB") || (bytes_eq tag (codes "WIFE") || (bytes_eq tag (codes "CHIL")
    || (bytes_eq tag (codes "ASSO") || bytes_eq tag (codes "ALIA")))) then Some (codes "INDI")
    else if bytes_eq tag (codes "SUBM") || (bytes_eq tag (codes "ANCI") || bytes_eq tag (codes "DESI")) then Some (codes "SUBM")
    else if bytes_eq tag (codes "SNOTE") then Some (codes "SNOTE")
    else if bytes_eq tag (codes "SOUR") then Some (codes "SOUR")
    else if bytes_eq tag (codes "OBJE") then Some (codes "OBJE")
    else None

-- where a tag of records goes with this tag, a pointer leads to a record of the document that has it; any other payload passes
abbrev pub IsLed : Trees → Bytes → Payload → Type 0
IsLed d tag (Pointer name) = IfSome (led_by tag) (λ wanted. SomeTree (λ s below. (s.xref ≡ Some name) × (s.tag ≡ wanted)) d)
IsLed d tag payload = ⊤

-- so does each pointer of the trees
abbrev pub AreLed : Trees → Trees → Type 0
AreLed d none = ⊤
AreLed d (tree s below next) = IsLed d s.tag s.payload × (AreLed d below × AreLed d next)
