-- The first thing in which a document is not as the structure tables ask
-- (FamilySearch GEDCOM 7.0, "Structure Organization").
--
-- Structures are judged in the order of their lines: each by its payload, then by its pointer's target, then by its
-- substructures' numbers in the order of the table's rows, and then the structures below it. So each case but the first
-- says as well that nothing before it is wrong.
use Rattle.std.specs.Prelude.{◌≡◌, ◌≢◌, ℕ, zero, suc, ◌+◌, ◌<◌, ◌≤◌, List, [], ◌∷◌, Option, Some, None, ◌⊎◌}
use Rattle.ged_line.specs.Bytes.{Bytes}
use Rattle.ged_tree.specs.declared.payload.Payload.{Payload}
use Rattle.ged_tree.specs.Trees.{Trees, none, tree, trees_count}
use Rattle.ged_value.specs.declared.kind.Kind.{Kind}
use Rattle.ged_value.specs.declared.kind.Kind.TheVariants.{Version}
use Rattle.ged_schema.specs.declared.context.Context.{Context}
use Rattle.ged_schema.specs.declared.context.Context.TheVariants.{File}
use Rattle.ged_schema.specs.declared.fault.SchemaFault.{SchemaFault}
use Rattle.ged_schema.specs.declared.fault.SchemaFault.TheVariants.{WrongVersion, BadPayload, WrongTarget, TooMany, Missing}
use Rattle.ged_schema.specs.declared.fault.FaultPlace.{FaultPlace}
use Rattle.ged_schema.specs.declared.fault.SchemaAt.{SchemaAt}
use Rattle.ged_schema.specs.Rows.{Row}
use Rattle.ged_schema.specs.Tables.{rows, row, context_below}
use Rattle.ged_schema.specs.Payloads.{FitsRow}
use Rattle.ged_value.specs.Kinds.{target}
use Rattle.ged_schema.specs.Checked.{PointsRight, count_of, CountsRight, MeetsRow, AreChecked}
use Rattle.ged_tree.specs.Places.{line_at}

abbrev pub fault_at : ℕ → SchemaFault → FaultPlace
fault_at place fault = record { place = place; fault = fault }

-- the fault of a payload that is not of the kind
abbrev pub payload_fault : Kind → SchemaFault
payload_fault Version = WrongVersion
payload_fault kind = BadPayload

-- of trees side by side, the first of which stands at a place, the one at the other place has the tag, and so many
-- before it have the tag
abbrev pub StandsAfter : Bytes → ℕ → ℕ → Trees → ℕ → Type 0
StandsAfter tag before place none at = ⊥
StandsAfter tag zero place (tree s below next) at =
    ((s.tag ≡ tag) × (at ≡ place))
    ⊎ ((s.tag ≢ tag) × StandsAfter tag zero (place + 1 + trees_count below) next at)
StandsAfter tag (suc before) place (tree s below next) at =
    ((s.tag ≡ tag) × StandsAfter tag before (place + 1 + trees_count below) next at)
    ⊎ ((s.tag ≢ tag) × StandsAfter tag (suc before) (place + 1 + trees_count below) next at)

-- the first of the trees that is more than the greatest number stands at the place
abbrev pub IsOneTooMany : Bytes → Option ℕ → ℕ → Trees → ℕ → Type 0
IsOneTooMany tag None place trees at = ⊥
IsOneTooMany tag (Some most) place trees at = StandsAfter tag most place trees at

-- below the structure at the place stand fewer structures with the row's tag than the row asks for, or one too many
abbrev pub CountFault : ℕ → Trees → Row → FaultPlace → Type 0
CountFault place below r f =
    ((count_of r.tag below < r.least) × (f ≡ fault_at place Missing))
    ⊎ ((r.least ≤ count_of r.tag below) × (at : ℕ) × IsOneTooMany r.tag r.most (place + 1) below at × (f ≡ fault_at at TooMany))

-- the first of the rows that has such a fault has this one
abbrev pub FirstCountFault : ℕ → Trees → List Row → FaultPlace → Type 0
FirstCountFault place below [] f = ⊥
FirstCountFault place below (r ∷ rs) f = CountFault place below r f ⊎ (CountsRight below r × FirstCountFault place below rs f)

-- the structure at the place, with this row and payload, has this fault: in its payload, its target or the numbers of
-- its substructures
abbrev pub OwnFault : Trees → ℕ → Option Row → Payload → Trees → FaultPlace → Type 0
OwnFault d place None payload below f = ⊥
OwnFault d place (Some r) payload below f =
    (¬ (FitsRow (Some r) payload) × (f ≡ fault_at place (payload_fault r.kind)))
    ⊎ (FitsRow (Some r) payload
    × ((¬ (PointsRight d (target r.kind) payload) × (f ≡ fault_at place WrongTarget))
    ⊎ (PointsRight d (target r.kind) payload × FirstCountFault place below (rows r.below) f)))

-- the first fault of trees that stand in a context, the first of them at the place
abbrev pub FirstFault : Trees → Context → ℕ → Trees → FaultPlace → Type 0
FirstFault d context place none f = ⊥
FirstFault d context place (tree s below next) f =
    OwnFault d place (row context s.tag) s.payload below f
    ⊎ (MeetsRow d (row context s.tag) s.payload below
    × (FirstFault d (context_below context s.tag) (place + 1) below f
    ⊎ (AreChecked d (context_below context s.tag) below
    × FirstFault d context (place + 1 + trees_count below) next f)))

-- the first fault of the document, told with the line of its structure
abbrev pub IsFirstFault : Trees → SchemaAt → Type 0
IsFirstFault d at = (f : FaultPlace) × FirstFault d File 0 d f × (at ≡ record { line = line_at 1 d f.place; fault = f.fault })
