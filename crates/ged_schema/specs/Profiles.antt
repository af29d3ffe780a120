-- What each profile asks of a document: the strict one refuses notices, after all that the structure tables ask
-- (FamilySearch GEDCOM 7.0, "Structure Organization"). Profiles are this project's own.
use Rattle.std.specs.Prelude.{◌≡◌, ◌≤◌, ◌⊎◌}
use Rattle.ged_tree.specs.Trees.{Trees}
use Rattle.ged_tree.specs.Places.{line_at}
use Rattle.ged_link.specs.Notices.{OneWay, OneWayAt}
use Rattle.ged_schema.specs.declared.context.Context.TheVariants.{File}
use Rattle.ged_schema.specs.declared.fault.FaultPlace.{FaultPlace}
use Rattle.ged_schema.specs.declared.fault.SchemaAt.{SchemaAt}
use Rattle.ged_schema.specs.declared.fault.SchemaFault.TheVariants.{OneWayLink, UnlistedTag}
use Rattle.ged_schema.specs.declared.profile.Profile.{Profile}
use Rattle.ged_schema.specs.declared.profile.Profile.TheVariants.{Lenient, Strict}
use Rattle.ged_schema.specs.Checked.{Checked}
use Rattle.ged_schema.specs.Faults.{IsFirstFault}
use Rattle.ged_schema.specs.Unlisted.{Unlisted, UnlistedAt}

-- no link of the document goes in one direction only, and no standard tag stands where the tables do not list it
pub record NoNotice (d : Trees) : Type 0 where
  pub both_ways : ¬ (OneWay d)
  pub all_listed : ¬ (Unlisted File d)

-- the document is as the structure tables ask, and under the strict profile it has no notice
abbrev pub CheckedAs : Profile → Trees → Type 0
CheckedAs Lenient d = Checked d
CheckedAs Strict d = Checked d × NoNotice d

-- the structure at the place gives this notice
abbrev pub IsNotice : Trees → FaultPlace → Type 0
IsNotice d f =
    (OneWayAt d f.place × (f.fault ≡ OneWayLink))
    ⊎ (UnlistedAt d f.place × (f.fault ≡ UnlistedTag))

-- the notice at the lowest line of all, told with its line
abbrev pub IsFirstNotice : Trees → SchemaAt → Type 0
IsFirstNotice d at = (f : FaultPlace) × IsNotice d f
    × ((other : FaultPlace) → IsNotice d other → line_at 1 d f.place ≤ line_at 1 d other.place)
    × (at ≡ record { line = line_at 1 d f.place; fault = f.fault })

-- the first fault of the document under the profile
abbrev pub IsFirstFaultAs : Profile → Trees → SchemaAt → Type 0
IsFirstFaultAs Lenient d at = IsFirstFault d at
IsFirstFaultAs Strict d at = IsFirstFault d at ⊎ (Checked d × IsFirstNotice d at)
