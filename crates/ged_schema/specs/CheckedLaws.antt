-- A law of what the structure tables and the profiles ask, the contract of a public function.
use Rattle.std.specs.Prelude.{◌⊎◌}
use Rattle.ged_tree.specs.Trees.{Trees}
use Rattle.ged_schema.specs.declared.fault.SchemaAt.{SchemaAt}
use Rattle.ged_schema.specs.declared.profile.Profile.{Profile}
use Rattle.ged_schema.specs.Profiles.{CheckedAs, IsFirstFaultAs}

-- a document is as a profile asks, or it has a first fault under it
abbrev pub CheckedOrFault : Type 0
CheckedOrFault = (profile : Profile) (d : Trees) → CheckedAs profile d ⊎ ((at : SchemaAt) × IsFirstFaultAs profile d at)
