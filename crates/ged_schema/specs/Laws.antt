-- Laws of the structure tables, each the contract of a public function.
use Rattle.std.specs.Prelude.{◌≡◌, ◌≢◌, ◌↔◌, ℕ, List, []}
use Rattle.std.specs.List.{AllPairs}
use Rattle.ged_tree.specs.Trees.{Trees}
use Rattle.ged_tree.specs.Places.{line_at}
use Rattle.ged_link.specs.Notices.{OneWayAt}
use Rattle.ged_link.specs.declared.notices.Notice.{Notice}
use Rattle.ged_schema.specs.declared.context.Context.{Context}
use Rattle.ged_schema.specs.declared.context.Context.TheVariants.{File}
use Rattle.ged_schema.specs.declared.fault.SchemaAt.{SchemaAt}
use Rattle.ged_schema.specs.declared.profile.Profile.{Profile}
use Rattle.ged_schema.specs.Tables.{rows}
use Rattle.ged_schema.specs.Profiles.{CheckedAs, IsFirstFaultAs}
use Rattle.ged_schema.specs.Unlisted.{Unlisted, UnlistedAt, AreUnlistedNotices}

-- no two rows of the context have the same tag
abbrev pub HasDistinctTags : Context → Type 0
HasDistinctTags context = AllPairs (λ r other. r.tag ≢ other.tag) (rows context)

-- a document has one first fault at most, under each profile
abbrev pub OneFirstFault : Type 0
OneFirstFault = (profile : Profile) (d : Trees) (at other : SchemaAt) → IsFirstFaultAs profile d at → IsFirstFaultAs profile d other → at ≡ other

-- a document that is as a profile asks has no first fault under it
abbrev pub NoFaultOfChecked : Type 0
NoFaultOfChecked = (profile : Profile) (d : Trees) (at : SchemaAt) → CheckedAs profile d → ¬ (IsFirstFaultAs profile d at)

-- no line has two notices: a link in one direction only and a structure with an unlisted tag begin on different lines
abbrev pub OneNotice : Type 0
OneNotice = (d : Trees) (place other : ℕ) → OneWayAt d place → UnlistedAt d other → line_at 1 d place ≢ line_at 1 d other

-- some structure of a document has an unlisted tag exactly where the one at some place has
abbrev pub UnlistedHasPlace : Type 0
UnlistedHasPlace = (d : Trees) → Unlisted File d ↔ ((place : ℕ) × UnlistedAt d place)

-- the notices of a document's structures with unlisted tags are one list
abbrev pub OneListing : Type 0
OneListing = (d : Trees) (notices others : List Notice) → AreUnlistedNotices d notices → AreUnlistedNotices d others → notices ≡ others

-- there are none exactly where no structure has an unlisted tag
abbrev pub NoneIsUnlisted : Type 0
NoneIsUnlisted = (d : Trees) (notices : List Notice) → AreUnlistedNotices d notices → (notices ≡ []) ↔ ¬ (Unlisted File d)
