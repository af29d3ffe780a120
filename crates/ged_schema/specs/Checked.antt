-- What the structure tables ask of a document (FamilySearch GEDCOM 7.0, "Structure Organization").
use Rattle.std.specs.Prelude.{◌≡◌, ℕ, ◌+◌, ◌≤◌, cond, Option, Some, None, IfSome, ⊤}
use Rattle.std.specs.Str.{bytes_eq}
use Rattle.std.specs.List.{AllByRecursion}
use Rattle.ged_line.specs.Bytes.{Bytes}
use Rattle.ged_tree.specs.declared.payload.Payload.{Payload}
use Rattle.ged_tree.specs.declared.payload.Payload.TheVariants.{Pointer}
use Rattle.ged_tree.specs.Trees.{Trees, none, tree}
use Rattle.ged_link.specs.Links.{SomeTree}
use Rattle.ged_schema.specs.declared.context.Context.{Context}
use Rattle.ged_schema.specs.declared.context.Context.TheVariants.{File}
use Rattle.ged_schema.specs.Rows.{Row}
use Rattle.ged_schema.specs.Tables.{rows, row, context_below}
use Rattle.ged_schema.specs.Payloads.{FitsRow}
use Rattle.ged_value.specs.Kinds.{target}

-- where a tag is named, a pointer leads to a record of the document with that tag
abbrev pub PointsRight : Trees → Option Bytes → Payload → Type 0
PointsRight d (Some tag) (Pointer name) = SomeTree (λ s below. (s.xref ≡ Some name) × (s.tag ≡ tag)) d
PointsRight d wanted payload = ⊤

-- how many of the trees side by side have the tag
abbrev pub count_of : Bytes → Trees → ℕ
count_of tag none = 0
count_of tag (tree s below next) = cond (bytes_eq s.tag tag) 1 0 + count_of tag next

-- as many of the trees have the row's tag as the row allows
abbrev pub CountsRight : Trees → Row → Type 0
CountsRight below r = (r.least ≤ count_of r.tag below) × IfSome r.most (λ most. count_of r.tag below ≤ most)

-- a structure with this payload, and these trees below it, is as its row asks; where there is no row nothing is asked
abbrev pub MeetsRow : Trees → Option Row → Payload → Trees → Type 0
MeetsRow d None payload below = ⊤
MeetsRow d (Some r) payload below = FitsRow (Some r) payload × PointsRight d (target r.kind) payload × AllByRecursion (CountsRight below) (rows r.below)

-- each structure of the trees, which stand in the context, is as its row asks
abbrev pub AreChecked : Trees → Context → Trees → Type 0
AreChecked d context none = ⊤
AreChecked d context (tree s below next) =
    MeetsRow d (row context s.tag) s.payload below
    × AreChecked d (context_below context s.tag) below
    × AreChecked d context next

-- each structure of the document is as its row asks
abbrev pub Checked : Trees → Type 0
Checked d = AreChecked d File d
