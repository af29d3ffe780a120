-- Structures with a standard tag that the tables do not list where they stand
-- (FamilySearch GEDCOM 7.0, "Structure Organization").
use Rattle.std.specs.Prelude.{◌≡◌, ◌≢◌, ℕ, ◌+◌, true, List, None, ◌⊎◌, ◌↔◌, map}
use Rattle.ged_line.specs.Bytes.{Bytes}
use Rattle.ged_line.specs.Names.{is_standard_tag}
use Rattle.ged_tree.specs.Trees.{Trees, none, tree, trees_count}
use Rattle.ged_tree.specs.Places.{line_at}
use Rattle.ged_link.specs.Links.{IsAmong}
use Rattle.ged_link.specs.Notices.{AreRising}
use Rattle.ged_link.specs.declared.notices.Notice.{Notice}
use Rattle.ged_link.specs.declared.notices.NoticeKind.TheVariants as kinds
use Rattle.ged_schema.specs.declared.context.Context.{Context}
use Rattle.ged_schema.specs.declared.context.Context.TheVariants.{File, Unchecked}
use Rattle.ged_schema.specs.declared.notices.Coverage.{Coverage}
use Rattle.ged_schema.specs.declared.notices.Coverage.TheVariants.{Whole, Partial}
use Rattle.ged_schema.specs.Tables.{row, context_below}

-- a standard tag that has no row in the context, where the tables say what may stand
abbrev pub IsUnlisted : Context → Bytes → Type 0
IsUnlisted context tag = (is_standard_tag tag ≡ true) × (context ≢ Unchecked) × (row context tag ≡ None)

-- some structure of the trees, which stand in the context, has an unlisted tag
abbrev pub Unlisted : Context → Trees → Type 0
Unlisted context none = ⊥
Unlisted context (tree s below next) =
    IsUnlisted context s.tag
    ⊎ (Unlisted (context_below context s.tag) below ⊎ Unlisted context next)

-- the tables list each standard tag of a document where they say what may stand, or they leave one out
abbrev pub IsCoverage : Trees → Coverage → Type 0
IsCoverage d Whole = ¬ (Unlisted File d)
IsCoverage d Partial = Unlisted File d

-- the structure at a place has an unlisted tag, where the trees stand in the context and the first of them at start
abbrev pub UnlistedFrom : Context → ℕ → Trees → ℕ → Type 0
UnlistedFrom context start none place = ⊥
UnlistedFrom context start (tree s below next) place =
    (IsUnlisted context s.tag × (place ≡ start))
    ⊎ (UnlistedFrom (context_below context s.tag) (start + 1) below place
    ⊎ UnlistedFrom context (start + 1 + trees_count below) next place)

-- the structure at a place of the document has an unlisted tag
abbrev pub UnlistedAt : Trees → ℕ → Type 0
UnlistedAt d place = UnlistedFrom File 0 d place

-- the places of the structures with unlisted tags, and of nothing else, in the order of the file
pub record AreUnlisted (d : Trees) (places : List ℕ) : Type 0 where
  pub rising : AreRising places
  pub each : (place : ℕ) → IsAmong place places ↔ UnlistedAt d place

-- the notice of the structure at a place
abbrev pub unlisted_notice : Trees → ℕ → Notice
unlisted_notice d place = record { line = line_at 1 d place; kind = kinds.Unlisted }

-- the notices of all structures with unlisted tags, and no other, in the order of their lines
abbrev pub AreUnlistedNotices : Trees → List Notice → Type 0
AreUnlistedNotices d notices = (places : List ℕ) × AreUnlisted d places × (notices ≡ map (unlisted_notice d) places)
