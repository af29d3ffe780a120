-- Links in one direction only between the records of persons and of families (FamilySearch GEDCOM 7.0,
-- "INDIVIDUAL_RECORD" and "FAMILY_RECORD").
use Rattle.std.specs.Prelude.{◌≡◌, ℕ, ◌+◌, ◌<◌, List, [], ◌∷◌, Option, Some, ◌⊎◌, ◌↔◌, ⊤, codes, map}
use Rattle.ged_line.specs.Bytes.{Bytes}
use Rattle.ged_tree.specs.Trees.{Structure, Trees, none, tree, trees_count}
use Rattle.ged_tree.specs.Places.{line_at}
use Rattle.ged_tree.specs.declared.payload.Payload.TheVariants.{Pointer}
use Rattle.ged_link.specs.Links.{IsAmong, SomeTree}
use Rattle.ged_link.specs.declared.notices.Notice.{Notice}
use Rattle.ged_link.specs.declared.notices.NoticeKind.TheVariants as kinds

-- a structure with one of these tags directly under a record of one tag points to a record of another; that one answers by
-- a structure with one of the last tags
pub record Link : Type 0 where
  pub at : Bytes
  pub tag : Bytes
  pub to : Bytes
  pub answers : List Bytes

abbrev pub links : List Link
links =
    record { at = codes "INDI"; tag = codes "FAMS"; to = codes "FAM"; answers = codes "HUSB" ∷ (codes "WIFE" ∷ []) }
    ∷ (record { at = codes "FAM"; tag = codes "HUSB"; to = codes "INDI"; answers = codes "FAMS" ∷ [] }
    ∷ (record { at = codes "FAM"; tag = codes "WIFE"; to = codes "INDI"; answers = codes "FAMS" ∷ [] }
    ∷ (record { at = codes "INDI"; tag = codes "FAMC"; to = codes "FAM"; answers = codes "CHIL" ∷ [] }
    ∷ (record { at = codes "FAM"; tag = codes "CHIL"; to = codes "INDI"; answers = codes "FAMC" ∷ [] }
    ∷ []))))

-- a record of the tag has this name, and no answer directly under it points back to the record with the other identifier
abbrev pub IsUnanswered : Bytes → Option Bytes → Link → Structure → Trees → Type 0
IsUnanswered name xref link s below = (s.xref ≡ Some name) × (s.tag ≡ link.to)
    × (SomeTree (λ t _. IsAmong t.tag link.answers × (back : Bytes) × (xref ≡ Some back) × (t.payload ≡ Pointer back)) below → ⊥)

-- a structure directly under a record with this tag and identifier is a link in one direction only
abbrev pub IsOneWay : Trees → Bytes → Option Bytes → Structure → Trees → Type 0
IsOneWay d at xref s below = (link : Link) × IsAmong link links
    × ((link.at ≡ at) × (link.tag ≡ s.tag) × (name : Bytes) × (s.payload ≡ Pointer name) × SomeTree (IsUnanswered name xref link) d)

-- some link of the document goes in one direction only
abbrev pub OneWay : Trees → Type 0
OneWay d = SomeTree (λ r children. SomeTree (IsOneWay d r.tag r.xref) children) d

-- one of the trees side by side, the first of which stands at this place, has P: its place, its structure and what stands
-- below it
abbrev pub SomeTreeFrom : ℕ → (ℕ → Structure → Trees → Type 0) → Trees → Type 0
SomeTreeFrom place P none = ⊥
SomeTreeFrom place P (tree s below next) = P place s below ⊎ SomeTreeFrom (place + 1 + trees_count below) P next

-- the structure at a place is a link in one direction only
abbrev pub OneWayAt : Trees → ℕ → Type 0
OneWayAt d place =
    SomeTreeFrom 0 (λ start r children. SomeTreeFrom (start + 1) (λ here s below. (here ≡ place) × IsOneWay d r.tag r.xref s below) children) d

-- each number is smaller than all after it
abbrev pub AreRising : List ℕ → Type 0
AreRising [] = ⊤
AreRising (n ∷ ns) = ((other : ℕ) → IsAmong other ns → n < other) × AreRising ns

-- the places of all links in one direction only, and of nothing else, in the order of the file
pub record AreOneWay (d : Trees) (places : List ℕ) : Type 0 where
  pub rising : AreRising places
  pub each : (place : ℕ) → IsAmong place places ↔ OneWayAt d place

-- the notice of the structure at a place
abbrev pub one_way_notice : Trees → ℕ → Notice
one_way_notice d place = record { line = line_at 1 d place; kind = kinds.OneWay }

-- the notices of all links in one direction only, and no other, in the order of their lines
abbrev pub AreOneWayNotices : Trees → List Notice → Type 0
AreOneWayNotices d notices = (places : List ℕ) × AreOneWay d places × (notices ≡ map (one_way_notice d) places)
