-- Nothing here need be believed: only private contracts and proofs cite it.
-- What the walks over links find, as lists and tests; only private functions cite this. A function finds the place of the
-- record that has an identifier.
use Rattle.std.specs.Prelude.{ℕ, ◌+◌, Bool, true, false, ◌&&◌, ◌||◌, not, cond, nat_eq, List, [], ◌∷◌, ◌++◌, Option, Some, None, codes}
use Rattle.std.specs.Str.{bytes_eq}
use Rattle.ged_line.specs.Bytes.{Bytes}
use Rattle.ged_tree.specs.Trees.{Structure, Trees, none, tree, trees_count}
use Rattle.ged_tree.specs.Places.{structure_at}
use Rattle.ged_tree.specs.declared.payload.Payload.{Payload}
use Rattle.ged_tree.specs.declared.payload.Payload.TheVariants.{Void, Pointer, Text}
use Rattle.ged_link.specs.declared.pairs.Role.{Role}
use Rattle.ged_link.specs.declared.pairs.Role.TheVariants.{Partner, Child}

abbrev pub pair_eq : ℕ × ℕ → ℕ × ℕ → Bool
pair_eq x y = nat_eq x.0 y.0 && nat_eq x.1 y.1

-- the role of the person that a structure with a tag tells, directly under a record with a tag
abbrev pub role_under : Bytes → Bytes → Option Role
role_under at tag =
    cond (bytes_eq at (codes "INDI"))
    (cond (bytes_eq tag (codes "FAMS")) (Some Partner) (cond (bytes_eq tag (codes "FAMC")) (Some Child) None))
    (cond (bytes_eq at (codes "FAM"))
    (cond (bytes_eq tag (codes "HUSB") || bytes_eq tag (codes "WIFE")) (Some Partner) (cond (bytes_eq tag (codes "CHIL")) (Some Child) None))
    None)

abbrev pub role_eq : Role → Role → Bool
role_eq Partner Partner = true
role_eq Partner Child = false
role_eq Child Partner = false
role_eq Child Child = true

abbrev pub is_role : Role → Option Role → Bool
is_role role None = false
is_role role (Some other) = role_eq role other

-- the place of the record that a pointer names
abbrev pub target : (Bytes → Option ℕ) → Payload → Option ℕ
target find Void = None
target find (Pointer name) = find name
target find (Text lines) = None

abbrev pub is_place : Option ℕ → ℕ → Bool
is_place None place = false
is_place (Some other) place = nat_eq place other

-- the place of the record that a structure under a record with a tag points to, where it tells the role
abbrev pub linked : (Bytes → Option ℕ) → Role → Bytes → Structure → Option ℕ
linked find role at s = cond (is_role role (role_under at s.tag)) (target find s.payload) None

-- whether one of the structures directly under a record with a tag tells the role and points to the record at a place
abbrev pub has_link_to : (Bytes → Option ℕ) → Role → Bytes → ℕ → Trees → Bool
has_link_to find role at place none = false
has_link_to find role at place (tree s below next) = is_place (linked find role at s) place || has_link_to find role at place next

-- whether the record at the first place of a pair, among those of trees from a place on, links to the one at the second
abbrev pub has_pair : (Bytes → Option ℕ) → Role → ℕ → Trees → ℕ × ℕ → Bool
has_pair find role place none pair = false
has_pair find role place (tree s below next) pair =
    (nat_eq pair.0 place && has_link_to find role s.tag pair.1 below) || has_pair find role (place + 1 + trees_count below) next pair

-- the tag of the records that the links of persons, or of families, lead to
abbrev pub other_tag : Bytes → Bytes
other_tag at = cond (bytes_eq at (codes "INDI")) (codes "FAM") (codes "INDI")

-- whether the other record has the tag that the links of the first one, which has a tag, lead to, and doesn't link back
abbrev pub is_unanswered : (Bytes → Option ℕ) → Trees → Role → Bytes → ℕ → Option ℕ → Bool
is_unanswered find d role at from None = false
is_unanswered find d role at from (Some other) = bytes_eq (structure_at d other).tag (other_tag at) && not (has_pair find role 0 d (other, from))

-- whether a structure directly under the record at a place, which has the tag, is a link in one direction only
abbrev pub is_one_way_for : (Bytes → Option ℕ) → Trees → Option Role → Bytes → ℕ → Structure → Bool
is_one_way_for find d None at from s = false
is_one_way_for find d (Some role) at from s = is_unanswered find d role at from (target find s.payload)

abbrev pub is_one_way : (Bytes → Option ℕ) → Trees → Bytes → ℕ → Structure → Bool
is_one_way find d at from s = is_one_way_for find d (role_under at s.tag) at from s

-- the places of those that are, of structures directly under the record, the first of which stands at a place
abbrev pub one_way_below : (Bytes → Option ℕ) → Trees → Bytes → ℕ → ℕ → Trees → List ℕ
one_way_below find d at from place none = []
one_way_below find d at from place (tree s below next) =
    cond (is_one_way find d at from s) (place ∷ []) [] ++ one_way_below find d at from (place + 1 + trees_count below) next

-- the places of those that are, of records, the first of which stands at a place
abbrev pub one_way_places : (Bytes → Option ℕ) → Trees → ℕ → Trees → List ℕ
one_way_places find d place none = []
one_way_places find d place (tree s below next) =
    one_way_below find d s.tag place (place + 1) below ++ one_way_places find d (place + 1 + trees_count below) next
