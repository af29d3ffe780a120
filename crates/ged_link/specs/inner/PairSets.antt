-- Nothing here need be believed: only private contracts and proofs cite it.
-- The links of a document as pairs of places; only private functions cite this.
use Rattle.std.specs.Prelude.{◌≡◌, ℕ, ◌<◌, Bool, true, ◌||◌, List, Option, Some, slice_get}
use Rattle.std.specs.List.{list_any}
use Rattle.std.specs.List.Sorted.{IsSorted}
use Rattle.std.specs.Ordering.{nat_cmp, ordering_then}
use Rattle.std.specs.declared.cmp.Ordering.{Ordering}
use Rattle.ged_line.specs.Bytes.{Bytes}
use Rattle.ged_tree.specs.Trees.{Trees}
use Rattle.ged_link.specs.inner.LinkWalks.{pair_eq, has_pair}
use Rattle.ged_link.specs.declared.link_lists.Links.{Links}
use Rattle.ged_link.specs.declared.link_lists.LinkLists.{LinkLists}
use Rattle.ged_link.specs.declared.pairs.Role.{Role}
use Rattle.ged_link.specs.declared.pairs.Role.TheVariants.{Partner, Child}

-- whether a pair is one of them
abbrev pub is_listed : List (ℕ × ℕ) → ℕ × ℕ → Bool
is_listed links pair = list_any (pair_eq pair) links

-- whether a pair is one of the links of a role
abbrev pub is_linked : Links → ℕ × ℕ → Bool
is_linked links pair = is_listed links.pairs.items pair || is_listed links.wide.items pair

-- by the first place, then by the second
abbrev pub pair_cmp : ℕ × ℕ → ℕ × ℕ → Ordering
pair_cmp x y = ordering_then (nat_cmp x.0 y.0) (nat_cmp x.1 y.1)

abbrev pub IsInOrder : List (ℕ × ℕ) → Type 0
IsInOrder links = IsSorted pair_cmp links

abbrev pub AreLinksInOrder : Links → Type 0
AreLinksInOrder links = IsInOrder links.pairs.items × IsInOrder links.wide.items

abbrev pub AreInOrder : LinkLists → Type 0
AreInOrder lists = AreLinksInOrder lists.partners × AreLinksInOrder lists.children

-- each pair before an index is told the other way round too
abbrev pub AreAnsweredBefore : List (ℕ × ℕ) → ℕ → Type 0
AreAnsweredBefore links index = (i : ℕ) (x y : ℕ) → i < index → slice_get links i ≡ Some (x, y) → is_listed links (y, x) ≡ true

-- whether the record at the first place of a pair points to the one at the second, by the links
abbrev pub lists_have : LinkLists → Role → ℕ × ℕ → Bool
lists_have lists Partner pair = is_linked lists.partners pair
lists_have lists Child pair = is_linked lists.children pair

-- the links are the document's
abbrev pub AreLinks : (Bytes → Option ℕ) → Trees → LinkLists → Type 0
AreLinks find d lists = (role : Role) (pair : ℕ × ℕ) → lists_have lists role pair ≡ has_pair find role 0 d pair

-- each record that is pointed to points back
abbrev pub AreAnswered : LinkLists → Type 0
AreAnswered lists = (role : Role) (x y : ℕ) → lists_have lists role (x, y) ≡ true → lists_have lists role (y, x) ≡ true
