-- Nothing here need be believed: only private contracts and proofs cite it.
-- What the walks over a document's trees rest on; only private functions cite this.
use Rattle.std.specs.Prelude.{◌≡◌, ℕ, ◌+◌, ◌<◌, ◌≤◌, Bool, true, ◌&&◌, nat_le, length}
use Rattle.std.specs.List.{list_all}
use Rattle.ged_line.specs.Characters.{is_plain}
use Rattle.ged_line.specs.Lines.{is_line, line_parts}
use Rattle.ged_tree.specs.Trees.{Structure, Trees, none, tree, further_lines}
use Rattle.ged_tree.specs.DocumentLines.{first_value}

-- trees that stand at this level, and whose structures go down to level 99 at most
abbrev pub are_levels : ℕ → Trees → Bool
are_levels level none = true
are_levels level (tree s below next) = nat_le level 99 && (are_levels (level + 1) below && are_levels level next)

-- a structure at this level has its own line, and further lines that may stand one level deeper
pub record HasLinesAt (level : ℕ) (s : Structure) : Type 0 where
  pub shallow : level ≤ 99
  pub own : is_line (line_parts level s.xref s.tag (first_value s.payload)) ≡ true
  pub room : 0 < length (further_lines s.payload) → level < 99
  pub plain : list_all is_plain (further_lines s.payload) ≡ true

-- so has each of the trees
abbrev pub HaveLinesAt : ℕ → Trees → Type 0
HaveLinesAt level none = Unit {0}
HaveLinesAt level (tree s below next) = HasLinesAt level s × HaveLinesAt (level + 1) below × HaveLinesAt level next
