-- The structures of a document by their places, which count from 0 in the order in which a file has them.
use Rattle.std.specs.Prelude.{ℕ, ◌+◌, ◌-◌, ◌==◌, nat_le, if◌then◌else◌, [], None}
use Rattle.ged_tree.specs.Trees.{Structure, Trees, none, tree, trees_count, line_count, lines_count}
use Rattle.ged_tree.specs.declared.payload.Payload.TheVariants.{Void}

-- the tree whose first structure stands at a place, and the trees beside it that follow
abbrev pub trees_from : Trees → ℕ → Trees
trees_from none place = none
trees_from (tree s below next) place =
    if place == 0 then tree s below next
    else if nat_le place (trees_count below) then trees_from below (place - 1)
    else trees_from next (place - 1 - trees_count below)

-- the first structure of trees; of none, an empty one
abbrev pub first_structure : Trees → Structure
first_structure none = record { xref = None; tag = []; payload = Void }
first_structure (tree s below next) = s

-- the trees below the first structure
abbrev pub below_first : Trees → Trees
below_first none = none
below_first (tree s below next) = below

-- the structure at a place
unfoldable pub structure_at : Trees → ℕ → Structure
structure_at trees place = first_structure (trees_from trees place)

-- the trees below the structure at a place
unfoldable pub below_at : Trees → ℕ → Trees
below_at trees place = below_first (trees_from trees place)

-- the first place past a structure and all below it
unfoldable pub place_after : Trees → ℕ → ℕ
place_after trees place = place + 1 + trees_count (below_at trees place)

-- the level of the structure at a place, where the first trees stand at this level
abbrev pub level_at : ℕ → Trees → ℕ → ℕ
level_at level none place = level
level_at level (tree s below next) place =
    if place == 0 then level
    else if nat_le place (trees_count below) then level_at (level + 1) below (place - 1)
    else level_at level next (place - 1 - trees_count below)

-- the line on which the structure at a place begins, where the first structure begins on this line
abbrev pub line_at : ℕ → Trees → ℕ → ℕ
line_at line none place = line
line_at line (tree s below next) place =
    if place == 0 then line
    else if nat_le place (trees_count below) then line_at (line + line_count s.payload) below (place - 1)
    else line_at (line + (line_count s.payload + lines_count below)) next (place - 1 - trees_count below)
