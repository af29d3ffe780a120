-- Nothing here need be believed: only private contracts and proofs cite it.
-- The line of the structure that a path leads to, found from tree to tree; only private functions cite this.
use Rattle.std.specs.Prelude.{ℕ, ◌+◌, ◌-◌, ◌==◌, if◌then◌else◌, List, [], ◌∷◌, Option, Some, None}
use Rattle.ged_tree.specs.Trees.{Trees, none, tree, line_count, lines_count}
use Rattle.ged_tree.specs.declared.payload.Payload.{Payload}

-- the number of a path and those that follow it, where the first of the trees begins on this line
abbrev pub path_line : ℕ → Trees → ℕ → List ℕ → Option ℕ
path_line line none number path = None
path_line line (tree s below next) number [] =
    if number == 0 then Some line
    else path_line (line + (line_count s.payload + lines_count below)) next (number - 1) []
path_line line (tree s below next) number (child ∷ path) =
    if number == 0 then path_line (line + line_count s.payload) below child path
    else path_line (line + (line_count s.payload + lines_count below)) next (number - 1) (child ∷ path)

-- the numbers that follow, where a structure with this payload begins on this line, and these trees stand below it
abbrev pub line_below : ℕ → Payload → Trees → List ℕ → Option ℕ
line_below line payload below [] = Some line
line_below line payload below (child ∷ path) = path_line (line + line_count payload) below child path

-- a whole path
abbrev pub line_of_path : ℕ → Trees → List ℕ → Option ℕ
line_of_path line trees [] = None
line_of_path line trees (number ∷ path) = path_line line trees number path
