-- Where a new file stands, and what it is called, before it takes the place of another.
use Rattle.std.specs.Prelude.{◌≡◌, ◌<◌, ◌==◌, ◌||◌, ◌⊎◌, ℕ, Bool, List, [], ◌∷◌, ◌++◌, codes, decimal, nat_eq}
use Rattle.std.specs.List.{starts_with}
use Rattle.std.specs.Str.{NoCharPasses}

-- what parts the names of a path
abbrev pub slash : ℕ
slash = 0x2F

-- the folder of the file of a path: what stands before its name, which has no slash; empty, or it ends with one
abbrev pub IsFolderOf : (path folder : List ℕ) → Type 0
IsFolderOf path folder = (name : List ℕ) × (path ≡ folder ++ name) × NoCharPasses (λ c. c == slash) name
    × ((folder ≡ []) ⊎ ((front : List ℕ) × (folder ≡ front ++ slash ∷ [])))

-- the path of a new file of this number in a folder
abbrev pub new_path : (folder : List ℕ) → ℕ → List ℕ
new_path folder number = folder ++ (codes ".gedtool-" ++ (decimal number ++ codes ".new"))

-- the path of a new file in the folder of the file of another path, with one of the hundred names that are tried
abbrev pub IsBeside : (path new : List ℕ) → Type 0
IsBeside path new = (folder : List ℕ) × IsFolderOf path folder × ((number : ℕ) × (number < 100) × (new ≡ new_path folder number))

-- a name under which the system shows a file that is open, as /dev/stdout, by how it begins
abbrev pub is_open_name : (name : List ℕ) → Bool
is_open_name name = starts_with nat_eq name (codes "/dev/std") || starts_with nat_eq name (codes "/dev/fd/") || starts_with nat_eq name (codes "/proc/")
