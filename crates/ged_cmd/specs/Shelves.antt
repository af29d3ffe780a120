-- What is asked of a shelf.
use Rattle.std.specs.Prelude.{◌≡◌, List, [], ◌∷◌, ◌++◌, Option, Some, None, ⊤}
use Rattle.clap.specs.Words.{Text}

-- a call of a shelf: to open the file of a name, or to prepare a new file for its place
pub data ShelfCall : Type 0 where
  opening : Text → ShelfCall
  drafting : Text → ShelfCall

-- the calls that were made so far, if they are known, and then these
abbrev pub Calls : (before after : Option (List ShelfCall)) → List ShelfCall → Type 0
Calls None after made = ⊤
Calls (Some before) None made = ⊥
Calls (Some before) (Some after) made = after ≡ before ++ made

-- some calls are made, of which this holds
abbrev pub SomeCalls : (before after : Option (List ShelfCall)) → (List ShelfCall → Type 0) → Type 0
SomeCalls before after holds = (made : List ShelfCall) × Calls before after made × holds made

-- the file is opened, where one is named
abbrev pub opening_named : Option Text → List ShelfCall
opening_named None = []
opening_named (Some name) = opening name ∷ []
