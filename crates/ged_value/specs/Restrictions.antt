-- Lists of restrictions (FamilySearch GEDCOM 7.0, "List").
use Rattle.std.specs.Prelude.{◌≡◌, Bool, List, [], ◌∷◌, ◌++◌, ◌&&◌, ◌==◌, IsTrue}
use Rattle.std.specs.List.{list_all}
use Rattle.ged_value.specs.Words.{Bytes}
use Rattle.ged_value.specs.Enumerations.{is_of_set, restrictions}

abbrev pub are_spaces : Bytes → Bool
are_spaces text = list_all (λ b. b == 32) text

-- one or more items, with a comma between neighbours and any number of spaces before and after it
abbrev pub SpellsList : List Bytes → Bytes → Type 0
SpellsList [] text = ⊥
SpellsList (item ∷ []) text = text ≡ item
SpellsList (item ∷ next ∷ items) text =
    (before : Bytes) × (after : Bytes) × (rest : Bytes) × IsTrue (are_spaces before && are_spaces after)
    × (text ≡ item ++ (before ++ (44 ∷ (after ++ rest)))) × SpellsList (next ∷ items) rest

-- each item is a restriction
abbrev pub RestrictionsText : List Bytes → Bytes → Type 0
RestrictionsText items text = IsTrue (list_all (is_of_set restrictions) items) × SpellsList items text
