-- The words of enumeration sets (FamilySearch GEDCOM 7.0, "Enumeration Values").
use Rattle.std.specs.Prelude.{Bool, List, [], ◌∷◌, ◌||◌, codes}
use Rattle.ged_value.specs.Words.{Bytes, is_one_of, is_integer, is_standard_tag, is_extension_tag}

abbrev pub sexes : List Bytes
sexes = codes "M" ∷ codes "F" ∷ codes "X" ∷ codes "U" ∷ []

-- how a child belongs to a family
abbrev pub pedigrees : List Bytes
pedigrees = codes "ADOPTED" ∷ codes "BIRTH" ∷ codes "FOSTER" ∷ codes "SEALING" ∷ codes "OTHER" ∷ []

-- how certain it is that a child belongs to a family
abbrev pub statuses : List Bytes
statuses = codes "CHALLENGED" ∷ codes "DISPROVEN" ∷ codes "PROVEN" ∷ []

abbrev pub name_types : List Bytes
name_types = codes "AKA" ∷ codes "BIRTH" ∷ codes "IMMIGRANT" ∷ codes "MAIDEN" ∷ codes "MARRIED" ∷ codes "PROFESSIONAL" ∷ codes "OTHER" ∷ []

abbrev pub restrictions : List Bytes
restrictions = codes "CONFIDENTIAL" ∷ codes "LOCKED" ∷ codes "PRIVACY" ∷ []

-- a word of a set, each of which is open to extension tags
abbrev pub is_of_set : List Bytes → Bytes → Bool
is_of_set set word = is_one_of set word || is_extension_tag word

-- what may be a word of some set: a standard tag, digits or an extension tag
abbrev pub is_of_any_set : Bytes → Bool
is_of_any_set word = is_standard_tag word || (is_integer word || is_extension_tag word)
