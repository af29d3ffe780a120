-- Names of persons: their parts, and the text that spells them (FamilySearch GEDCOM 7.0, "Personal Name").
use Rattle.std.specs.Prelude.{◌≡◌, Bool, ◌∷◌, ◌++◌, ◌&&◌, ◌==◌, nat_le, not, IsTrue}
use Rattle.std.specs.List.{list_all}
use Rattle.ged_value.specs.Words.{Bytes}

-- a name as one text, or as the texts before, of and behind a surname
pub data NameParts : Type 0 where
  plain : Bytes → NameParts
  parts : Bytes → Bytes → Bytes → NameParts

-- each character is from U+0020 on and isn't `/`
abbrev pub is_name_part : Bytes → Bool
is_name_part text = list_all (λ byte. nat_le 32 byte && not (byte == 47)) text

-- a text without `/`, or three with a `/` before and after the second
abbrev pub NameText : NameParts → Bytes → Type 0
NameText (plain name) text = IsTrue (is_name_part name) × (text ≡ name)
NameText (parts before surname after) text =
    IsTrue (is_name_part before && (is_name_part surname && is_name_part after)) × (text ≡ before ++ (47 ∷ (surname ++ (47 ∷ after))))
