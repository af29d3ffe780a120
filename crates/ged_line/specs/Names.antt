-- Tags and cross-reference identifiers (FamilySearch GEDCOM 7.0, "Lines").
use Rattle.std.specs.Prelude.{Bool, false, ◌||◌, ◌&&◌, ◌==◌, [], ◌∷◌, not, cond, length, codes}
use Rattle.std.specs.List.{list_all}
use Rattle.std.specs.Ordering.{nat_cmp}
use Rattle.std.specs.Cmp.Lexicographic.{slice_cmp}
use Rattle.std.specs.declared.cmp.Ordering.{Ordering}
use Rattle.std.specs.declared.cmp.Ordering.TheVariants.{Less, Equal, Greater}
use Rattle.std.specs.Str.{bytes_eq}
use Rattle.ged_line.specs.Bytes.{Bytes}
use Rattle.ged_line.specs.Characters.{is_tag_character}
use Rattle.std.specs.Char.{is_ascii_uppercase}

-- a capital letter and any tag characters
abbrev pub is_standard_tag : Bytes → Bool
is_standard_tag [] = false
is_standard_tag (c ∷ cs) = is_ascii_uppercase c && list_all is_tag_character cs

-- an underscore and one or more tag characters
abbrev pub is_extension_tag : Bytes → Bool
is_extension_tag [] = false
is_extension_tag (c ∷ cs) = (c == 0x5F) && not (length cs == 0) && list_all is_tag_character cs

abbrev pub is_tag : Bytes → Bool
is_tag bytes = is_standard_tag bytes || is_extension_tag bytes

-- the name of a cross-reference identifier, without its @: one or more tag characters, but not VOID
abbrev pub is_xref : Bytes → Bool
is_xref bytes = not (length bytes == 0) && not (bytes_eq bytes (codes "VOID")) && list_all is_tag_character bytes

-- the order of tags among siblings: GEDC before every other tag, then by bytes
abbrev pub tag_order : Bytes → Bytes → Ordering
tag_order a b =
    cond (bytes_eq a (codes "GEDC"))
    (cond (bytes_eq b (codes "GEDC")) Equal Less)
    (cond (bytes_eq b (codes "GEDC")) Greater (slice_cmp nat_cmp a b))
