-- Nothing here need be believed: only private contracts and proofs cite it.
-- What the tags of pointers tell, by a tag that tells the same.
use Rattle.std.specs.Prelude.{◌≡◌, ℕ, nat_eq, if◌then◌else◌, codes, []}
use Rattle.ged_line.specs.Bytes.{Bytes}
use Rattle.ged_link.specs.LedByTags.{led_by}
use Rattle.ged_link.specs.inner.LinkWalks.{role_under}
use Rattle.ged_link.specs.declared.pointer_tag.PointerTag.{PointerTag}
use Rattle.ged_link.specs.declared.pointer_tag.PointerTag.TheVariants.{Other, Famc, Fams, Spouse, Chil, Person, Sour, Obje, Snote, Subm}

-- one of the tags that tell this
abbrev pub tag_like : PointerTag → Bytes
tag_like Other = []
tag_like Famc = codes "FAMC"
tag_like Fams = codes "FAMS"
tag_like Spouse = codes "HUSB"
tag_like Chil = codes "CHIL"
tag_like Person = codes "ASSO"
tag_like Sour = codes "SOUR"
tag_like Obje = codes "OBJE"
tag_like Snote = codes "SNOTE"
tag_like Subm = codes "SUBM"

-- a tag tells this: to which records a pointer leads, and which role a person has under a record
pub record IsTold (told : PointerTag) (tag : Bytes) : Type 0 where
  pub led : led_by tag ≡ led_by (tag_like told)
  pub role : (at : Bytes) → role_under at tag ≡ role_under at (tag_like told)

-- the number of what a tag tells, which four bits hold
abbrev pub code_of : PointerTag → ℕ
code_of Other = 0
code_of Famc = 1
code_of Fams = 2
code_of Spouse = 3
code_of Chil = 4
code_of Person = 5
code_of Sour = 6
code_of Obje = 7
code_of Snote = 8
code_of Subm = 9

-- what has this number
abbrev pub told_by : ℕ → PointerTag
told_by code =
    if nat_eq code 1 then Famc
    else if nat_eq code 2 then Fams
    else if nat_eq code 3 then Spouse
    else if nat_eq code 4 then Chil
    else if nat_eq code 5 then Person
    else if nat_eq code 6 then Sour
    else if nat_eq code 7 then Obje
    else if nat_eq code 8 then Snote
    else if nat_eq code 9 then Subm
    else Other
