-- The faults of a piece of a file: why it is no line (FamilySearch GEDCOM 7.0, "Lines").
use Rattle.std.specs.Prelude.{◌≡◌, codes, ℕ, Bool, true, false, ◌<◌, ◌==◌, ◌&&◌, if◌then◌else◌, ◌+◌, ◌-◌, ◌*◌, [], ◌∷◌, ◌++◌, ◌⊎◌, length}
use Rattle.std.specs.List.{before_first, list_all}
use Rattle.std.specs.Str.{is_utf8}
use Rattle.ged_line.specs.Bytes.{Bytes, space, at_sign}
use Rattle.ged_line.specs.Characters.{has_banned}
use Rattle.std.specs.Char.{is_ascii_digit}
use Rattle.ged_line.specs.Names.{is_tag, is_xref}
use Rattle.ged_line.specs.declared.fault.LineFault.{LineFault}
use Rattle.ged_line.specs.declared.fault.LineFault.TheVariants.{NotUtf8, BannedCharacter, EmptyLine, BadLevel, LevelTooLarge, BadXref, BadTag, BadValue}

-- 0, or a digit from 1 to 9 and any digits
abbrev pub is_level : Bytes → Bool
is_level [] = false
is_level (d ∷ ds) = if d == 0x30 then length ds == 0 else is_ascii_digit d && list_all is_ascii_digit ds

-- the number that digits spell after those of n
abbrev pub number_after : ℕ → Bytes → ℕ
number_after n [] = n
number_after n (d ∷ ds) = number_after (n * 10 + (d - 0x30)) ds

-- the piece is a level's digits, a space and the rest
pub record AfterLevel (piece digits rest : Bytes) : Type 0 where
  pub digits_are : is_level digits ≡ true
  pub spelled : piece ≡ digits ++ space ∷ rest

-- the bytes begin with this one
abbrev pub BeginsWith : ℕ → Bytes → Type 0
BeginsWith c bytes = (rest : Bytes) × (bytes ≡ c ∷ rest)

-- the bytes are a cross-reference identifier, a space and the rest
pub record AfterXref (bytes name rest : Bytes) : Type 0 where
  pub name_is : is_xref name ≡ true
  pub spelled : bytes ≡ at_sign ∷ name ++ at_sign ∷ space ∷ rest

-- the rest of the piece from the tag on, behind the level and a cross-reference identifier, if one stands there
abbrev pub FromTag : Bytes → Bytes → Type 0
FromTag piece rest = (digits bytes : Bytes) × AfterLevel piece digits bytes
    × (((bytes ≡ rest) × ¬ (BeginsWith at_sign bytes)) ⊎ ((name : Bytes) × AfterXref bytes name rest))

-- what stands up to a space or the end
abbrev pub word : Bytes → Bytes
word bytes = before_first (λ c. c == space) bytes

-- the bytes are a pointer, the void one among them
abbrev pub IsPointer : Bytes → Type 0
IsPointer bytes = (name : Bytes) × ((is_xref name ≡ true) ⊎ (name ≡ codes "VOID")) × (bytes ≡ at_sign ∷ name ++ at_sign ∷ [])

-- the fault stands at the piece
abbrev pub StandsAt : LineFault → Bytes → Type 0
StandsAt NotUtf8 piece = is_utf8 piece ≡ false
StandsAt BannedCharacter piece = has_banned piece ≡ true
StandsAt EmptyLine piece = piece ≡ []
-- no level with a space after it stands at its start
StandsAt BadLevel piece = (digits rest : Bytes) → ¬ (AfterLevel piece digits rest)
StandsAt LevelTooLarge piece = (digits rest : Bytes) × AfterLevel piece digits rest × (99 < number_after 0 digits)
-- an @ stands after the level's space, but no identifier with a space after it
StandsAt BadXref piece = (digits bytes : Bytes) × AfterLevel piece digits bytes × BeginsWith at_sign bytes
    × ((name rest : Bytes) → ¬ (AfterXref bytes name rest))
-- what then stands up to a space or the end is no tag
StandsAt BadTag piece = (rest : Bytes) × FromTag piece rest × (is_tag (word rest) ≡ false)
-- the value begins with an @, is no pointer, and its second character is no @
StandsAt BadValue piece = (tag value : Bytes) × FromTag piece (tag ++ space ∷ at_sign ∷ value) × (is_tag tag ≡ true)
    × ¬ (IsPointer (at_sign ∷ value)) × ¬ (BeginsWith at_sign value)

-- the faults are numbered in the order in which they are told
abbrev pub line_fault_number : LineFault → ℕ
line_fault_number NotUtf8 = 1
line_fault_number BannedCharacter = 2
line_fault_number EmptyLine = 3
line_fault_number BadLevel = 4
line_fault_number LevelTooLarge = 5
line_fault_number BadXref = 6
line_fault_number BadTag = 7
line_fault_number BadValue = 8

-- the fault of a piece is the one of the lowest number that stands there
pub record IsFaultOf (fault : LineFault) (piece : Bytes) : Type 0 where
  pub stands : StandsAt fault piece
  pub least : (other : LineFault) → line_fault_number other < line_fault_number fault → ¬ (StandsAt other piece)
