-- The numbers and names by which faults are told.
use Rattle.std.specs.Prelude.{◌==◌, ℕ, List, [], ◌∷◌, Option, Some, None, codes, if◌then◌else◌}
use Rattle.std.specs.Str.{bytes_eq}
use Rattle.ged_line.specs.Bytes.{Bytes}
use Rattle.ged_faults.specs.declared.faults.FileFault.{FileFault}
use Rattle.ged_faults.specs.declared.faults.FileFault.TheVariants.{NotUtf8, BannedCharacter, EmptyLine, BadLevel, LevelTooLarge, BadXref, BadTag, BadValue, LevelJump, XrefNotAllowed, MisplacedCont, NoHeader, SecondHeader, TrailerNotEmpty, AfterTrailer, NoTrailer, DuplicateXref, DanglingPointer, WrongVersion, BadPayload, WrongTarget, TooMany, Missing, OneWayLink, UnlistedTag}
use Rattle.ged_faults.specs.declared.faults.Fault.{Fault}
use Rattle.ged_faults.specs.declared.faults.Fault.TheVariants.{InFile, TooLong, ReadFailed, WriteFailed, Memory}
use Rattle.ged_faults.specs.Faults.{fault_number}
use Rattle.ged_explain.specs.declared.faults.Meaning.{Meaning}

-- the name of a fault of the file
abbrev pub file_fault_name : FileFault → Bytes
file_fault_name NotUtf8 = codes "NotUtf8"
file_fault_name BannedCharacter = codes "BannedCharacter"
file_fault_name EmptyLine = codes "EmptyLine"
file_fault_name BadLevel = codes "BadLevel"
file_fault_name LevelTooLarge = codes "LevelTooLarge"
file_fault_name BadXref = codes "BadXref"
file_fault_name BadTag = codes "BadTag"
file_fault_name BadValue = codes "BadValue"
file_fault_name LevelJump = codes "LevelJump"
file_fault_name XrefNotAllowed = codes "XrefNotAllowed"
file_fault_name MisplacedCont = codes "MisplacedCont"
file_fault_name NoHeader = codes "NoHeader"
file_fault_name SecondHeader = codes "SecondHeader"
file_fault_name TrailerNotEmpty = codes "TrailerNotEmpty"
file_fault_name AfterTrailer = codes "AfterTrailer"
file_fault_name NoTrailer = codes "NoTrailer"
file_fault_name DuplicateXref = codes "DuplicateXref"
file_fault_name DanglingPointer = codes "DanglingPointer"
file_fault_name WrongVersion = codes "WrongVersion"
file_fault_name BadPayload = codes "BadPayload"
file_fault_name WrongTarget = codes "WrongTarget"
file_fault_name TooMany = codes "TooMany"
file_fault_name Missing = codes "Missing"
file_fault_name OneWayLink = codes "OneWayLink"
file_fault_name UnlistedTag = codes "UnlistedTag"

-- the name of a fault
abbrev pub fault_name : Fault → Bytes
fault_name (InFile line kind) = file_fault_name kind
fault_name TooLong = codes "TooLong"
fault_name ReadFailed = codes "ReadFailed"
fault_name WriteFailed = codes "WriteFailed"
fault_name (Memory error) = codes "Memory"

-- a fault's number and its name
pub record Named : Type 0 where
  pub number : ℕ
  pub name : Bytes

abbrev pub named_fault : Fault → Named
named_fault fault = record { number = fault_number fault; name = fault_name fault }

-- what the table has of a fault's number and name
abbrev pub as_named : Meaning → Named
as_named meaning = record { number = meaning.number; name = meaning.name.now }

abbrev pub in_file : FileFault → Named
in_file kind = named_fault (InFile 1 kind)

-- numbers and names of all faults, by the order of their numbers; a fault of memory has no part that counts here
unfoldable pub named_faults : List Named
named_faults =
    in_file NotUtf8 ∷ in_file BannedCharacter ∷ in_file EmptyLine ∷ in_file BadLevel ∷ in_file LevelTooLarge
    ∷ in_file BadXref ∷ in_file BadTag ∷ in_file BadValue ∷ in_file LevelJump ∷ in_file XrefNotAllowed
    ∷ in_file MisplacedCont ∷ in_file NoHeader ∷ in_file SecondHeader ∷ in_file TrailerNotEmpty
    ∷ in_file AfterTrailer ∷ in_file NoTrailer ∷ in_file DuplicateXref ∷ in_file DanglingPointer
    ∷ in_file WrongVersion ∷ in_file BadPayload ∷ in_file WrongTarget ∷ in_file TooMany ∷ in_file Missing
    ∷ named_fault TooLong ∷ named_fault ReadFailed ∷ named_fault WriteFailed
    ∷ record { number = 27; name = codes "Memory" }
    ∷ in_file OneWayLink ∷ in_file UnlistedTag ∷ []

-- the first of some that has a number
abbrev pub with_number : ℕ → List Named → Option Named
with_number number [] = None
with_number number (named ∷ others) = if named.number == number then Some named else with_number number others

-- the first of some that has a name
abbrev pub with_name : Bytes → List Named → Option Named
with_name name [] = None
with_name name (named ∷ others) = if bytes_eq named.name name then Some named else with_name name others
