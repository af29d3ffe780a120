-- Each fault is found in the table by its number.
use Rattle.std.proofs.Common.{◌≡◌, ℕ, Some, refl}
use Rattle.ged_faults.specs.declared.faults.FileFault.{FileFault}
use Rattle.ged_faults.specs.declared.faults.FileFault.TheVariants.{NotUtf8, BannedCharacter, EmptyLine, BadLevel, LevelTooLarge, BadXref, BadTag, BadValue, LevelJump, XrefNotAllowed, MisplacedCont, NoHeader, SecondHeader, TrailerNotEmpty, AfterTrailer, NoTrailer, DuplicateXref, DanglingPointer, WrongVersion, BadPayload, WrongTarget, TooMany, Missing, OneWayLink, UnlistedTag}
use Rattle.ged_faults.specs.declared.faults.Fault.{Fault}
use Rattle.ged_faults.specs.declared.faults.Fault.TheVariants.{InFile, TooLong, ReadFailed, WriteFailed, Memory}
use Rattle.ged_faults.specs.Faults.{fault_number}
use Rattle.ged_explain.specs.Names.{named_fault, named_faults, with_number}

pub numbered_in_file : (line : ℕ) (kind : FileFault) → with_number (fault_number (InFile line kind)) named_faults ≡ Some (named_fault (InFile line kind))
unfolding named_faults
numbered_in_file line NotUtf8 = refl
numbered_in_file line BannedCharacter = refl
numbered_in_file line EmptyLine = refl
numbered_in_file line BadLevel = refl
numbered_in_file line LevelTooLarge = refl
numbered_in_file line BadXref = refl
numbered_in_file line BadTag = refl
numbered_in_file line BadValue = refl
numbered_in_file line LevelJump = refl
numbered_in_file line XrefNotAllowed = refl
numbered_in_file line MisplacedCont = refl
numbered_in_file line NoHeader = refl
numbered_in_file line SecondHeader = refl
numbered_in_file line TrailerNotEmpty = refl
numbered_in_file line AfterTrailer = refl
numbered_in_file line NoTrailer = refl
numbered_in_file line DuplicateXref = refl
numbered_in_file line DanglingPointer = refl
numbered_in_file line WrongVersion = refl
numbered_in_file line BadPayload = refl
numbered_in_file line WrongTarget = refl
numbered_in_file line TooMany = refl
numbered_in_file line Missing = refl
numbered_in_file line OneWayLink = refl
numbered_in_file line UnlistedTag = refl

pub numbered_fault : (fault : Fault) → with_number (fault_number fault) named_faults ≡ Some (named_fault fault)
unfolding named_faults
numbered_fault (InFile line kind) = numbered_in_file line kind
numbered_fault TooLong = refl
numbered_fault ReadFailed = refl
numbered_fault WriteFailed = refl
numbered_fault (Memory error) = refl
