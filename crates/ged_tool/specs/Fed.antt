-- A file that is fed piece by piece, and the fault that its whole lines have before its end has come.
use Rattle.std.specs.Prelude.{◌≡◌, ◌≢◌, ℕ, ◌++◌, Option, Some}
use Rattle.ged_line.specs.Bytes.{Bytes}
use Rattle.ged_line.specs.WholeLines.{EndsLine, IsWholeFront}
use Rattle.ged_schema.specs.declared.profile.Profile.{Profile}
use Rattle.ged_faults.specs.declared.faults.FileFault.{FileFault}
use Rattle.ged_faults.specs.declared.faults.FileFault.TheVariants.{NoTrailer}
use Rattle.ged_faults.specs.declared.faults.Fault.{Fault}
use Rattle.ged_faults.specs.declared.faults.Fault.TheVariants.{InFile, TooLong, ReadFailed, WriteFailed, Memory}
use Rattle.ged_accept.specs.Accepted.{LinesFaultAt, FileFaultAt}

-- what contracts see of a feed: the bytes that it has taken in, and the fault that it has told, if any
pub record Fed : Type 0 where
  pub bytes : Bytes
  pub told : Option Fault

-- Some lines of the bytes are whole, and this is their first fault. It is one of 1 to 15: TRLR may still come.
pub record WholeLinesFaultAt (bytes : Bytes) (line : ℕ) (kind : FileFault) : Type 0 where
  pub front : Bytes
  pub is_front : IsWholeFront bytes front
  pub some : EndsLine front
  pub first : LinesFaultAt front line kind
  pub early : kind ≢ NoTrailer

-- why a feed that has told no fault refuses a piece: with it the whole lines have a fault, which is told from then on and
-- is the file's whatever follows; or no memory was found, and nothing has changed
abbrev pub RefusesPiece : Fed → Bytes → Fed → Fault → Type 0
RefusesPiece old piece new (InFile line kind) = (new.bytes ≡ old.bytes ++ piece) × (new.told ≡ Some (InFile line kind))
    × WholeLinesFaultAt new.bytes line kind × ((profile : Profile) (more : Bytes) → FileFaultAt profile (new.bytes ++ more) line kind)
RefusesPiece old piece new (Memory error) = new ≡ old
RefusesPiece old piece new TooLong = ⊥
RefusesPiece old piece new ReadFailed = ⊥
RefusesPiece old piece new WriteFailed = ⊥
