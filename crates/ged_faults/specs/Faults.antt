-- The numbers of faults, and the statuses of outcomes.
use Rattle.std.specs.Prelude.{ℕ}
use Rattle.ged_line.specs.declared.fault.LineFault.{LineFault}
use Rattle.ged_line.specs.declared.fault.LineFault.TheVariants as of_line
use Rattle.ged_line.specs.declared.fault.RespellFault.{RespellFault}
use Rattle.ged_line.specs.declared.fault.RespellFault.TheVariants as of_respelling
use Rattle.ged_tree.specs.declared.fault.TreeFault.{TreeFault}
use Rattle.ged_tree.specs.declared.fault.TreeFault.TheVariants as of_tree
use Rattle.ged_schema.specs.declared.fault.SchemaFault.{SchemaFault}
use Rattle.ged_schema.specs.declared.fault.SchemaFault.TheVariants as of_tables
use Rattle.ged_faults.specs.declared.faults.FileFault.{FileFault}
use Rattle.ged_faults.specs.declared.faults.FileFault.TheVariants.{NotUtf8, BannedCharacter, EmptyLine, BadLevel, LevelTooLarge, BadXref, BadTag, BadValue, LevelJump, XrefNotAllowed, MisplacedCont, NoHeader, SecondHeader, TrailerNotEmpty, AfterTrailer, NoTrailer, DuplicateXref, DanglingPointer, WrongVersion, BadPayload, WrongTarget, TooMany, Missing, OneWayLink, UnlistedTag}
use Rattle.ged_faults.specs.declared.faults.Fault.{Fault}
use Rattle.ged_faults.specs.declared.faults.Fault.TheVariants.{InFile, TooLong, ReadFailed, WriteFailed, Memory}
use Rattle.ged_faults.specs.declared.faults.Outcome.{Outcome}
use Rattle.ged_faults.specs.declared.faults.Outcome.TheVariants.{Done, Different, Failed}

-- the fault of a line, as a fault of its file: the one of the same name
abbrev pub file_fault_of_line : LineFault → FileFault
file_fault_of_line of_line.NotUtf8 = NotUtf8
file_fault_of_line of_line.BannedCharacter = BannedCharacter
file_fault_of_line of_line.EmptyLine = EmptyLine
file_fault_of_line of_line.BadLevel = BadLevel
file_fault_of_line of_line.LevelTooLarge = LevelTooLarge
file_fault_of_line of_line.BadXref = BadXref
file_fault_of_line of_line.BadTag = BadTag
file_fault_of_line of_line.BadValue = BadValue

-- the fault of a document's lines, as a fault of their file
abbrev pub file_fault_of_tree : TreeFault → FileFault
file_fault_of_tree (of_tree.Line fault) = file_fault_of_line fault
file_fault_of_tree of_tree.LevelJump = LevelJump
file_fault_of_tree of_tree.XrefNotAllowed = XrefNotAllowed
file_fault_of_tree of_tree.MisplacedCont = MisplacedCont
file_fault_of_tree of_tree.NoHeader = NoHeader
file_fault_of_tree of_tree.SecondHeader = SecondHeader
file_fault_of_tree of_tree.TrailerNotEmpty = TrailerNotEmpty
file_fault_of_tree of_tree.AfterTrailer = AfterTrailer
file_fault_of_tree of_tree.NoTrailer = NoTrailer

-- what the structure tables find wrong, as a fault of the file
abbrev pub file_fault_of_tables : SchemaFault → FileFault
file_fault_of_tables of_tables.WrongVersion = WrongVersion
file_fault_of_tables of_tables.BadPayload = BadPayload
file_fault_of_tables of_tables.WrongTarget = WrongTarget
file_fault_of_tables of_tables.TooMany = TooMany
file_fault_of_tables of_tables.Missing = Missing
file_fault_of_tables of_tables.OneWayLink = OneWayLink
file_fault_of_tables of_tables.UnlistedTag = UnlistedTag

-- the number of a fault of the file
abbrev pub file_fault_number : FileFault → ℕ
file_fault_number NotUtf8 = 1
file_fault_number BannedCharacter = 2
file_fault_number EmptyLine = 3
file_fault_number BadLevel = 4
file_fault_number LevelTooLarge = 5
file_fault_number BadXref = 6
file_fault_number BadTag = 7
file_fault_number BadValue = 8
file_fault_number LevelJump = 9
file_fault_number XrefNotAllowed = 10
file_fault_number MisplacedCont = 11
file_fault_number NoHeader = 12
file_fault_number SecondHeader = 13
file_fault_number TrailerNotEmpty = 14
file_fault_number AfterTrailer = 15
file_fault_number NoTrailer = 16
file_fault_number DuplicateXref = 17
file_fault_number DanglingPointer = 18
file_fault_number WrongVersion = 19
file_fault_number BadPayload = 20
file_fault_number WrongTarget = 21
file_fault_number TooMany = 22
file_fault_number Missing = 23
file_fault_number OneWayLink = 28
file_fault_number UnlistedTag = 29

-- why lines could not be respelled, as a fault of the run
abbrev pub fault_of_respelling : RespellFault → Fault
fault_of_respelling (of_respelling.At at) = InFile at.line (file_fault_of_line at.fault)
fault_of_respelling (of_respelling.Memory error) = Memory error

-- the number by which a fault is told
abbrev pub fault_number : Fault → ℕ
fault_number (InFile line kind) = file_fault_number kind
fault_number TooLong = 24
fault_number ReadFailed = 25
fault_number WriteFailed = 26
fault_number (Memory error) = 27

-- 1 for a fault of the file, 3 for one of a device, of the limit or of memory
abbrev pub fault_status : Fault → ℕ
fault_status (InFile line kind) = 1
fault_status TooLong = 3
fault_status ReadFailed = 3
fault_status WriteFailed = 3
fault_status (Memory error) = 3

-- the exit status of a program that ends with this outcome
abbrev pub status_of : Outcome → ℕ
status_of Done = 0
status_of Different = 1
status_of (Failed which fault) = fault_status fault
