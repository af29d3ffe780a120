-- What a call on one file answers, and what it leaves in the room that it was handed.
use Rattle.std.specs.Prelude.{◌≡◌, ℕ, ◌≤◌, ◌<◌, ◌++◌, length, drop}
use Rattle.ged_line.specs.Bytes.{Bytes}
use Rattle.ged_schema.specs.declared.profile.Profile.{Profile}
use Rattle.ged_canon.specs.declared.edition.Edition.{Edition}
use Rattle.ged_accept.specs.Accepted.{IsRefusal}
use Rattle.ged_tool.specs.Answers.{Answers, FaultAt}
use Rattle.ged_faults.specs.Faults.{fault_number}
use Rattle.ged_tool.specs.declared.runs.answer.Command.{Command}
use Rattle.ged_tool.specs.Limits.{greatest_limit}
use Rattle.ged_faults.specs.declared.faults.Fault.{Fault}
use Rattle.ged_faults.specs.declared.faults.Fault.TheVariants.{InFile, TooLong, ReadFailed, WriteFailed, Memory}
use Rattle.ged_c.specs.Settings.{settings_number, last_settings}
use Rattle.ged_c.specs.declared.answering.Ended.{Ended}
use Rattle.ged_c.specs.declared.answering.Ended.TheVariants.{Answered, NoRoom, Refused, BadSettings, NotFound}

-- the status by which C is told how a call ended: 0, or the number of a fault, or one above all of them
abbrev pub call_status : Ended → ℕ
call_status (Answered length) = 0
call_status (NoRoom length) = 64
call_status (Refused fault) = fault_number fault
call_status BadSettings = 65
call_status NotFound = 66

-- the length of the answer, where there is one
abbrev pub length_of : Ended → ℕ
length_of (Answered length) = length
length_of (NoRoom length) = length
length_of (Refused fault) = 0
length_of BadSettings = 0
length_of NotFound = 0

-- the line of a fault of the file; anything else stands at none
abbrev pub line_of_fault : Fault → ℕ
line_of_fault (InFile line kind) = line
line_of_fault TooLong = 0
line_of_fault ReadFailed = 0
line_of_fault WriteFailed = 0
line_of_fault (Memory error) = 0

abbrev pub line_of : Ended → ℕ
line_of (Answered length) = 0
line_of (NoRoom length) = 0
line_of (Refused fault) = line_of_fault fault
line_of BadSettings = 0
line_of NotFound = 0

-- an answer in a room: it stands at the front, and what stood behind stays, or where it is too long all stays as it was
abbrev pub IsPut : Bytes → Bytes → Bytes → Ended → Type 0
IsPut text before after (Answered count) =
    (count ≡ length text) × (length text ≤ length before) × (after ≡ text ++ drop (length text) before)
IsPut text before after (NoRoom count) = (count ≡ length text) × (length before < length text) × (after ≡ before)
IsPut text before after (Refused fault) = ⊥
IsPut text before after BadSettings = ⊥
IsPut text before after NotFound = ⊥

-- why a command has no answer to a file: it is too long; or it has this fault at this line, or memory was wanting
abbrev pub TellsOf : Profile → Command → Bytes → Fault → Type 0
TellsOf profile command file (InFile line kind) = (length file ≤ greatest_limit) × IsRefusal (FaultAt profile command file) (InFile line kind)
TellsOf profile command file TooLong = greatest_limit < length file
TellsOf profile command file ReadFailed = ⊥
TellsOf profile command file WriteFailed = ⊥
TellsOf profile command file (Memory error) = length file ≤ greatest_limit

-- what one end of a call means, under a profile and in an edition
abbrev pub MeansAs : Profile → Edition → Command → Bytes → Bytes → Bytes → Ended → Type 0
MeansAs profile edition command file before after (Answered count) = (length file ≤ greatest_limit)
    × ((text : Bytes) × Answers profile edition command file text × IsPut text before after (Answered count))
MeansAs profile edition command file before after (NoRoom count) = (length file ≤ greatest_limit)
    × ((text : Bytes) × Answers profile edition command file text × IsPut text before after (NoRoom count))
MeansAs profile edition command file before after (Refused fault) = TellsOf profile command file fault × (after ≡ before)
MeansAs profile edition command file before after BadSettings = ⊥
MeansAs profile edition command file before after NotFound = ⊥

-- What one end of a call means: for the number of its settings, the file's bytes, and those of the room before it and after it.
abbrev pub EndMeans : Command → ℕ → Bytes → Bytes → Bytes → Ended → Type 0
EndMeans command settings file before after BadSettings = (last_settings < settings) × (after ≡ before)
EndMeans command settings file before after ended =
    (profile : Profile) × (edition : Edition) × (settings ≡ settings_number profile edition)
    × MeansAs profile edition command file before after ended

-- A call on one file: it ended so, and the status, the length and the line are what tells it.
pub record IsCall (command : Command) (settings : ℕ) (file before after : Bytes) (status answer_length line : ℕ) : Type 0 where
  pub ended : Ended
  pub means : EndMeans command settings file before after ended
  pub status_tells : status ≡ call_status ended
  pub length_tells : answer_length ≡ length_of ended
  pub line_tells : line ≡ line_of ended
