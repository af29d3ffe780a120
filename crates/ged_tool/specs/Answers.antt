-- What a command answers to the bytes of a file.
use Rattle.std.specs.Prelude.{◌≡◌, ℕ}
use Rattle.ged_line.specs.Bytes.{Bytes}
use Rattle.ged_line.specs.Files.{IsRespelling, IsFirstLineFault}
use Rattle.ged_line.specs.declared.fault.LineFault.{LineFault}
use Rattle.ged_tree.specs.Trees.{Trees}
use Rattle.ged_schema.specs.declared.profile.Profile.{Profile}
use Rattle.ged_canon.specs.declared.edition.Edition.{Edition}
use Rattle.ged_accept.specs.Accepted.{IsAccepted, FileFaultAt}
use Rattle.ged_tool.specs.Canon.{IsCanon}
use Rattle.ged_faults.specs.Faults.{file_fault_of_line}
use Rattle.ged_accept.specs.Notices.{IsVerdict}
use Rattle.ged_accept.specs.Shown.{IsShown}
use Rattle.ged_tool.specs.Tidied.{IsTidied}
use Rattle.ged_tool.specs.declared.runs.answer.Command.{Command}
use Rattle.ged_tool.specs.declared.runs.answer.Command.TheVariants.{Lines, Check, Show, Canon, Tidy}
use Rattle.ged_faults.specs.declared.faults.FileFault.{FileFault}

-- The text is the command's answer to a file of these bytes, under the profile and in the edition. Lines judges lines alone,
-- and only Canon and Tidy ask for the edition.
abbrev pub Answers : Profile → Edition → Command → Bytes → Bytes → Type 0
Answers profile edition Lines bytes text = IsRespelling bytes text
Answers profile edition Check bytes text = (document : Trees) × IsAccepted profile bytes document × IsVerdict document text
Answers profile edition Show bytes text = (document : Trees) × IsAccepted profile bytes document × IsShown document text
Answers profile edition Canon bytes text = IsCanon profile edition bytes text
Answers profile edition Tidy bytes text = IsTidied profile edition bytes text

-- the command has no answer to these bytes, but this fault at this line to tell
abbrev pub FaultAt : Profile → Command → Bytes → ℕ → FileFault → Type 0
FaultAt profile Lines bytes line kind = (fault : LineFault) × IsFirstLineFault bytes line fault × (kind ≡ file_fault_of_line fault)
FaultAt profile Check bytes line kind = FileFaultAt profile bytes line kind
FaultAt profile Show bytes line kind = FileFaultAt profile bytes line kind
FaultAt profile Canon bytes line kind = FileFaultAt profile bytes line kind
FaultAt profile Tidy bytes line kind = FileFaultAt profile bytes line kind
