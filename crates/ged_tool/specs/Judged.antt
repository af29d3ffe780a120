-- What a feed keeps beside the bytes. Of what is public only the invariant of `Feed` cites this.
use Rattle.std.specs.Prelude.{◌≡◌, ℕ, List, length}
use Rattle.ged_line.specs.Bytes.{Bytes}
use Rattle.ged_line.specs.Lines.{LineParts}
use Rattle.ged_line.specs.Files.{FileText}
use Rattle.ged_line.specs.WholeLines.{IsWholeFront}
use Rattle.ged_tree.specs.TreeFaults.{Pass}
use Rattle.ged_tree.specs.Judging.{StandsFor}
use Rattle.ged_tool.specs.declared.calls.judged_lines.Judged.{Judged}
use Rattle.ged_faults.specs.declared.faults.Fault.{Fault}
use Rattle.ged_faults.specs.declared.faults.Fault.TheVariants.{InFile, TooLong, ReadFailed, WriteFailed, Memory}
use Rattle.ged_tool.specs.Fed.{WholeLinesFaultAt}

-- the bytes spell lines at which no fault stands, the judge stands for these, and they are counted
pub record HasJudged (judged : Judged) (bytes : Bytes) : Type 0 where
  pub lines : List LineParts
  pub spelled : FileText lines bytes
  pub pass : Pass lines
  pub stands : StandsFor judged.judge lines
  pub count : judged.count ≡ length lines

-- the whole lines of the bytes are so long, and are judged
pub record IsReady (bytes : Bytes) (whole : ℕ) (judged : Judged) : Type 0 where
  pub front : Bytes
  pub is_front : IsWholeFront bytes front
  pub long : whole ≡ length front
  pub judges : HasJudged judged front

-- the fault is that of the whole lines
abbrev pub IsToldOf : Bytes → Fault → Type 0
IsToldOf bytes (InFile line kind) = WholeLinesFaultAt bytes line kind
IsToldOf bytes (Memory error) = ⊥
IsToldOf bytes TooLong = ⊥
IsToldOf bytes ReadFailed = ⊥
IsToldOf bytes WriteFailed = ⊥
