-- The first fault of a file that comes one part after another (FamilySearch GEDCOM 7.0, "Lines" and "Structures").
use Rattle.std.specs.Prelude.{◌≢◌, ℕ, ◌++◌}
use Rattle.ged_line.specs.Bytes.{Bytes}
use Rattle.ged_line.specs.WholeLines.{EndsLine}
use Rattle.ged_tree.specs.FileFaults.{FirstFaultIn}
use Rattle.ged_tree.specs.declared.fault.TreeFault.{TreeFault}
use Rattle.ged_tree.specs.declared.fault.TreeFault.TheVariants.{NoTrailer}

-- the first fault of whole lines is that of the file, whatever comes behind them, unless it is that TRLR is missing
abbrev pub FirstFaultStays : Type 0
FirstFaultStays = (front more : Bytes) (line : ℕ) (fault : TreeFault) → EndsLine front → FirstFaultIn front line fault → fault ≢ NoTrailer
    → FirstFaultIn (front ++ more) line fault
