-- What building a document of lines answers where there is none (FamilySearch GEDCOM 7.0, "Lines" and "Structures").
use Rattle.std.specs.Prelude.{List, Option, ⊤}
use Rattle.ged_line.specs.Lines.{LineParts}
use Rattle.ged_line.specs.declared.fault.LineAt.{LineAt}
use Rattle.ged_tree.specs.Building.{IsBuildFault}
use Rattle.ged_tree.specs.declared.fault.BuildFault.{BuildFault}
use Rattle.ged_tree.specs.declared.fault.BuildFault.TheVariants.{At, Memory}

-- the first fault of the lines and of the stop behind them; of want of memory nothing is said
abbrev pub TellsBuild : BuildFault → List LineParts → Option LineAt → Type 0
TellsBuild (At at) lines stop = IsBuildFault lines stop at.line at.fault
TellsBuild (Memory error) lines stop = ⊤
