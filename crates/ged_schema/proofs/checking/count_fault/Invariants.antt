use Rattle.std.proofs.Common.{◌+◌, ◌≡◌, drop}
use Rattle.std.specs.List.{AllByRecursion}
use Rattle.ged_tree.specs.Runs.{trees_between}
use Rattle.ged_schema.specs.declared.fault.FaultPlace.{FaultPlace}
use Rattle.ged_schema.specs.Tables.{rows}
use Rattle.ged_schema.specs.Checked.{CountsRight}
use Rattle.ged_schema.specs.Faults.{FirstCountFault}
use Rattle.ged_schema.proofs.checking.count_fault.Given as goal

abbrev pub invariant-loop-rule : goal.invariant-loop-rule
invariant-loop-rule g l =
    let below = trees_between (g.F.Forest.trees l.forest) (l.place + 1) l.after in
    let left = drop l.rule-index (rows l.fn.context) in
    record {
      number : l.number ≡ l.rule-index;
      right : AllByRecursion (CountsRight below) left → AllByRecursion (CountsRight below) (rows l.fn.context);
      fault : (f : FaultPlace) → FirstCountFault l.place below left f → FirstCountFault l.place below (rows l.fn.context) f;
    }
