use Rattle.std.proofs.Common.{rules, ◌≡◌, Some}
use Rattle.ged_explain.specs.Names.{named_fault, named_faults, with_number}
use Rattle.ged_explain.proofs.Found.{numbered_fault}
use Rattle.ged_explain.proofs.faults.meaning_of.Goals as goal

pub unreachable-requires : goal.unreachable-requires
unreachable-requires c =
    let found : with_number c.number.result named_faults ≡ Some (named_fault c.args.fault.now) = rw c.number.ensures (numbered_fault c.args.fault.now) in
    search (rules, found)

pub returns : goal.returns
returns c =
    let found : with_number c.number.result named_faults ≡ Some (named_fault c.args.fault.now) = rw c.number.ensures (numbered_fault c.args.fault.now) in
    search (rules, found)
