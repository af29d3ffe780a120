use Rattle.std.proofs.Common.{rules}
use Rattle.ged_c.specs.Comparisons.{AreWithin}
use Rattle.ged_c.proofs.Refusing.{tells}
use Rattle.ged_c.proofs.comparing.compare.Goals as goal

pub returns-in-Err : goal.returns-in-Err
returns-in-Err c =
    let within : AreWithin c.args.first.now c.args.second.now = search rules in
    (_, _, c.in-Some.ensures.some, tells _ _ _ _ _ within c.in-Err.ensures.refused)
