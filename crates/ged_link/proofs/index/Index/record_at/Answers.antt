use Rattle.ged_link.specs.Targets.{PointsAt}
use Rattle.ged_link.proofs.TargetLemmas.{points_at_one}
use Rattle.ged_link.proofs.index.Index.record_at.Goals as goal

pub returns-in-Some : goal.returns-in-Some
returns-in-Some c = λ d is here.
    let points : PointsAt d c.args.place c.in-Some.number = c.next_number.ensures.told d (rw c.deref.ensures.value is.targets) c.in-Some.number c.in-Some.is in
    points_at_one d c.args.self.now.records c.args.place c.in-Some.number c.args.name.now is.records points here
