use Rattle.std.proofs.Common.{refl, ap, inl, inr}
use Rattle.ged_schema.specs.Faults.{fault_at}
use Rattle.ged_schema.proofs.Runs.{tested, refuted, match_map}
use Rattle.ged_schema.proofs.checking.own_fault.Goals as goal

pub returns-then-not-fits : goal.returns-then-not-fits
returns-then-not-fits g c = inl ((λ fits. refuted c.fits.result c.fits.ensures c.if-not-fits.true ((c.given_of.ensures c.args.rule.now.kind).1 fits)), ap (fault_at c.args.place) c.payload_fault.ensures)

pub returns-then-not-points_right : goal.returns-then-not-points_right
returns-then-not-points_right g c =
    let fits = (c.given_of.ensures c.args.rule.now.kind).0 (tested c.fits.result c.fits.ensures c.if-not-fits.false) in
    inr (fits, inl (refuted c.points_right.result c.points_right.ensures c.if-not-points_right.true, refl))

pub returns : goal.returns
returns g c =
    let fits = (c.given_of.ensures c.args.rule.now.kind).0 (tested c.fits.result c.fits.ensures c.if-not-fits.false) in
    let points = tested c.points_right.result c.points_right.ensures c.if-not-points_right.false in
    match_map c.count_fault.result (λ counts. (fits, points, counts)) (λ f counts. inr (fits, inr (points, counts))) c.count_fault.ensures
