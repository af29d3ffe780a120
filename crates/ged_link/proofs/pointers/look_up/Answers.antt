use Rattle.std.proofs.Common.{sym, ap, ◌∙◌, option_map}
use Rattle.ged_tree.specs.Places.{structure_at}
use Rattle.ged_link.specs.declared.pointers.Pointed.{Pointed}
use Rattle.ged_link.proofs.pointers.look_up.Goals as goal

pub returns-in_err-to : goal.returns-in_err-to
returns-in_err-to g c name here =
    rw c.from_residual.ensures (ap (option_map (λ (pointed : Pointed). pointed.to)) (sym c.in_err-to.was) ∙ (c.read_pointer.ensures name here).0, tt)

pub returns-in_err-to-2 : goal.returns-in_err-to-2
returns-in_err-to-2 g c name here =
    let told = c.in-Some.ensures.told (structure_at (g.F.Forest.trees c.args.forest.now) c.args.place).tag name (c.requires.listed name here) in
    rw c.from_residual-in_err-to-2.ensures (sym c.in_err-to-2.was ∙ c.find_counted.ensures name told.0, tt)

pub returns : goal.returns
returns g c name here =
    let told = c.in-Some.ensures.told (structure_at (g.F.Forest.trees c.args.forest.now) c.args.place).tag name (c.requires.listed name here) in
    (sym c.in_ok-to-2.was ∙ c.find_counted.ensures name told.0, told.1)
