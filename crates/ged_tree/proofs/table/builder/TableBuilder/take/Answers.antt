use Rattle.std.proofs.Common.{◌+◌, refl}
use Rattle.ged_tree.specs.declared.table.builder.TableBuilder.{TableBuilder}
use Rattle.ged_tree.proofs.table.Taking.{taken}
use Rattle.ged_tree.proofs.table.builder.TableBuilder.take.Goals as goal

pub returns-in-Ok-put : goal.returns-in-Ok-put
returns-in-Ok-put c = λ lines holds.
    let old = c.args.self.now in
    let new = c.put.new.self in
    let mid : TableBuilder = record { judge = new.judge; count = old.count + 1; file = old.file; structures = old.structures; sizes = old.sizes; apart = old.apart; further = old.further } in
    let (none, role) = c.in-Ok.ensures.passes lines holds.judged in
    let more = c.in-Ok-put.ensures role in
    (role, rw more.put.file refl, taken old mid new lines c.args.spelled.now.line holds none c.level-level.ensures.line (more.judged lines holds.judged) refl refl refl refl refl refl more.put)
