use Rattle.std.proofs.Common.{◌≡◌, ◌∙◌, true, false, arith, sym}
use Rattle.ged_tree.specs.Rows.{AreSizes, kept_levels}
use Rattle.ged_tree.specs.TreeFaults.{has_trailer}
use Rattle.ged_tree.specs.inner.Growing.{RiseByOne}
use Rattle.ged_tree.proofs.table.Taking.{finished, past, nothing}
use Rattle.ged_tree.proofs.table.builder.TableBuilder.finish.Goals.{then-self-eq0, else-self-eq0}
use Rattle.ged_tree.proofs.table.builder.TableBuilder.finish.Goals as goal

pub returns-then-not-has_ended : goal.returns-then-not-has_ended
returns-then-not-has_ended c = λ lines holds few.
    let open_end : has_trailer lines ≡ false = sym (c.has_ended.ensures lines holds.judged) ∙ c.if-not-has_ended.true in
    elim c.if-self-eq0.branch [
      | then-self-eq0 w ↦ rw w.fault-is (nothing lines c.args.self.count holds.counted w.if-self-eq0.true)
      | else-self-eq0 w ↦ rw w.fault-is (past lines c.args.self.count holds.counted holds.pass open_end (omega (arith, w.if-self-eq0.false)))
    ]

pub of_table-requires : goal.of_table-requires
of_table-requires c =
    let lines = c.requires.lines.0 in
    let holds = c.requires.lines.1 in
    let end : has_trailer lines ≡ true = sym (c.has_ended.ensures lines holds.judged) ∙ c.if-not-has_ended.false in
    let items = c.args.self.structures.items in
    let sized : RiseByOne 0 (kept_levels items) → AreSizes items c.in-Ok.sizes 0 = λ rises. c.in-Ok.ensures items (c.len.ensures ∙ c.args.self.structures.ok.0) rises holds.kept.sized in
    (finished c.args.self lines c.in-Ok.sizes holds end c.requires.lines.2 sized).flat

pub returns-in-Ok : goal.returns-in-Ok
returns-in-Ok c = λ lines holds few.
    let end : has_trailer lines ≡ true = sym (c.has_ended.ensures lines holds.judged) ∙ c.if-not-has_ended.false in
    let items = c.args.self.structures.items in
    let sized : RiseByOne 0 (kept_levels items) → AreSizes items c.in-Ok.sizes 0 = λ rises. c.in-Ok.ensures items (c.len.ensures ∙ c.args.self.structures.ok.0) rises holds.kept.sized in
    let done = finished c.args.self lines c.in-Ok.sizes holds end few sized in
    rw (c.of_table.ensures, done.lists.seen) done.has
