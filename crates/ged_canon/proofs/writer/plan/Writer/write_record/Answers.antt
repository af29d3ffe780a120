use Rattle.std.proofs.Common.{◌≡◌, ◌+◌, ◌<◌, ◌++◌, [], Some, None, OnOk, option_map, refl, sym, ap, ◌∙◌, subst, arith}
use Rattle.std.specs.Option.{option_copied}
use Rattle.ged_line.specs.Bytes.{Bytes}
use Rattle.ged_tree.specs.Places.{structure_at}
use Rattle.ged_tree.specs.Runs.{IsRunOfTrees, trees_between}
use Rattle.ged_tree.proofs.CallerLemmas.{below_run, run_below}
use Rattle.ged_schema.specs.declared.context.Context.TheVariants.{File}
use Rattle.ged_schema.specs.Rows.{as_row}
use Rattle.ged_schema.specs.Tables.{row}
use Rattle.ged_canon.specs.Normal.{numbered}
use Rattle.ged_canon.specs.inner.Working.{is_named, number_of}
use Rattle.ged_canon.specs.inner.Siblings.{own_tag}
use Rattle.ged_canon.specs.inner.Writing.{CanWriteTree}
use Rattle.ged_canon.specs.inner.Written.{written}
use Rattle.ged_canon.proofs.writer.RunsWritten.{can_write_alike, lines_alike}
use Rattle.ged_canon.proofs.theory.Numbering.{numbered_name}
use Rattle.ged_canon.proofs.writer.Records.{no_number, own_identifier, own_stands, below_stands, record_spelled}
use Rattle.ged_canon.proofs.writer.plan.Writer.write_record.Goals as goal

pub write_sibling-requires : goal.write_sibling-requires
write_sibling-requires g c =
    let d = g.F.Forest.trees c.args.self.now.forest.now in
    let edition = c.args.self.now.plan.edition in
    let x = c.args.sibling in
    let at = x.place in
    let here = c.requires.within.0.within in
    record {
      document = c.requires.document;
      within = (here, refl);
      run = subst (λ q. IsRunOfTrees d (at + 1) q) (sym c.after-end.ensures) (run_below d at here);
      deeper = ap (trees_between d (at + 1)) c.after-end.ensures ∙ below_run d at here;
      stands = own_stands (is_named d) edition d x [] c.requires.stand None refl;
      below = below_stands (is_named d) edition d x [] c.requires.stand;
    }

pub returns-then-number-eq0 : goal.returns-then-number-eq0
returns-then-number-eq0 g c = λ names h named.
    let d = g.F.Forest.trees c.args.self.now.forest.now in
    let edition = c.args.self.now.plan.edition in
    let x = c.args.sibling in
    let unnamed = no_number d names named (structure_at d x.place).xref (sym (c.own_number-number.ensures names h) ∙ c.if-number-eq0.true) in
    let lines = c.write_sibling.ensures.lines in
    subst (λ (bytes : Bytes). OnOk c.write_sibling.result (written c.args.self.now.plan.file.now c.write_sibling.new.work.answer ≡ written c.args.self.now.plan.file.now c.args.work.now.answer ++ bytes))
    (record_spelled (is_named d) edition names d x None unnamed) (lines names h)

pub write_named-requires-clause-stands : goal.write_named-requires-clause-stands
write_named-requires-clause-stands g c =
    let d = g.F.Forest.trees c.args.self.now.forest.now in
    let edition = c.args.self.now.plan.edition in
    let x = c.args.sibling in
    let at = x.place in
    let tag = c.tag-tag.result in
    let rule : option_map as_row (option_copied c.row-rule.result) ≡ row File (own_tag d x) = c.row-rule.ensures ∙ ap (λ k. row k tag.now) c.of.ensures ∙ ap (row File) c.tag-tag.ensures in
    let here = c.requires.within.0.within in
    let name = numbered c.own_number-number.result in
    subst (λ r. CanWriteTree edition r 0 (Some name) d (record { tag = tag; place = at }) c.after-end.result) (sym rule)
    (can_write_alike edition (row File (own_tag d x)) 0 (Some name) d tag at c.after-end.result c.tag-tag.ensures
    (record {
      document = c.requires.document;
      within = (here, refl);
      run = subst (λ q. IsRunOfTrees d (at + 1) q) (sym c.after-end.ensures) (run_below d at here);
      deeper = ap (trees_between d (at + 1)) c.after-end.ensures ∙ below_run d at here;
      stands = own_stands (is_named d) edition d x [] c.requires.stand (Some name) (numbered_name c.own_number-number.result);
      below = below_stands (is_named d) edition d x [] c.requires.stand;
    }))

pub returns : goal.returns
returns g c = λ names h named.
    let d = g.F.Forest.trees c.args.self.now.forest.now in
    let edition = c.args.self.now.plan.edition in
    let x = c.args.sibling in
    let tag = c.tag-tag.result in
    let rule : option_map as_row (option_copied c.row-rule.result) ≡ row File (own_tag d x) = c.row-rule.ensures ∙ ap (λ k. row k tag.now) c.of.ensures ∙ ap (row File) c.tag-tag.ensures in
    let xref = Some (numbered c.own_number-number.result) in
    let some : 0 < c.own_number-number.result = omega (arith, c.if-number-eq0.false) in
    let shown = own_identifier d names named (structure_at d x.place).xref c.own_number-number.result (c.own_number-number.ensures names h) some in
    let lines = c.write_named.ensures in
    subst (λ (bytes : Bytes). OnOk c.write_named.result (written c.args.self.now.plan.file.now c.write_named.new.work.answer ≡ written c.args.self.now.plan.file.now c.args.work.now.answer ++ bytes))
    (lines_alike (number_of 1 names) edition xref d tag x.place 0 _ (row File (own_tag d x)) c.tag-tag.ensures rule ∙ record_spelled (is_named d) edition names d x xref shown) (lines names h)
