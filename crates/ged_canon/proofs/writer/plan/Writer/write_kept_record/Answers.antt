use Rattle.std.proofs.Common.{◌≡◌, ◌+◌, ◌++◌, [], OnOk, option_map, refl, sym, ap, ◌∙◌, subst}
use Rattle.std.specs.Option.{option_copied}
use Rattle.ged_line.specs.Bytes.{Bytes}
use Rattle.ged_line.specs.Lines.{may_be_xref}
use Rattle.ged_tree.specs.Places.{structure_at}
use Rattle.ged_tree.specs.Runs.{IsRunOfTrees, trees_between}
use Rattle.ged_tree.proofs.CallerLemmas.{below_run, run_below}
use Rattle.ged_schema.specs.declared.context.Context.TheVariants.{File}
use Rattle.ged_schema.specs.Rows.{as_row}
use Rattle.ged_schema.specs.Tables.{row}
use Rattle.ged_canon.specs.inner.Working.{each_used, number_of}
use Rattle.ged_canon.specs.inner.Siblings.{own_tag}
use Rattle.ged_canon.specs.inner.Writing.{CanWriteTree}
use Rattle.ged_canon.specs.inner.Written.{written}
use Rattle.ged_canon.proofs.writer.KeptNames.{used_itself, named_itself}
use Rattle.ged_canon.proofs.writer.RunsWritten.{can_write_alike, lines_alike}
use Rattle.ged_canon.proofs.writer.Records.{own_named, own_stands, below_stands, record_spelled}
use Rattle.ged_canon.proofs.writer.plan.Writer.write_kept_record.Goals as goal

pub write_tree-requires : goal.write_tree-requires
write_tree-requires g c =
    let d = g.F.Forest.trees c.args.self.now.forest.now in
    let edition = c.args.self.now.plan.edition in
    let x = c.args.sibling in
    let at = x.place in
    let tag = c.tag-tag.result in
    let rule : option_map as_row (option_copied c.row-rule.result) ≡ row File (own_tag d x) = c.row-rule.ensures ∙ ap (λ k. row k tag.now) c.of-rows.ensures ∙ ap (row File) c.tag-tag.ensures in
    let xref = option_copied c.xref-xref.result in
    let own = c.xref-xref.ensures ∙ sym (used_itself (structure_at d at).xref) in
    let here = c.requires.within.0.within in
    subst (λ r. CanWriteTree edition r 0 xref d (record { tag = tag; place = at }) c.after-end.result) (sym rule)
    (can_write_alike edition (row File (own_tag d x)) 0 xref d tag at c.after-end.result c.tag-tag.ensures
    (record {
      document = c.requires.document;
      within = (here, refl);
      run = subst (λ q. IsRunOfTrees d (at + 1) q) (sym c.after-end.ensures) (run_below d at here);
      deeper = ap (trees_between d (at + 1)) c.after-end.ensures ∙ below_run d at here;
      stands = own_stands each_used edition d x [] c.requires.stand xref (ap may_be_xref own ∙ own_named each_used edition d x [] c.requires.stand);
      below = below_stands each_used edition d x [] c.requires.stand;
    }))

pub returns : goal.returns
returns g c = λ h.
    let d = g.F.Forest.trees c.args.self.now.forest.now in
    let edition = c.args.self.now.plan.edition in
    let x = c.args.sibling in
    let tag = c.tag-tag.result in
    let rule : option_map as_row (option_copied c.row-rule.result) ≡ row File (own_tag d x) = c.row-rule.ensures ∙ ap (λ k. row k tag.now) c.of-rows.ensures ∙ ap (row File) c.tag-tag.ensures in
    let xref = option_copied c.xref-xref.result in
    let kept = named_itself (structure_at d x.place).xref ∙ sym c.xref-xref.ensures in
    let lines = c.write_tree.ensures.lines in
    subst (λ (bytes : Bytes). OnOk c.write_tree.result (written c.args.self.now.plan.file.now c.write_tree.new.work.answer ≡ written c.args.self.now.plan.file.now c.args.work.now.answer ++ bytes))
    (lines_alike (number_of 1 []) edition xref d tag x.place 0 _ (row File (own_tag d x)) c.tag-tag.ensures rule ∙ record_spelled each_used edition [] d x xref kept) (lines [] h)
