use Rattle.std.proofs.Common.{sym, ap, ◌∙◌}
use Rattle.ged_link.specs.inner.RecordLines.{is_record_tag, record_lines}
use Rattle.ged_link.proofs.RecordLineLemmas.{on_ok_too, begins, one_more}
use Rattle.ged_link.proofs.record_reader.RecordReader.read_record.Goals as goal

pub returns-then-is_record_tag-clause-records : goal.returns-then-is_record_tag-clause-records
returns-then-is_record_tag-clause-records c =
    let line = c.args.line.now in
    let is_record = begins line (sym c.level.ensures.level ∙ c.if-level-eq0.true) (ap is_record_tag (sym c.tag.ensures.tag) ∙ sym c.is_record_tag.ensures ∙ c.if-is_record_tag.true) in
    on_ok_too c.list_record.result
    (λ listed lines has. rw (one_more lines line is_record) (listed (record_lines lines) line (sym c.xref.ensures.xref) (sym c.tag-then-is_record_tag.ensures.tag) has))
    c.list_record.ensures.records
