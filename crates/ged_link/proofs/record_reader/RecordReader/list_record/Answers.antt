use Rattle.std.proofs.Common.{sym, ap, ◌∙◌, Option, [], ◌∷◌, ◌++◌}
use Rattle.ged_line.specs.Bytes.{Bytes}
use Rattle.ged_link.specs.inner.Keys.{fed_long}
use Rattle.ged_link.specs.inner.Layout.{counted}
use Rattle.ged_link.specs.inner.Listing.{listed_halves, listed_digits, all_halves, all_digits}
use Rattle.ged_link.proofs.RecordLineLemmas.{listed_more}
use Rattle.ged_link.proofs.record_reader.RecordReader.list_record.Goals as goal

pub returns-clause-records : goal.returns-clause-records
returns-clause-records c lines line xref tag listed =
    let old = c.args.self.now.list in
    let pushed = c.in_ok-push.ensures in
    listed_more old c.push.new.self c.type_of.result lines line (rw tag c.type_of.ensures)
    (pushed.tallies ∙ ap (λ (x : Option Bytes). counted old.tallies.items x) (sym xref))
    (pushed.names ∙ ap (λ (x : Option Bytes). all_halves old ++ listed_halves x ∷ []) (sym xref))
    (λ even. pushed.digits even ∙ ap (λ (x : Option Bytes). all_digits old ++ listed_digits x ∷ []) (sym xref))
    pushed.types
    (pushed.long ∙ ap (fed_long old.long.hasher) (sym xref))
    listed
