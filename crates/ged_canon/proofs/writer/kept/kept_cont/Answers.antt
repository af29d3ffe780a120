use Rattle.std.proofs.Common.{◌≡◌, ◌-◌, ◌∙◌, ap, length, take, drop, slice_index_or, rules, arith}
use Rattle.std.proofs.lemmas.List.{take_rest}
use Rattle.ged_line.specs.Lines.{doubled}
use Rattle.ged_canon.proofs.writer.KeptLines.{cont_alone, cont_kept, single_sign}
use Rattle.ged_canon.proofs.writer.kept.kept_cont.Goals as goal

pub returns-then-is_empty-clause-line : goal.returns-then-is_empty-clause-line
returns-then-is_empty-clause-line c =
    let file = c.args.file.now in
    let place = c.args.place in
    cont_alone file (take (length file - place) (drop place file)) c.in_ok-tagged.tagged.now c.in_ok-value.value.now c.args.text.now place c.args.level
    (take_rest file place) (omega arith) (search rules) c.in_ok-tagged.ensures.bytes c.in_ok-value.ensures.bytes (search rules)

pub returns-clause-line : goal.returns-clause-line
returns-clause-line c =
    let file = c.args.file.now in
    let place = c.args.place in
    let text = c.args.text.now in
    let single : doubled text ≡ text = single_sign text (λ e. c.if-as_bytes-eq64.false (ap (λ xs. slice_index_or xs 0 0) c.as_bytes.ensures.value ∙ e)) in
    cont_kept file (take (length file - place) (drop place file)) c.in_ok-tagged.tagged.now c.in_ok-value.value.now c.in_ok-behind.behind.now text place c.args.level
    (take_rest file place) (omega arith) (search rules) single c.in_ok-tagged.ensures.bytes c.in_ok-value.ensures.bytes c.in_ok-behind.ensures.bytes (search rules)
