use Rattle.std.proofs.Common.{◌≡◌, ◌+◌, ◌%◌, ◌∙◌, ℕ, ap, sym, subst, length, decimal}
use Rattle.ged_line.specs.Bytes.{Bytes}
use Rattle.ged_line.specs.Lines.{LineParts, xref_part}
use Rattle.ged_line.specs.Spelling.{LineText}
use Rattle.ged_tree.specs.Rows.{names_record}
use Rattle.ged_tree.specs.Spelled.{shown_line}
use Rattle.ged_tree.proofs.table.SpelledTexts.{line_is_shown}
use Rattle.ged_tree.proofs.table.PackedStructures.{level_alone, level_kept}
use Rattle.ged_tree.proofs.table.builder.structure_of_line.Goals as goal

pub returns-clause-line : goal.returns-clause-line
returns-clause-line c =
    let line = c.args.spelled.now.line in
    let text = c.args.spelled.now.text.now in
    let level = c.level.ensures in
    let is : shown_line (c.level.result % 128) text ≡ line = ap (λ (l : ℕ). shown_line l text) (level_kept c.level.result line level.level level.line) ∙ line_is_shown line text c.requires in
    let shown = sym is in
    record {
      line_is = is;
      spelled = (
        subst (λ (l : LineParts). LineText l text) shown c.requires,
        λ some.
            let kept = c.kept_tag-kept.ensures.true_ones some in
            let start = c.start_of_tag.ensures in (
              (
                kept.0 ∙ start ∙ ap (λ (l : LineParts). length (decimal l.level) + 1 + length (xref_part l.xref)) shown,
                kept.1 ∙ ap (λ (bs : Bytes). length bs) c.tag.ensures.tag ∙ ap (λ (l : LineParts). length l.tag) shown,
              ),
              kept.2 ∙ c.is_pointer-points.ensures ∙ ap (λ (l : LineParts). names_record l.value) shown,
            ),
      );
      alone = level_alone c.level.result line level.level level.line;
    }
