use Rattle.std.proofs.Common.{◌≡◌, true, take, drop, [], ◌∙◌, append-nil, subst, sym, arith}
use Rattle.std.proofs.lemmas.List.{take_all, drop_all}
use Rattle.std.specs.List.{AllByRecursion}
use Rattle.ged_line.specs.Lines.{LineParts, is_line}
use Rattle.ged_line.specs.Files.{FileText}
use Rattle.ged_line.specs.Spelling.{file_of}
use Rattle.ged_line.proofs.file.FileLaws.{FileText-file_of}
use Rattle.ged_line.proofs.owned.write.write_lines.Goals as goal

pub returns-clause-text : goal.returns-clause-text
returns-clause-text c =
    let lines = c.args.lines.now in
    let none : drop c.loop-line.line-index lines ≡ [] = drop_all c.loop-line.line-index lines (omega (arith, c.loop-line-test.false, c.loop-line.auto.line-index-end)) in
    let bytes : c.loop-line.out.items ≡ file_of lines = sym (append-nil c.loop-line.out.items) ∙ rw none at c.loop-line.invariant.bytes in
    let all : take c.loop-line.line-index lines ≡ lines = take_all c.loop-line.line-index lines (omega (arith, c.loop-line-test.false, c.loop-line.auto.line-index-end)) in
    let are_lines : AllByRecursion (λ (line : LineParts). is_line line ≡ true) lines = rw all at c.loop-line.invariant.are_lines in
    subst (FileText lines) (sym bytes) (FileText-file_of lines are_lines)
