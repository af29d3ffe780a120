use Rattle.std.proofs.Common.{◌<◌, ◌^◌, ◌+◌, [], ◌∷◌, ◌++◌, length, refl, rules}
use Rattle.ged_tree.proofs.theory.ReadLines.{HaveReadFile-start, HaveReadFile-more, HaveReadFile-end, HaveReadFile-fault}
use Rattle.ged_tree.proofs.laws.WholeFiles.{of_lines, of_stop}
use Rattle.ged_tree.proofs.laws.whole_files.document_or_fault_of_file.Goals as goal

pub loop-piece-init : goal.loop-piece-init
loop-piece-init c = rw c.into_iter-piece-iterator.ensures.into_iter_gives ([], HaveReadFile-start c.args.file.now c.split_pieces-piece-items.result c.split_pieces-piece-items.ensures)

pub loop-piece-preserved : goal.loop-piece-preserved
loop-piece-preserved c =
    let lines = c.loop-piece.invariant.0 in
    let line = c.in-Ok.field-0 in
    (lines ++ line ∷ [], HaveReadFile-more c.args.file.now lines (lines ++ line ∷ []) c.loop-piece.piece-iterator c.next.new.self c.in-Some.piece.now line c.in-Some.ensures.steps refl c.in-Ok.ensures.found c.loop-piece.invariant.1)

pub returns-in-Err : goal.returns-in-Err
returns-in-Err c =
    let lines = c.loop-piece.invariant.0 in
    of_stop c.args.file.now lines (length lines + 1) c.in-Err.field-0
    (HaveReadFile-fault c.args.file.now lines c.loop-piece.piece-iterator c.next.new.self c.in-Some.piece.now c.in-Err.field-0 (length lines + 1) c.in-Some.ensures.steps c.in-Err.ensures.fault refl c.loop-piece.invariant.1)

pub returns : goal.returns
returns c =
    let lines = c.loop-piece.invariant.0 in
    let small : length c.args.file.now < 2 ^ 63 = search rules in
    of_lines c.args.file.now lines (HaveReadFile-end c.args.file.now lines c.loop-piece.piece-iterator c.in-None.ensures.steps.0 c.loop-piece.invariant.1) small
