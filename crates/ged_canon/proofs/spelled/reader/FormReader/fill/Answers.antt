use Rattle.std.proofs.Common.{◌+◌, arith, sym, eqb-true}
use Rattle.std.proofs.lemmas.List.{nil_from_length}
use Rattle.ged_canon.proofs.spelled.Filling.{put_more, piece_more, filled_whole}
use Rattle.ged_canon.proofs.spelled.reader.FormReader.fill.Goals as goal

pub returns-then-is_empty-clause-front : goal.returns-then-is_empty-clause-front
returns-then-is_empty-clause-front c =
    let runs = c.put_runs-filled in
    let filled = put_more _ _ _ _ _ runs.new.buffer c.loop-piece.filled runs.result c.loop-piece.invariant runs.ensures.count runs.ensures.few runs.ensures.length runs.ensures.front runs.ensures.behind runs.ensures.rest in
    (filled_whole _ _ _ _ _ filled (λ more. c.next_up_to-piece.ensures.some more (nil_from_length _ (eqb-true _ 0 (sym c.if-is_empty.ensures))))).0

pub returns-then-is_empty-clause-behind : goal.returns-then-is_empty-clause-behind
returns-then-is_empty-clause-behind c =
    let runs = c.put_runs-filled in
    let filled = put_more _ _ _ _ _ runs.new.buffer c.loop-piece.filled runs.result c.loop-piece.invariant runs.ensures.count runs.ensures.few runs.ensures.length runs.ensures.front runs.ensures.behind runs.ensures.rest in
    (filled_whole _ _ _ _ _ filled (λ more. c.next_up_to-piece.ensures.some more (nil_from_length _ (eqb-true _ 0 (sym c.if-is_empty.ensures))))).1

pub loop-piece-preserved : goal.loop-piece-preserved
loop-piece-preserved c =
    let runs = c.put_runs-filled in
    let filled = put_more _ _ _ _ _ runs.new.buffer c.loop-piece.filled runs.result c.loop-piece.invariant runs.ensures.count runs.ensures.few runs.ensures.length runs.ensures.front runs.ensures.behind runs.ensures.rest in
    let piece = c.next_up_to-piece in
    piece_more _ _ _ _ piece.result.now piece.new.self c.copy_from_slice.new.self (c.loop-piece.filled + runs.result) _ filled piece.ensures.front piece.ensures.few (omega arith) c.copy_from_slice.ensures.after
