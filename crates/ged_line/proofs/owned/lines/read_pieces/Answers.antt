use Rattle.std.proofs.Common.{◌≡◌, ◌∙◌, ap, length, ◌+◌}
use Rattle.ged_line.proofs.file.FileLaws.{HaveReadFile-start, HaveReadFile-more, HaveReadFile-end, HaveReadFile-fault}
use Rattle.ged_line.proofs.owned.lines.read_pieces.Goals as goal

pub loop-piece-init : goal.loop-piece-init
loop-piece-init c = rw (c.new-lines.ensures.items, c.into_iter-piece-iterator.ensures.into_iter_gives) (HaveReadFile-start c.args.bytes.now c.split_pieces-piece-items.result c.split_pieces-piece-items.ensures)

pub loop-piece-preserved : goal.loop-piece-preserved
loop-piece-preserved c =
    HaveReadFile-more c.args.bytes.now c.loop-piece.lines.items c.push.new.self.items c.loop-piece.piece-iterator c.next.new.self c.in-Some.piece.now c.in-Ok.line
    c.in-Some.ensures.steps c.in_ok-push-in-Ok.ensures.items c.in-Ok.ensures.found c.loop-piece.invariant

pub returns-in-Err-Bad : goal.returns-in-Err-Bad
returns-in-Err-Bad c =
    let told = rw c.in-Err-Bad.field-0-is at c.in-Err-Bad.ensures.fault in
    let count : c.len.result ≡ length c.loop-piece.lines.items = c.len.ensures ∙ c.loop-piece.lines.ok.0 in
    rw c.in-Err-Bad.field-0-is (HaveReadFile-fault c.args.bytes.now c.loop-piece.lines.items c.loop-piece.piece-iterator c.next.new.self c.in-Some.piece.now c.in-Err-Bad.fault (c.len.result + 1)
    c.in-Some.ensures.steps told (ap (λ n. n + 1) count) c.loop-piece.invariant)

pub returns : goal.returns
returns c = HaveReadFile-end c.args.bytes.now c.loop-piece.lines.items c.loop-piece.piece-iterator c.in-None.ensures.steps.0 c.loop-piece.invariant
