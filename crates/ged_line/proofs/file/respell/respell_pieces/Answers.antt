use Rattle.std.proofs.Common.{◌<◌, length, arith}
use Rattle.ged_line.proofs.file.Respelling.{HaveRespelled-more, HaveRespelled-end, HaveRespelled-fault, HaveRespelled-room}
use Rattle.ged_line.proofs.file.respell.respell_pieces.Goals as goal

pub overflow_add-line : goal.overflow_add-line
overflow_add-line c =
    let room : c.loop-piece.line < length c.args.bytes.now =
    HaveRespelled-room c.args.bytes.now c.loop-piece.line c.loop-piece.piece-iterator c.next.new.self c.in-Some.piece.now c.args.out.now.items c.loop-piece.out.items
    c.in-Some.ensures.steps c.loop-piece.invariant in
    omega arith

pub returns-in-Err-clause-fault : goal.returns-in-Err-clause-fault
returns-in-Err-clause-fault c =
    HaveRespelled-fault c.args.bytes.now c.loop-piece.line c.loop-piece.piece-iterator c.next.new.self c.in-Some.piece.now c.args.out.now.items c.loop-piece.out.items
    c.in-Err.fault c.in-Some.ensures.steps c.in-Err.ensures.fault c.loop-piece.invariant

pub loop-piece-preserved : goal.loop-piece-preserved
loop-piece-preserved c =
    HaveRespelled-more c.args.bytes.now c.loop-piece.line c.loop-piece.piece-iterator c.next.new.self c.in-Some.piece.now c.args.out.now.items c.loop-piece.out.items
    c.write_view.new.out.items c.in-Ok.view c.in-Some.ensures.steps c.in-Ok.ensures.found c.in_ok-write_view.ensures.ok c.loop-piece.invariant

pub returns-clause-ok : goal.returns-clause-ok
returns-clause-ok c =
    HaveRespelled-end c.args.bytes.now c.loop-piece.line c.loop-piece.piece-iterator c.args.out.now.items c.loop-piece.out.items c.in-None.ensures.steps.0 c.loop-piece.invariant
