use Rattle.std.proofs.Common.{◌+◌, ◌≤◌, length, arith}
use Rattle.ged_line.specs.Pieces.{pieces_of}
use Rattle.ged_line.specs.inner.Respelling.{text_before}
use Rattle.ged_line.proofs.bytes.Cutting.{are_cut, nil_of, pieces_of_nil}
use Rattle.ged_line.proofs.file.FileLaws.{StopsIn-few}
use Rattle.ged_line.proofs.file.Respelling.{HaveRespelled-start, HaveRespelled-on, HaveRespelled-block_fault, HaveRespelled-all, HaveRespelled-few}
use Rattle.ged_line.proofs.file.respell.respell_rest.Goals as goal

pub loop-unread-init : goal.loop-unread-init
loop-unread-init c = (c.requires, HaveRespelled-start c.args.bytes.now (pieces_of c.args.bytes.now) (text_before c.args.bytes.now c.args.answer.now) (are_cut c.args.bytes.now))

pub respell_block-requires : goal.respell_block-requires
respell_block-requires c = rw (← c.split_block.ensures.parts) c.loop-unread.invariant.0

pub loop-unread-preserved : goal.loop-unread-preserved
loop-unread-preserved c = (
  c.in-Ok.ensures.ok.pending,
  HaveRespelled-on c.args.bytes.now c.loop-unread.lines c.in-Ok.count c.loop-unread.unread.now c.split_block.result.0.now c.split_block.result.1.now (text_before c.args.bytes.now c.args.answer.now)
      c.loop-unread.answer c.respell_block.new.answer c.split_block.ensures.pieces c.split_block.ensures.parts c.in-Ok.ensures.ok c.loop-unread.invariant.1,
)

pub overflow_add-lines : goal.overflow_add-lines
overflow_add-lines c =
    let old = text_before c.args.bytes.now c.args.answer.now in
    let read =
    HaveRespelled-on c.args.bytes.now c.loop-unread.lines c.in-Ok.count c.loop-unread.unread.now c.split_block.result.0.now c.split_block.result.1.now old
    c.loop-unread.answer c.respell_block.new.answer c.split_block.ensures.pieces c.split_block.ensures.parts c.in-Ok.ensures.ok c.loop-unread.invariant.1 in
    let few : c.loop-unread.lines + c.in-Ok.count ≤ length c.args.bytes.now =
    HaveRespelled-few c.args.bytes.now (c.loop-unread.lines + c.in-Ok.count) (pieces_of c.split_block.result.1.now) old (text_before c.split_block.result.1.now c.respell_block.new.answer) read in
    omega arith

pub overflow_add-line : goal.overflow_add-line
overflow_add-line c =
    let told = rw c.in-Err-At.field-0-is at c.in-Err-At.ensures.fault in
    let at = c.in-Err-At.at in
    let stops =
    HaveRespelled-block_fault c.args.bytes.now c.loop-unread.lines at.line (pieces_of c.loop-unread.unread.now) (pieces_of c.split_block.result.1.now) c.split_block.result.0.now
    (text_before c.args.bytes.now c.args.answer.now) (text_before c.loop-unread.unread.now c.loop-unread.answer) at.fault c.split_block.ensures.pieces told c.loop-unread.invariant.1 in
    let few : c.loop-unread.lines + at.line ≤ length c.args.bytes.now = StopsIn-few c.args.bytes.now stops.0 (c.loop-unread.lines + at.line) at.fault stops.1 in
    rw c.in-Err-At.field-0-is (omega arith)

pub returns-in-Err-At-clause-fault : goal.returns-in-Err-At-clause-fault
returns-in-Err-At-clause-fault c =
    let told = rw c.in-Err-At.field-0-is at c.in-Err-At.ensures.fault in
    rw c.in-Err-At.field-0-is (HaveRespelled-block_fault c.args.bytes.now c.loop-unread.lines c.in-Err-At.at.line (pieces_of c.loop-unread.unread.now) (pieces_of c.split_block.result.1.now) c.split_block.result.0.now
    (text_before c.args.bytes.now c.args.answer.now) (text_before c.loop-unread.unread.now c.loop-unread.answer) c.in-Err-At.at.fault c.split_block.ensures.pieces told c.loop-unread.invariant.1)

pub returns-clause-ok : goal.returns-clause-ok
returns-clause-ok c =
    HaveRespelled-all c.args.bytes.now c.loop-unread.lines c.loop-unread.unread.now (text_before c.args.bytes.now c.args.answer.now) c.loop-unread.answer
    (nil_of c.loop-unread.unread.now c.loop-unread-test.ensures) (pieces_of_nil c.loop-unread.unread.now c.loop-unread-test.ensures) c.loop-unread.invariant.1
