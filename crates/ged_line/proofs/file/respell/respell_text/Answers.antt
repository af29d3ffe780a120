use Rattle.std.proofs.Common.{◌≡◌, ◌<◌, ◌++◌, length, arith, ap, sym, ◌∙◌}
use Rattle.std.proofs.lemmas.List.{append_assoc}
use Rattle.ged_line.specs.Bytes.{Bytes}
use Rattle.ged_line.specs.Pieces.{IsFirstPiece, pieces_of}
use Rattle.ged_line.specs.inner.Respelling.{text_before}
use Rattle.ged_line.proofs.bytes.Cutting.{parts_of_first, nil_of, pieces_of_nil}
use Rattle.ged_line.proofs.file.Respelling.{IsRespelledTo-start, IsRespelledTo-kept, IsRespelledTo-made, IsRespelledTo-length, IsRespelledTo-end, HaveRespelled-fault, HaveRespelled-room}
use Rattle.ged_line.specs.declared.fault.LineFault.TheVariants.{BannedCharacter}
use Rattle.ged_line.proofs.line.Scans.{banned_character}
use Rattle.ged_line.proofs.file.respell.respell_text.Goals as goal

pub loop-rest-init : goal.loop-rest-init
loop-rest-init c = (c.utf8.text, IsRespelledTo-start c.args.text.now c.args.behind.now c.args.answer.now c.requires)

pub overflow_add-line : goal.overflow_add-line
overflow_add-line c =
    let room : c.loop-rest.line < length c.args.text.now =
    HaveRespelled-room c.args.text.now c.loop-rest.line (pieces_of c.loop-rest.rest.now) (pieces_of c.cut_line-has_banned.result.after.now) c.cut_line-has_banned.result.piece.now (text_before (c.args.text.now ++ c.args.behind.now) c.args.answer.now) (c.loop-rest.answer.text ++ c.loop-rest.invariant.1.kept)
    c.cut_line-has_banned.ensures.pieces c.loop-rest.invariant.1.read in
    omega arith

pub returns-in-Err-clause-fault : goal.returns-in-Err-clause-fault
returns-in-Err-clause-fault c =
    HaveRespelled-fault c.args.text.now c.loop-rest.line (pieces_of c.loop-rest.rest.now) (pieces_of c.cut_line-has_banned.result.after.now) c.cut_line-has_banned.result.piece.now (text_before (c.args.text.now ++ c.args.behind.now) c.args.answer.now) (c.loop-rest.answer.text ++ c.loop-rest.invariant.1.kept)
    c.in-Err.fault c.cut_line-has_banned.ensures.pieces c.in-Err.ensures c.loop-rest.invariant.1.read

-- what stands between a line's spelling and what stands after its end
line_front : (rest piece after spelled : Bytes) → IsFirstPiece rest piece after → (blank : Bytes) × (piece ≡ spelled ++ blank) → (more : Bytes) × (rest ≡ spelled ++ (more ++ after))
line_front rest piece after spelled first (blank, cut) =
    let (end, parts) = parts_of_first rest piece after first in (
      blank ++ end,
      parts ∙ ap (λ x. x ++ (end ++ after)) cut ∙ append_assoc spelled blank (end ++ after) ∙ ap (λ x. spelled ++ x) (sym (append_assoc blank end after)),
    )

pub is_line_before-requires : goal.is_line_before-requires
is_line_before-requires c =
    line_front c.loop-rest.rest.now c.cut_line-has_banned.result.piece.now c.cut_line-has_banned.result.after.now c.canonical_text-spelled.result.now
    c.cut_line-has_banned.ensures.first c.canonical_text-spelled.ensures.front

pub push_line-requires-clause-front : goal.push_line-requires-clause-front
push_line-requires-clause-front c =
    line_front c.loop-rest.rest.now c.cut_line-has_banned.result.piece.now c.cut_line-has_banned.result.after.now c.canonical_text-spelled.result.now
    c.cut_line-has_banned.ensures.first c.canonical_text-spelled.ensures.front

pub push_line-requires-clause-left : goal.push_line-requires-clause-left
push_line-requires-clause-left c =
    IsRespelledTo-length c.args.text.now c.loop-rest.line c.loop-rest.rest.now c.args.behind.now c.loop-rest.answer.pending (text_before (c.args.text.now ++ c.args.behind.now) c.args.answer.now)
    c.loop-rest.answer.text c.loop-rest.invariant.1

pub loop-rest-preserved-in_ok-push_line : goal.loop-rest-preserved-in_ok-push_line
loop-rest-preserved-in_ok-push_line c =
    let spelled = c.canonical_text-spelled.result.now in
    let (more, split) =
    line_front c.loop-rest.rest.now c.cut_line-has_banned.result.piece.now c.cut_line-has_banned.result.after.now spelled c.cut_line-has_banned.ensures.first c.canonical_text-spelled.ensures.front in (
      c.cut_line-has_banned.ensures.utf8,
      IsRespelledTo-made c.args.text.now c.loop-rest.line c.loop-rest.rest.now c.cut_line-has_banned.result.after.now c.args.behind.now c.loop-rest.answer.pending c.push_line.new.self.pending
          (text_before (c.args.text.now ++ c.args.behind.now) c.args.answer.now) c.loop-rest.answer.text c.push_line.new.self.text
          c.cut_line-has_banned.result.piece.now more c.in-Ok.view c.cut_line-has_banned.ensures.pieces c.in-Ok.ensures
          (rw (← c.canonical_text-spelled.ensures.spelled) split) (rw (← c.canonical_text-spelled.ensures.spelled) c.in_ok-push_line.ensures.text) c.in_ok-push_line.ensures.pending c.loop-rest.invariant.1,
    )

pub loop-rest-preserved : goal.loop-rest-preserved
loop-rest-preserved c = (
  c.cut_line-has_banned.ensures.utf8,
  IsRespelledTo-kept c.args.text.now c.loop-rest.line c.loop-rest.rest.now c.cut_line-has_banned.result.after.now c.args.behind.now c.loop-rest.answer.pending
      (text_before (c.args.text.now ++ c.args.behind.now) c.args.answer.now) c.loop-rest.answer.text
      c.cut_line-has_banned.result.piece.now c.in-Ok.view c.cut_line-has_banned.ensures.pieces c.in-Ok.ensures (rw (← c.canonical_text-spelled.ensures.spelled) (c.is_line_before.ensures c.if-not-is_line_before.false)) c.loop-rest.invariant.1,
)

pub returns-clause-ok : goal.returns-clause-ok
returns-clause-ok c =
    IsRespelledTo-end c.args.text.now c.loop-rest.line c.loop-rest.rest.now c.args.behind.now c.args.answer.now c.loop-rest.answer
    (pieces_of_nil c.loop-rest.rest.now c.loop-rest-test.ensures) (nil_of c.loop-rest.rest.now c.loop-rest-test.ensures) c.loop-rest.invariant.1

pub returns-then-has_banned-clause-fault : goal.returns-then-has_banned-clause-fault
returns-then-has_banned-clause-fault c =
    HaveRespelled-fault c.args.text.now c.loop-rest.line (pieces_of c.loop-rest.rest.now) (pieces_of c.cut_line-has_banned.result.after.now) c.cut_line-has_banned.result.piece.now (text_before (c.args.text.now ++ c.args.behind.now) c.args.answer.now) (c.loop-rest.answer.text ++ c.loop-rest.invariant.1.kept)
    BannedCharacter c.cut_line-has_banned.ensures.pieces (banned_character c.cut_line-has_banned.result.piece.now c.cut_line-has_banned.ensures.piece_utf8 (sym c.cut_line-has_banned.ensures.banned ∙ c.if-has_banned.true)) c.loop-rest.invariant.1.read
