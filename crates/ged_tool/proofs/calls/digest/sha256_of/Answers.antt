use Rattle.std.proofs.Common.{◌++◌, ◌∙◌, ◌<◌, [], ap, sym, refl, length, take, append-nil, arith}
use Rattle.sha2.specs.Sha256.{sha256}
use Rattle.ged_tool.proofs.calls.Pieces.{read_more}
use Rattle.ged_tool.proofs.runs.Writing.{filled, none_left, fewer_left}
use Rattle.ged_tool.proofs.calls.digest.sha256_of.Goals as goal

pub loop-reader-init : goal.loop-reader-init
loop-reader-init c = (refl, ([], c.new-hasher.ensures, refl))

pub returns-then-count-eq0 : goal.returns-then-count-eq0
returns-then-count-eq0 c =
    let (long, (front, holds, was)) = c.loop-reader.invariant in
    let room : 0 < length c.loop-reader.buffer = omega (arith, long) in
    let none = none_left c.loop-reader.reader (length c.loop-reader.buffer) room (ap (λ n. take n c.fill-count.new.buffer) (sym c.if-count-eq0.true) ∙ c.fill-count.ensures.front) in
    c.finalize.ensures front holds ∙ ap sha256 (sym (was ∙ ap (λ rest. front ++ rest) none ∙ append-nil front))

pub loop-reader-smaller : goal.loop-reader-smaller
loop-reader-smaller c =
    let (long, held) = c.loop-reader.invariant in
    fewer_left c.loop-reader.reader c.fill-count.new.buffer c.fill-count.new.self (length c.loop-reader.buffer) c.fill-count.result (omega (arith, long)) (omega (arith, c.if-count-eq0.false))
    (omega (arith, c.fill-count.ensures.count, c.fill-count.ensures.length)) c.fill-count.ensures.front c.fill-count.ensures.rest

pub loop-reader-preserved : goal.loop-reader-preserved
loop-reader-preserved c =
    let (long, (front, holds, was)) = c.loop-reader.invariant in
    let piece = take c.fill-count.result c.fill-count.new.buffer in
    let next = filled c.loop-reader.reader c.fill-count.new.buffer c.fill-count.new.self (length c.loop-reader.buffer) c.fill-count.result c.fill-count.ensures.front c.fill-count.ensures.rest in (
      c.fill-count.ensures.length ∙ long,
      (front ++ piece, c.update.ensures front holds, read_more _ c.loop-reader.reader front piece c.fill-count.new.self was next),
    )
