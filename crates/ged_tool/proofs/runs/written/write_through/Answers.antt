use Rattle.std.proofs.Common.{◌<◌, ◌++◌, [], refl, ◌∙◌, ap, sym, length, take, append-nil, subst, arith}
use Rattle.std.specs.Io.KnownBytes.{Appends}
use Rattle.std.proofs.KnownBytes.{Appends-nil, Appends-trans}
use Rattle.ged_tool.proofs.calls.Pieces.{read_more}
use Rattle.ged_tool.proofs.runs.Writing.{filled, none_left, fewer_left, through_stops}
use Rattle.ged_tool.proofs.runs.written.write_through.Goals as goal

pub loop-reader-init : goal.loop-reader-init
loop-reader-init g c = (c.requires.failed, refl, refl, ([], refl, Appends-nil _))

pub returns-then-count-eq0-clause-ok : goal.returns-then-count-eq0-clause-ok
returns-then-count-eq0-clause-ok g c =
    let (failed, long, stays, (front, was, took)) = c.loop-reader.invariant in
    let room : 0 < length c.loop-reader.buffer = omega (arith, long, c.requires.room) in
    let none = none_left c.loop-reader.reader (length c.loop-reader.buffer) room (ap (λ n. take n c.fill-count.new.buffer) (sym c.if-count-eq0.true) ∙ c.fill-count.ensures.front) in
    (failed, subst (Appends _ _) (sym (was ∙ ap (λ xs. front ++ xs) none ∙ append-nil front)) took)

pub loop-reader-smaller : goal.loop-reader-smaller
loop-reader-smaller g c =
    let (failed, long, stays, (front, was, took)) = c.loop-reader.invariant in
    fewer_left c.loop-reader.reader c.fill-count.new.buffer c.fill-count.new.self (length c.loop-reader.buffer) c.fill-count.result (omega (arith, long, c.requires.room)) (omega (arith, c.if-count-eq0.false))
    (omega (arith, c.fill-count.ensures.count, c.fill-count.ensures.length)) c.fill-count.ensures.front c.fill-count.ensures.rest

pub loop-reader-preserved : goal.loop-reader-preserved
loop-reader-preserved g c =
    let (failed, long, stays, (front, was, took)) = c.loop-reader.invariant in
    let piece = take c.fill-count.result c.fill-count.new.buffer in
    let next = filled c.loop-reader.reader c.fill-count.new.buffer c.fill-count.new.self (length c.loop-reader.buffer) c.fill-count.result c.fill-count.ensures.front c.fill-count.ensures.rest in (
      c.in-Ok.ensures.ok.0,
      c.fill-count.ensures.length ∙ long,
      c.in-Ok.ensures.fate ∙ stays,
      (front ++ piece, read_more _ c.loop-reader.reader front piece c.fill-count.new.self was next, Appends-trans _ _ _ front piece took c.in-Ok.ensures.ok.1),
    )

pub returns-in-Err-clause-err : goal.returns-in-Err-clause-err
returns-in-Err-clause-err g c =
    let (failed, long, stays, (front, was, took)) = c.loop-reader.invariant in
    let piece = take c.fill-count.result c.fill-count.new.buffer in
    let next = filled c.loop-reader.reader c.fill-count.new.buffer c.fill-count.new.self (length c.loop-reader.buffer) c.fill-count.result c.fill-count.ensures.front c.fill-count.ensures.rest in
    let (stopped, written, more, starts) = c.in-Err.ensures.err in
    let (all, went, begins) = through_stops _ _ _ _ c.loop-reader.reader front piece c.fill-count.new.self written was next took more starts in
    (stopped, all, went, begins)
