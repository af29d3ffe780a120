use Rattle.std.proofs.Common.{◌≡◌, ◌++◌, ◌∷◌, [], false, OnOk, OnErr, IsTrue, sym, subst, arith}
use Rattle.std.proofs.lemmas.Fmt.{decimal_digit}
use Rattle.itoa.proofs.Decimal.{decimal_two}
use Rattle.ged_devices.specs.Buffers.{GoesThrough, StopsWithin}
use Rattle.ged_accept.proofs.show.write_level.Goals as goal

pub returns-then-level-lt10-clause-ok : goal.returns-then-level-lt10-clause-ok
returns-then-level-lt10-clause-ok g c =
    subst (λ ds. OnOk c.write_buffered.result ((g.W.Sink.failed c.write_buffered.new.writer ≡ false)
    × GoesThrough (g.W.Sink.taken c.args.writer.now) (g.W.Sink.taken c.write_buffered.new.writer) c.args.buffer.now.items c.write_buffered.new.buffer.items (ds ++ 32 ∷ [])))
    (sym (decimal_digit c.args.level c.if-level-lt10.true)) c.write_buffered.ensures.ok

pub returns-then-level-lt10-clause-err : goal.returns-then-level-lt10-clause-err
returns-then-level-lt10-clause-err g c =
    subst (λ ds. OnErr c.write_buffered.result (IsTrue (g.W.Sink.failed c.write_buffered.new.writer)
    × StopsWithin (g.W.Sink.taken c.args.writer.now) (g.W.Sink.taken c.write_buffered.new.writer) c.args.buffer.now.items (ds ++ 32 ∷ [])))
    (sym (decimal_digit c.args.level c.if-level-lt10.true)) c.write_buffered.ensures.err

pub returns-then-level-lt100-clause-ok : goal.returns-then-level-lt100-clause-ok
returns-then-level-lt100-clause-ok g c =
    subst (λ ds. OnOk c.write_buffered-then-level-lt100.result ((g.W.Sink.failed c.write_buffered-then-level-lt100.new.writer ≡ false)
    × GoesThrough (g.W.Sink.taken c.args.writer.now) (g.W.Sink.taken c.write_buffered-then-level-lt100.new.writer) c.args.buffer.now.items c.write_buffered-then-level-lt100.new.buffer.items (ds ++ 32 ∷ [])))
    (sym (decimal_two c.args.level (omega (arith, c.if-level-lt10.false)) c.if-level-lt100.true)) c.write_buffered-then-level-lt100.ensures.ok

pub returns-then-level-lt100-clause-err : goal.returns-then-level-lt100-clause-err
returns-then-level-lt100-clause-err g c =
    subst (λ ds. OnErr c.write_buffered-then-level-lt100.result (IsTrue (g.W.Sink.failed c.write_buffered-then-level-lt100.new.writer)
    × StopsWithin (g.W.Sink.taken c.args.writer.now) (g.W.Sink.taken c.write_buffered-then-level-lt100.new.writer) c.args.buffer.now.items (ds ++ 32 ∷ [])))
    (sym (decimal_two c.args.level (omega (arith, c.if-level-lt10.false)) c.if-level-lt100.true)) c.write_buffered-then-level-lt100.ensures.err
