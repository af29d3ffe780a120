use Rattle.std.proofs.Common.{◌+◌, ◌++◌, length, take, drop, ◌∙◌, ap}
use Rattle.ged_line.specs.Bytes.{Bytes}
use Rattle.ged_c.proofs.Putting.{HasPut-step}
use Rattle.ged_c.proofs.respelling.put_parts.Goals as goal

pub loop-part-preserved : goal.loop-part-preserved
loop-part-preserved c =
    let place = c.loop-part.at in
    let room = c.loop-part.room in
    HasPut-step c.args.parts.now c.loop-part.part-index place c.part-item.result c.args.room.now room c.loop-part-test.true c.part-item.is c.loop-part.invariant
    c.put_at-at.new.room c.put_at-at-in-loop-part.new.room c.put_at-at.result c.put_at-at-in-loop-part.result
    (c.put_at-at.ensures.place ∙ ap (λ (bs : Bytes). place + length bs) c.deref.ensures.value)
    (c.put_at-at.ensures.bytes ∙ ap (λ (bs : Bytes). take place room ++ (bs ++ drop (place + length bs) room)) c.deref.ensures.value)
    c.put_at-at-in-loop-part.ensures.place
    c.put_at-at-in-loop-part.ensures.bytes
