use Rattle.ged_c.proofs.Putting.{HasPut}
use Rattle.ged_c.proofs.respelling.put_parts.Given as goal

-- the parts so far were put
abbrev pub invariant-loop-part : goal.invariant-loop-part
invariant-loop-part l = HasPut l.parts l.part-index l.at l.fn.room l.room
