use Rattle.ged_line.proofs.file.Respelling.{IsSpelledOn-made}
use Rattle.ged_line.proofs.file.respell.respell_broken.Goals as goal

pub returns-clause-ok : goal.returns-clause-ok
returns-clause-ok c =
    IsSpelledOn-made c.args.block.now c.in_ok-count.count c.args.behind.now c.respell_pieces.new.out.items c.args.answer.now c.push.new.self c.requires
    (rw c.new-made.ensures.items at c.in_ok-count.ensures.ok) (rw c.deref.ensures.value at c.in_ok-push.ensures.text) c.in_ok-push.ensures.pending
