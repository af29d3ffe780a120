use Rattle.std.proofs.Common.{refl}
use Rattle.ged_schema.proofs.LineWalking.{walk_covers}
use Rattle.ged_schema.proofs.Marking.{on_true}
use Rattle.ged_schema.proofs.line_walk.LineWalk.coverage.Goals as goal

pub returns-then-self : goal.returns-then-self
returns-then-self c document index is walked =
    let (checked, noted) = walk_covers document c.args.self.now is (on_true c.is_complete.result c.is_complete.ensures.holds c.if-not-is_complete.false)
    (on_true c.is_complete.result c.is_complete.ensures.closed c.if-not-is_complete.false) walked
    ((c.are_led_by_tags.ensures document index).0 c.if-not-are_led_by_tags.false) in
    (checked, noted.0 (rw c.if-self.true refl))

pub returns-else-self : goal.returns-else-self
returns-else-self c document index is walked =
    let (checked, noted) = walk_covers document c.args.self.now is (on_true c.is_complete.result c.is_complete.ensures.holds c.if-not-is_complete.false)
    (on_true c.is_complete.result c.is_complete.ensures.closed c.if-not-is_complete.false) walked
    ((c.are_led_by_tags.ensures document index).0 c.if-not-are_led_by_tags.false) in
    (checked, λ some. let told = noted.1 some in let never = rw c.if-self.false at told in cc)
