use Rattle.std.proofs.Common.{◌≡◌, ◌++◌, ◌∙◌, rules}
use Rattle.ged_canon.proofs.spelled.Reading.{passed_more, read_more, left_begins, front_is}
use Rattle.ged_canon.proofs.spelled.reader.FormReader.passes.Goals as goal

pub returns-then-ne-clause-other : goal.returns-then-ne-clause-other
returns-then-ne-clause-other c = λ _ starts.
    let (front, text, self) = c.loop-left.invariant in
    let begins = left_begins _ c.loop-left.left.now _ c.loop-left.self front text self starts in
    let same : c.split_at.result.0.now ≡ c.next_up_to-piece.result.now =
    c.split_at.ensures.front ∙ front_is c.loop-left.left.now c.loop-left.self c.next_up_to-piece.result.now _ begins c.next_up_to-piece.ensures.front c.next_up_to-piece.ensures.few in
    search rules

pub returns-then-ne-clause-part : goal.returns-then-ne-clause-part
returns-then-ne-clause-part c =
    let (front, text, self) = c.loop-left.invariant in
    read_more _ c.loop-left.self front c.next_up_to-piece.result.now c.next_up_to-piece.new.self self c.next_up_to-piece.ensures.front

pub loop-left-preserved : goal.loop-left-preserved
loop-left-preserved c =
    let (front, text, self) = c.loop-left.invariant in
    let same : c.split_at.result.0.now ≡ c.next_up_to-piece.result.now = search rules in
    let whole : c.loop-left.left.now ≡ c.next_up_to-piece.result.now ++ c.split_at.result.1.now = search rules in
    passed_more _ c.loop-left.left.now _ c.loop-left.self front c.next_up_to-piece.result.now c.split_at.result.1.now c.next_up_to-piece.new.self text self whole c.next_up_to-piece.ensures.front
