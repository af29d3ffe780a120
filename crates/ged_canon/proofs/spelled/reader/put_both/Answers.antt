use Rattle.std.proofs.Common.{◌≡◌, ◌-◌, ◌++◌, ◌∙◌, length, take, arith, rules, refl}
use Rattle.std.proofs.lemmas.List.{length-take-le}
use Rattle.ged_canon.proofs.spelled.Filling.{tail_front, tail_stays}
use Rattle.ged_canon.proofs.spelled.reader.put_both.Goals as goal

pub returns-clause-put : goal.returns-clause-put
returns-clause-put c = λ put.
    let first = c.if-not-put_front.ensures in
    tail_front c.args.made_count c.args.kept_count c.put_front.new.buffer c.put_front-2.new.buffer (search rules)
    ∙ (λ i. first.put refl i ++ c.put_front-2.ensures.put put i)

pub returns-clause-behind : goal.returns-clause-behind
returns-clause-behind c = λ at made kept both.
    let first = c.if-not-put_front.ensures in
    let size : length (take c.args.made_count c.args.made.now) ≡ c.args.made_count = length-take-le c.args.made_count c.args.made.now (first.whole refl) in
    tail_stays c.args.buffer.now c.put_front.new.buffer c.put_front-2.new.buffer c.args.made_count at (search rules) (omega (arith, size, both))
    (c.put_front-2.ensures.behind (at - c.args.made_count) (omega (arith, size, kept)) (omega (arith, size, both)))
    (c.put_front.ensures.behind at made (omega (arith, both)))
