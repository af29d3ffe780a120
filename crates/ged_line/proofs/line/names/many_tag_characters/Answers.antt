use Rattle.std.proofs.Common.{◌≡◌, ◌≤◌, length, sym, ap, arith}
use Rattle.ged_line.proofs.line.NameMarks.{first_other, before_other}
use Rattle.ged_line.proofs.line.names.many_tag_characters.Goals as goal

pub returns-clause-inside : goal.returns-clause-inside
returns-clause-inside c =
    let found = first_other c.as_bytes-bytes.result.now 8 c.other_marks-others.result c.other_marks-others.ensures c.other_marks-others.type_inv c.if-others-eq0.false in
    let same : length c.as_bytes-bytes.result.now ≡ length c.args.text.now = ap length c.as_bytes-bytes.ensures.value in
    let long : 8 ≤ length c.as_bytes-bytes.result.now = c.if-bytes-lt-RUN.false in
    omega (arith, found.0)

pub returns-clause-front : goal.returns-clause-front
returns-clause-front c =
    rw (sym c.as_bytes-bytes.ensures.value)
    (before_other c.as_bytes-bytes.result.now 8 c.other_marks-others.result c.other_marks-others.ensures c.other_marks-others.type_inv c.if-others-eq0.false)

pub returns-clause-stop : goal.returns-clause-stop
returns-clause-stop c = λ _.
    rw (sym c.as_bytes-bytes.ensures.value)
    (first_other c.as_bytes-bytes.result.now 8 c.other_marks-others.result c.other_marks-others.ensures c.other_marks-others.type_inv c.if-others-eq0.false).1
