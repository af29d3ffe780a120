use Rattle.std.proofs.Common.{rules, ◌≡◌, false, inl}
use Rattle.ged_canon.proofs.writer.PlainLines.{undated}
use Rattle.ged_canon.proofs.writer.bare.stays.Goals as goal

pub returns-then-not-may_begin_dated : goal.returns-then-not-may_begin_dated
returns-then-not-may_begin_dated c = λ told level tag rest digit is.
    let off : c.may_begin_dated.result ≡ false = search rules in
    inl (undated level tag rest c.args.line.now digit is (c.may_begin_dated.ensures.date off) (c.may_begin_dated.ensures.sdate off))
