use Rattle.std.proofs.Common.{arith}
use Rattle.ged_canon.proofs.writer.RankOrder.{front_of_any, counted_is}
use Rattle.ged_canon.proofs.writer.rank.rank_of_any.Goals as goal

pub returns : goal.returns
returns c =
    let tag = c.args.tag.now in
    omega (arith, front_of_any tag, counted_is 7 tag, c.min-count.ensures, c.byte_at.ensures.value, c.byte_at-2.ensures.value, c.byte_at-3.ensures.value, c.byte_at-4.ensures.value, c.byte_at-5.ensures.value, c.byte_at-6.ensures.value, c.byte_at-7.ensures.value)
