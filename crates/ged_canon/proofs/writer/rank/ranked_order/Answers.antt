use Rattle.std.proofs.Common.{◌≡◌, ◌≤◌, ◌%◌, sym, ◌∙◌, arith}
use Rattle.ged_canon.specs.inner.Ranks.{tag_rank}
use Rattle.ged_canon.proofs.writer.RankOrder.{by_ranks}
use Rattle.ged_canon.proofs.writer.rank.ranked_order.Goals as goal
use Rattle.ged_canon.proofs.writer.rank.ranked_order.Goals.{else-rank-other_rank-via-then-rank-other_rank+else-rank-gt8, else-rank-other_rank-via-else-rank-other_rank}

pub returns : goal.returns
returns c =
    let told : (tag_rank c.args.tag.now ≡ tag_rank c.args.other.now) → tag_rank c.args.tag.now % 256 ≤ 8 = λ e.
    elim c.else-rank-other_rank.branch [
      | else-rank-other_rank-via-then-rank-other_rank+else-rank-gt8 w ↦ (let k = w.if-rank-gt8.false in omega (arith, k, c.requires.first))
      | else-rank-other_rank-via-else-rank-other_rank w ↦ absurd (w.if-rank-other_rank.false (c.requires.first ∙ e ∙ sym c.requires.second))
    ] in
    rw (c.cmp.ensures, c.requires.first, c.requires.second)
    (by_ranks c.args.tag.now c.args.other.now (λ i. (c.type_inv.tag i).fits) (λ i. (c.type_inv.other i).fits) told)
