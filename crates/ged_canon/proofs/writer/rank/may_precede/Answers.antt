use Rattle.std.proofs.Common.{◌≡◌, ◌<◌, refl, sym, ap, ◌∙◌, arith}
use Rattle.std.proofs.lemmas.Bool.{true≢false}
use Rattle.std.specs.Cmp.{nat_cmp_is}
use Rattle.std.specs.Ordering.{is_lt}
use Rattle.std.specs.declared.cmp.Ordering.TheVariants.{Less}
use Rattle.ged_line.specs.Names.{tag_order}
use Rattle.ged_canon.specs.inner.Ranks.{tag_rank}
use Rattle.ged_canon.proofs.writer.RankOrder.{by_ranks}
use Rattle.ged_canon.proofs.writer.rank.may_precede.Goals as goal

-- a lower rank is that of a tag that stands before the other
pub returns-then-rank-other_rank : goal.returns-then-rank-other_rank
returns-then-rank-other_rank c =
    let a = c.args.tag.now in
    let b = c.args.other.now in
    let low : tag_rank a < tag_rank b = omega (arith, c.if-rank-other_rank.true, c.requires.first, c.requires.second) in
    let less : tag_order a b ≡ Less = sym (by_ranks a b (λ i. (c.type_inv.tag i).fits) (λ i. (c.type_inv.other i).fits) (λ e. absurd (omega (arith, e, low)))) ∙ sym (nat_cmp_is (tag_rank a) (tag_rank b) Less low) in
    ((λ _ e. true≢false (ap is_lt (sym less ∙ e))), (λ _. refl))
