use Rattle.std.proofs.Common.{◌<◌, ℕ, slice_index_or, ap, subst, ◌∙◌}
use Rattle.ged_line.specs.Bytes.{Bytes}
use Rattle.ged_canon.specs.inner.Ranks.{tag_rank}
use Rattle.ged_canon.proofs.writer.siblings.ranked_sibling.Goals as goal

pub returns-clause-stands : goal.returns-clause-stands
returns-clause-stands g c = record {
  within = c.requires;
  ranked = c.rank_of-rank.ensures.rank ∙ ap tag_rank c.tag.ensures;
  bytes = subst (λ (tag : Bytes). (at : ℕ) → slice_index_or tag at 0 < 256) c.tag.ensures c.rank_of-rank.ensures.bytes;
}
