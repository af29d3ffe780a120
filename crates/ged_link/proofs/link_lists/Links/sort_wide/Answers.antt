use Rattle.std.proofs.Common.{sym}
use Rattle.std.proofs.lemmas.List.Sorted.{list_any-IsPermutation}
use Rattle.ged_link.specs.inner.LinkWalks.{pair_eq}
use Rattle.ged_link.proofs.link_lists.Links.sort_wide.Goals as goal

pub returns-clause-kept : goal.returns-clause-kept
returns-clause-kept c = λ pair. sym (list_any-IsPermutation (pair_eq pair) _ _ c.sort_unstable.ensures.permutation)
