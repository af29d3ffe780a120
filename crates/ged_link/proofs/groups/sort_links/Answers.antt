use Rattle.std.proofs.lemmas.List.Sorted.{IsPermutation-trans}
use Rattle.ged_link.proofs.groups.sort_links.Goals as goal

pub returns-clause-permutation : goal.returns-clause-permutation
returns-clause-permutation c = IsPermutation-trans _ _ _ c.sort_groups.ensures c.sort_unstable.ensures.permutation
