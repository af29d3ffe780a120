use Rattle.std.proofs.lemmas.List.Sorted.{IsPermutation-put_mid}
use Rattle.ged_link.proofs.groups.sort_group.Goals as goal

pub returns : goal.returns
returns c = IsPermutation-put_mid c.args.start _ c.args.pairs.now _ c.sort_unstable_by_key.ensures.permutation
