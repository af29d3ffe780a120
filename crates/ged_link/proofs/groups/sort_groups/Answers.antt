use Rattle.std.proofs.Common.{arith}
use Rattle.std.proofs.lemmas.List.Sorted.{IsPermutation-trans, length_permutation}
use Rattle.ged_link.proofs.groups.sort_groups.Goals as goal

pub loop-start-preserved-then-end-start-gt1 : goal.loop-start-preserved-then-end-start-gt1
loop-start-preserved-then-end-start-gt1 c =
    let all = c.sort_group.ensures in
    let within = c.group_end-end.ensures.within in
    record {
      within = omega (arith, within, length_permutation _ _ all);
      kept = IsPermutation-trans _ _ _ c.loop-start.invariant.kept all;
    }
