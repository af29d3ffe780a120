use Rattle.std.proofs.Common.{◌≡◌, take}
use Rattle.std.specs.List.{AllByRecursion}
use Rattle.ged_canon.specs.inner.Siblings.{HasOwnTag, untagged}
use Rattle.ged_canon.proofs.writer.compared.tagged_siblings.Given as goal

-- so far they have their tags
abbrev pub invariant-loop-each : goal.invariant-loop-each
invariant-loop-each g l = record {
  siblings : untagged l.tagged.items ≡ take l.each-index l.siblings;
  tags : AllByRecursion (HasOwnTag (g.F.Forest.trees l.forest)) l.tagged.items;
}
