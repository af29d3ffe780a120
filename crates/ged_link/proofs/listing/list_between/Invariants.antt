use Rattle.std.proofs.Common.{◌≡◌, ◌-◌, ◌++◌, List, Option, fold, map, replicate}
use Rattle.ged_tree.specs.Trees.{records_of}
use Rattle.ged_tree.specs.Runs.{trees_between, IsRunOfTrees}
use Rattle.ged_link.specs.Links.{identifiers}
use Rattle.ged_link.specs.declared.record_type.RecordType.{RecordType}
use Rattle.std.specs.Hash.DefaultHasher.{initial}
use Rattle.ged_link.specs.inner.Keys.{fed_long}
use Rattle.ged_link.specs.inner.Layout.{counted, no_names}
use Rattle.ged_link.specs.inner.Listing.{listed_halves, listed_digits, all_halves, all_digits, AreTypesOf}
use Rattle.ged_link.proofs.listing.list_between.Given as goal

abbrev pub invariant-loop-after : goal.invariant-loop-after
invariant-loop-after g l =
    let trees = g.F.Forest.trees l.forest in
    record {
      run : IsRunOfTrees trees l.place l.end;
      tallies : fold counted l.list.tallies.items (identifiers (trees_between trees l.place l.end)) ≡ fold counted (replicate 256 no_names) (identifiers (records_of trees));
      names : all_halves l.list ++ map listed_halves (identifiers (trees_between trees l.place l.end)) ≡ map listed_halves (identifiers (records_of trees));
      digits : all_digits l.list ++ map listed_digits (identifiers (trees_between trees l.place l.end)) ≡ map listed_digits (identifiers (records_of trees));
      long : fold fed_long l.list.long.hasher (identifiers (trees_between trees l.place l.end)) ≡ fold fed_long initial (identifiers (records_of trees));
      types : (more : List (Option RecordType)) → AreTypesOf more (trees_between trees l.place l.end) → AreTypesOf (l.list.types.items ++ more) (records_of trees);
    }

abbrev pub decreases-loop-after : goal.decreases-loop-after
decreases-loop-after g l = l.end - l.place
