use Rattle.std.proofs.Common.{◌-◌, ◌≡◌, ◌≤◌, ◌++◌, true, drop, length, map, List, Option}
use Rattle.ged_tree.specs.Trees.{records_of}
use Rattle.ged_tree.specs.Documents.{are_at}
use Rattle.ged_tree.specs.Runs.{trees_between, IsRunOfTrees}
use Rattle.ged_link.specs.Links.{identifiers}
use Rattle.ged_link.specs.Indexes.{AreTyped}
use Rattle.ged_link.specs.Places.{places_from, record_places, place_kept}
use Rattle.ged_link.specs.declared.record_type.RecordType.{RecordType}
use Rattle.ged_link.specs.inner.Indexes.{IsKeyed}
use Rattle.ged_link.specs.inner.Listing.{IsListedFrom, AreTypesOf}
use Rattle.ged_link.specs.inner.Resolving.{AreRecordsBefore}
use Rattle.ged_link.proofs.resolving.add_records.Given as goal

abbrev pub invariant-loop-after : goal.invariant-loop-after
invariant-loop-after g l =
    let trees = g.F.Forest.trees l.forest in
    record {
      run : IsRunOfTrees trees l.place l.end;
      level : are_at 0 (trees_between trees l.place l.end) ≡ true;
      left : drop l.number (identifiers (records_of trees)) ≡ identifiers (trees_between trees l.place l.end);
      listed : IsListedFrom trees l.listed l.number l.place l.end;
      few : l.number ≤ length (identifiers (records_of trees));
      fits : l.number ≤ l.place;
      found : AreRecordsBefore trees l.place l.number l.records;
      typed : (types : List (Option RecordType)) → AreTypesOf types (records_of trees) → AreTypesOf (drop l.number types) (trees_between trees l.place l.end) × AreTyped trees l.records types;
      keyed : IsKeyed (identifiers (records_of trees)) l.records;
      placed : l.places.items ++ map place_kept (places_from l.place (trees_between trees l.place l.end)) ≡ map place_kept (record_places trees);
    }

abbrev pub decreases-loop-after : goal.decreases-loop-after
decreases-loop-after g l = l.end - l.place
