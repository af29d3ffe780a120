use Rattle.std.proofs.Common.{sym, subst, List, ℕ}
use Rattle.ged_link.specs.Notices.{AreOneWay}
use Rattle.ged_link.specs.Indexes.{place_in}
use Rattle.ged_link.proofs.LawLemmas.{resolved_of}
use Rattle.ged_link.proofs.OneWayLemmas.{are_one_way}
use Rattle.ged_link.proofs.resolving.resolve_listed.Goals as goal

pub returns-clause-resolved : goal.returns-clause-resolved
returns-clause-resolved g c =
    resolved_of (g.F.Forest.trees c.args.forest.now) c.requires.document c.in_ok-names.ensures.distinct c.in_ok-followed.ensures.found

pub returns-clause-index : goal.returns-clause-index
returns-clause-index g c =
    let w = g.F.Forest.trees c.args.forest.now in
    let are = c.in_ok-names.ensures.records in
    record {
      resolved = resolved_of w c.requires.document c.in_ok-names.ensures.distinct c.in_ok-followed.ensures.found;
      records = are;
      typed = c.in_ok-names.ensures.types;
      used = c.in_ok-followed.ensures.used;
      targets = c.in_ok-followed.ensures.targets;
      led = c.in_ok-followed.ensures.led;
      places = c.in_ok-names.ensures.places;
      one_way = subst (λ (places : List ℕ). AreOneWay w places) (sym c.in_ok-one_way.ensures) (are_one_way w c.requires.document (place_in c.in_ok-names.field-0.names) are.placed);
    }

pub follow_pointers-requires-clause-records : goal.follow_pointers-requires-clause-records
follow_pointers-requires-clause-records g c = record {
  document = c.requires.document;
  named = c.in_ok-names.ensures.records;
  typed = rw c.deref.ensures.value c.in_ok-names.ensures.types;
  placed = rw c.deref-2.ensures.value c.in_ok-names.ensures.places;
}

pub find_one_way-requires-clause-records : goal.find_one_way-requires-clause-records
find_one_way-requires-clause-records g c = record {
  document = c.requires.document;
  named = c.in_ok-names.ensures.records;
  typed = rw c.deref.ensures.value c.in_ok-names.ensures.types;
  placed = rw c.deref-2.ensures.value c.in_ok-names.ensures.places;
}

pub follow_pointers-requires-clause-types : goal.follow_pointers-requires-clause-types
follow_pointers-requires-clause-types g c = rw c.deref.ensures.value c.in_ok-names.ensures.listed
