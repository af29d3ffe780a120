use Rattle.std.proofs.Common.{◌≡◌, ◌+◌, ℕ, List, Option, None, true, false, inr, inl, sym, ap, ◌∙◌, ◌++◌, refl, arith, subst, map, slice_index_or, drop}
use Rattle.ged_tree.specs.Places.{structure_at}
use Rattle.ged_tree.specs.Trees.{Trees, trees_count, records_of}
use Rattle.ged_tree.specs.Documents.{are_at}
use Rattle.ged_tree.specs.Runs.{trees_between, IsStep}
use Rattle.ged_line.specs.Bytes.{Bytes}
use Rattle.ged_link.specs.Links.{IsAmong, identifiers}
use Rattle.ged_link.specs.declared.names.Names.{Names}
use Rattle.ged_link.specs.declared.index.RecordPlace.{RecordPlace}
use Rattle.ged_link.specs.Places.{places_from, record_places, place_kept}
use Rattle.ged_link.specs.RecordTypes.{IsTypeOf}
use Rattle.ged_link.specs.inner.Listing.{listed_halves, listed_digits, AreTypesOf}
use Rattle.ged_link.specs.inner.Resolving.{AddsRecord}
use Rattle.ged_link.proofs.KeyLemmas.{among_left, among_here, none_empty}
use Rattle.ged_link.proofs.KeptPlaces.{places_start, places_next, places_end}
use Rattle.ged_link.proofs.ListingLemmas.{listed_next, types_next}
use Rattle.ged_link.proofs.RecordLemmas.{left_after, level_next, number_within, records_start, records_level, records_next, records_all, repeated_here, none_repeated_all, typed_start, typed_next}
use Rattle.ged_link.proofs.WalkLemmas.{nearer}
use Rattle.ged_link.proofs.resolving.add_records.Goals as goal

pub loop-after-init : goal.loop-after-init
loop-after-init g c =
    let w = g.F.Forest.trees c.args.forest.now in
    let is = c.requires.all in
    record {
      run = c.requires.run;
      level = ap (are_at 0) is ∙ records_level w c.requires.document;
      left = ap identifiers (sym is);
      listed = record {
        unnamed = c.unnamed.ensures;
        halves = c.requires.names ∙ ap (λ (t : Trees). map listed_halves (identifiers t)) (sym is);
        digits = c.requires.digits ∙ ap (λ (t : Trees). map listed_digits (identifiers t)) (sym is);
      };
      few = omega arith;
      fits = omega arith;
      found = records_start w c.requires.document c.args.start c.args.end c.requires.end c.requires.run is c.args.records.now c.requires.none;
      typed = λ types are. (subst (AreTypesOf types) (sym is) are, typed_start w c.args.records.now types c.requires.none);
      keyed = c.requires.keyed;
      placed =
          let sum : c.args.start + trees_count (records_of w) ≡ trees_count w = rw (is, c.requires.end) at c.requires.run.fills in
          ap (λ (ps : List ℕ). ps ++ map place_kept (places_from c.args.start (trees_between w c.args.start c.args.end))) c.in-Ok.ensures.items
          ∙ ap (λ (t : Trees). map place_kept (places_from c.args.start t)) is ∙ ap (map place_kept) (places_start w c.args.start sum);
    }

pub returns-in-Ok-false-clause-fault : goal.returns-in-Ok-false-clause-fault
returns-in-Ok-false-clause-fault g c =
    let w = g.F.Forest.trees c.args.forest.now in
    let p = c.loop-after.place in
    let k = c.loop-after.number in
    let old : Names = c.loop-after.records in
    let new : Names = c.add_record.new.records in
    let one : RecordPlace = record { number = k; place = p } in
    let adds : AddsRecord old new (structure_at w p).xref one false = subst (AddsRecord old new (structure_at w p).xref one) c.in-Ok-false.field-0-test c.in-Ok-false.ensures.added in
    inr (p, repeated_here w p k old new one adds c.in-Some.ensures.within c.loop-after.invariant.found, c.line.ensures)

pub loop-after-preserved : goal.loop-after-preserved
loop-after-preserved g c =
    let w = g.F.Forest.trees c.args.forest.now in
    let p = c.loop-after.place in
    let e = c.args.end in
    let a = c.in-Some.after in
    let k = c.loop-after.number in
    let inv = c.loop-after.invariant in
    let old : Names = c.loop-after.records in
    let new : Names = c.add_record.new.records in
    let one : RecordPlace = record { number = k; place = p } in
    let step : IsStep w p e a = c.in-Some.ensures in
    let here = structure_at w p in
    let adds : AddsRecord old new here.xref one true = subst (AddsRecord old new here.xref one) c.in-Ok-true.field-0-test c.in-Ok-true.ensures.added in
    record {
      run = step.rest;
      level = level_next w p e a k step inv.left inv.level;
      left = left_after w p e a k step inv.left;
      listed = listed_next w _ k p e a inv.listed step;
      few = number_within w p e a k step inv.left;
      fits = omega (arith, inv.fits, step.forth);
      found = records_next w p e a k step inv.left inv.level old new one refl refl adds inv.found;
      typed = λ types are.
          let before = inv.typed types are in
          let next : IsTypeOf (slice_index_or types k None) here.tag × AreTypesOf (drop (k + 1) types) (trees_between w a e) =
          types_next types k (trees_between w p e) here (trees_between w (p + 1) a) (trees_between w a e) step.first before.0 in
          (next.1, typed_next w p e a k step inv.left inv.level old new types one refl refl next.0 adds before.1);
      keyed =
          let left = inv.left ∙ ap identifiers step.first in
          c.in-Ok-true.ensures.keyed (identifiers (records_of w)) c.requires.names (among_left (identifiers (records_of w)) k here.xref (identifiers (trees_between w a e)) left) inv.keyed;
      placed = ap (λ (ps : List ℕ). ps ++ map place_kept (places_from a (trees_between w a e))) c.in-Ok-push_place.ensures
          ∙ places_next w p e a step c.loop-after.places.items (map place_kept (record_places w)) inv.placed;
    }

pub returns-clause-records : goal.returns-clause-records
returns-clause-records g c =
    let w = g.F.Forest.trees c.args.forest.now in
    let inv = c.loop-after.invariant in
    records_all w c.loop-after.place c.loop-after.number c.args.end c.loop-after.records c.requires.end inv.run c.in_default-next_in_run.ensures inv.left inv.found

pub returns-clause-types : goal.returns-clause-types
returns-clause-types g c types are = (c.loop-after.invariant.typed types are).1

pub returns-clause-distinct : goal.returns-clause-distinct
returns-clause-distinct g c =
    let w = g.F.Forest.trees c.args.forest.now in
    let inv = c.loop-after.invariant in
    none_repeated_all w c.loop-after.place c.loop-after.number c.args.end c.loop-after.records c.requires.end inv.run c.in_default-next_in_run.ensures inv.found

pub add_record-requires-clause-named : goal.add_record-requires-clause-named
add_record-requires-clause-named g c is =
    let w = g.F.Forest.trees c.args.forest.now in
    let p = c.loop-after.place in
    let left = trees_between w p c.args.end in
    none_empty left c.loop-after.invariant.level (subst (λ (xref : Option Bytes). IsAmong xref (identifiers left)) is (among_here w p c.args.end c.in-Some.after c.in-Some.ensures))

pub add_record-requires-clause-listed : goal.add_record-requires-clause-listed
add_record-requires-clause-listed g c = (c.args.end, c.in-Some.after, c.in-Some.ensures, c.loop-after.invariant.listed)

pub returns-in_default-clause-records : goal.returns-in_default-clause-records
returns-in_default-clause-records g c = tt

pub returns-in_default-clause-keyed : goal.returns-in_default-clause-keyed
returns-in_default-clause-keyed g c = tt

pub returns-in_default-clause-types : goal.returns-in_default-clause-types
returns-in_default-clause-types g c types are = tt

pub returns-in_default-clause-places : goal.returns-in_default-clause-places
returns-in_default-clause-places g c = tt

pub returns-in_default-clause-distinct : goal.returns-in_default-clause-distinct
returns-in_default-clause-distinct g c = tt

pub returns-in-Ok-false-clause-records : goal.returns-in-Ok-false-clause-records
returns-in-Ok-false-clause-records g c = tt

pub returns-in-Ok-false-clause-keyed : goal.returns-in-Ok-false-clause-keyed
returns-in-Ok-false-clause-keyed g c = tt

pub returns-in-Ok-false-clause-types : goal.returns-in-Ok-false-clause-types
returns-in-Ok-false-clause-types g c types are = tt

pub returns-in-Ok-false-clause-places : goal.returns-in-Ok-false-clause-places
returns-in-Ok-false-clause-places g c = tt

pub returns-in-Ok-false-clause-distinct : goal.returns-in-Ok-false-clause-distinct
returns-in-Ok-false-clause-distinct g c = tt

pub returns-in-Err-clause-records : goal.returns-in-Err-clause-records
returns-in-Err-clause-records g c = tt

pub returns-in-Err-clause-keyed : goal.returns-in-Err-clause-keyed
returns-in-Err-clause-keyed g c = tt

pub returns-in-Err-clause-types : goal.returns-in-Err-clause-types
returns-in-Err-clause-types g c types are = tt

pub returns-in-Err-clause-places : goal.returns-in-Err-clause-places
returns-in-Err-clause-places g c = tt

pub returns-in-Err-clause-distinct : goal.returns-in-Err-clause-distinct
returns-in-Err-clause-distinct g c = tt

pub returns-in_default-push_place-clause-records : goal.returns-in_default-push_place-clause-records
returns-in_default-push_place-clause-records g c = tt

pub returns-in_default-push_place-clause-keyed : goal.returns-in_default-push_place-clause-keyed
returns-in_default-push_place-clause-keyed g c = tt

pub returns-in_default-push_place-clause-types : goal.returns-in_default-push_place-clause-types
returns-in_default-push_place-clause-types g c types are = tt

pub returns-in_default-push_place-clause-places : goal.returns-in_default-push_place-clause-places
returns-in_default-push_place-clause-places g c = tt

pub returns-in_default-push_place-clause-distinct : goal.returns-in_default-push_place-clause-distinct
returns-in_default-push_place-clause-distinct g c = tt

pub returns-in_default-clause-fault : goal.returns-in_default-clause-fault
returns-in_default-clause-fault g c = inl refl

pub returns-in-Err-clause-fault : goal.returns-in-Err-clause-fault
returns-in-Err-clause-fault g c = inl refl

pub returns-in_default-push_place-clause-fault : goal.returns-in_default-push_place-clause-fault
returns-in_default-push_place-clause-fault g c = inl refl

pub returns-clause-fault : goal.returns-clause-fault
returns-clause-fault g c = tt

pub returns-clause-keyed : goal.returns-clause-keyed
returns-clause-keyed g c = c.loop-after.invariant.keyed

pub returns-clause-places : goal.returns-clause-places
returns-clause-places g c =
    let w = g.F.Forest.trees c.args.forest.now in
    places_end w _ c.loop-after.place (trees_between w c.loop-after.place c.args.end) c.in_default-next_in_run.ensures c.loop-after.invariant.placed

pub next_in_run-requires : goal.next_in_run-requires
next_in_run-requires g c = record { run = c.loop-after.invariant.run }

pub loop-after-smaller : goal.loop-after-smaller
loop-after-smaller g c = nearer c.loop-after.place c.in-Some.after c.args.end c.in-Some.ensures.forth c.in-Some.ensures.room
