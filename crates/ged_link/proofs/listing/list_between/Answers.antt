use Rattle.std.proofs.Common.{◌≡◌, ◌+◌, ◌∷◌, Option, ap}
use Rattle.std.specs.Option.{option_copied}
use Rattle.ged_line.specs.Bytes.{Bytes}
use Rattle.ged_tree.specs.Places.{structure_at}
use Rattle.ged_tree.specs.Trees.{records_of}
use Rattle.ged_tree.specs.Runs.{trees_between, IsStep}
use Rattle.ged_link.specs.Links.{identifiers}
use Rattle.ged_link.specs.inner.Keys.{fed_long}
use Rattle.ged_link.specs.inner.Layout.{counted}
use Rattle.ged_link.specs.inner.Listing.{listed_halves, listed_digits, all_halves, all_digits}
use Rattle.ged_link.proofs.ListingLemmas.{as_many, told_more, listed_more, types_more, types_all}
use Rattle.ged_link.proofs.listing.list_between.Goals as goal

pub loop-after-preserved : goal.loop-after-preserved
loop-after-preserved g c =
    let w = g.F.Forest.trees c.args.forest.now in
    let p = c.loop-after.place in
    let e = c.args.end in
    let a = c.in-Some.after in
    let inv = c.loop-after.invariant in
    let list = c.loop-after.list in
    let new = c.push.new.self in
    let pushes = c.in_ok-push.ensures in
    let step : IsStep w p e a = c.in-Some.ensures in
    let here = structure_at w p in
    let pushed : Option Bytes = option_copied c.xref.result in
    let left = identifiers (trees_between w p e) in
    let more = identifiers (trees_between w a e) in
    let ids : left ≡ here.xref ∷ more = ap identifiers step.first in
    record {
      run = step.rest;
      tallies = told_more pushed here.xref c.xref.ensures left more ids counted list.tallies.items new.tallies.items _ pushes.tallies inv.tallies;
      long = told_more pushed here.xref c.xref.ensures left more ids fed_long list.long.hasher new.long.hasher _ pushes.long inv.long;
      names = listed_more pushed here.xref c.xref.ensures left more ids listed_halves (all_halves list) (all_halves new) _ pushes.names inv.names;
      digits = listed_more pushed here.xref c.xref.ensures left more ids listed_digits (all_digits list) (all_digits new) _ (pushes.digits (as_many list left (identifiers (records_of w)) inv.names inv.digits)) inv.digits;
      types = rw pushes.types (types_more list.types.items c.type_of.result c.tag.result.now (trees_between w p e) here (trees_between w (p + 1) a) (trees_between w a e) (records_of w) step.first c.type_of.ensures c.tag.ensures inv.types);
    }

pub returns-clause-types : goal.returns-clause-types
returns-clause-types g c =
    let w = g.F.Forest.trees c.args.forest.now in
    types_all c.loop-after.list.types.items (trees_between w c.loop-after.place c.args.end) (records_of w) c.in_default.ensures c.loop-after.invariant.types
