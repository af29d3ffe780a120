use Rattle.std.proofs.Common.{◌-◌, min, refl, arith}
use Rattle.std.proofs.lemmas.List.{length-set}
use Rattle.ged_tree.specs.inner.Growing.{place_at}
use Rattle.ged_tree.proofs.table.GrownSizes.{closes_none, closes_one}
use Rattle.ged_tree.proofs.table.growing.GrowingSizes.close.Goals as goal

pub returns : goal.returns
returns c =
    let old = c.args.self.now in
    let near = c.if-place-count.false in
    record {
      closes = closes_one old.places c.args.level c.args.count old.sizes c.keep.new.self (omega (arith, near, c.requires.count)) near c.in_ok-keep.ensures.bytes c.in_ok-keep.ensures.closed;
      room = rw c.in_ok-keep.ensures.bytes (omega (arith, length-set old.sizes.bytes.items (place_at old.places c.args.level) (min (c.args.count - place_at old.places c.args.level - 1) 255), c.requires.count));
      places = refl;
    }

pub returns-then-place-count : goal.returns-then-place-count
returns-then-place-count c = record {
  closes = closes_none c.args.self.now.places c.args.level c.args.count c.args.self.now.sizes c.if-place-count.true;
  room = c.requires.count;
  places = refl;
}
