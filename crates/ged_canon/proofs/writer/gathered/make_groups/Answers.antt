use Rattle.std.proofs.Common.{◌<◌, [], List, ℕ, Vec, Global, sym, ap, ◌∙◌, subst, ◌+◌, get_or}
use Rattle.std.specs.List.{AllByRecursion}
use Rattle.ged_canon.specs.declared.writer.rank.RankedSibling.{RankedSibling}
use Rattle.ged_canon.specs.inner.Gathered.{IsRising, groups_of, members}
use Rattle.ged_canon.proofs.writer.RankGroups.{rising_more, below_more, empty_more}
use Rattle.ged_canon.proofs.writer.gathered.make_groups.Goals as goal

pub loop-tally-init : goal.loop-tally-init
loop-tally-init c = record {
  rising = subst IsRising (sym c.requires.no_rank) tt;
  below = subst (λ (ns : List ℕ). AllByRecursion (λ n. n < 0) ns) (sym c.requires.no_rank) tt;
  empty = ap (λ (gs : List (Vec RankedSibling Global)). members gs) c.requires.no_group ∙ ap (λ ns. groups_of ns []) (sym c.requires.no_rank);
}

pub loop-tally-preserved : goal.loop-tally-preserved
loop-tally-preserved c =
    let inv = c.loop-tally.invariant in
    let ranks = c.loop-tally.ranks.items in
    let is = c.in_ok-push.ensures.items in
    let rank : ℕ = (get_or c.args.tallies.now c.loop-tally.tally-index (record { rank = 0; count = 0 })).rank in
    record {
      rising = subst IsRising (sym is) (rising_more ranks c.loop-tally.least rank inv.rising inv.below c.if-tally-least.false c.if-tally-gt8.false);
      below = subst (λ (ns : List ℕ). AllByRecursion (λ n. n < rank + 1) ns) (sym is) (below_more ranks c.loop-tally.least rank inv.below c.if-tally-least.false);
      empty =
          ap (λ (gs : List (Vec RankedSibling Global)). members gs) c.in_ok-push-2.ensures.items
          ∙ empty_more ranks rank c.loop-tally.groups.items c.in_ok-with_capacity.field-0 inv.empty c.in_ok-with_capacity.ensures.items
          ∙ ap (λ ns. groups_of ns []) (sym is);
    }
