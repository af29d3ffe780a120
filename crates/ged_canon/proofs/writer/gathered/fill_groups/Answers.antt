use Rattle.std.proofs.Common.{◌≡◌, ◌+◌, ◌++◌, List, [], ◌∷◌, length, take, get_or, sym, ap, ◌∙◌, subst, arith}
use Rattle.std.specs.List.{AllByRecursion}
use Rattle.std.proofs.lemmas.List.{take_more, take_all}
use Rattle.ged_canon.specs.declared.writer.rank.RankedSibling.{RankedSibling}
use Rattle.ged_canon.specs.inner.Gathered.{IsAmongRanks, groups_of, placed}
use Rattle.ged_canon.proofs.writer.SiblingTrees.{all_with}
use Rattle.ged_canon.proofs.writer.RankGroups.{among_at, place_one, count_members, count_groups}
use Rattle.ged_canon.proofs.writer.gathered.fill_groups.Goals as goal

pub push_at-requires : goal.push_at-requires
push_at-requires c =
    omega (arith, c.in-Some.ensures.0, count_members c.loop-each.groups, ap (λ (gs : List (List RankedSibling)). length gs) c.loop-each.invariant.filled, count_groups c.args.ranks.now (take c.loop-each.each-index c.args.siblings.now))

pub loop-each-preserved : goal.loop-each-preserved
loop-each-preserved c =
    let ranks = c.args.ranks.now in
    let all = c.args.siblings.now in
    let number = c.loop-each.each-index in
    let x : RankedSibling = get_or all number (record { rank = 0; place = 0 }) in
    let done = take number all in
    let more : take (number + 1) all ≡ done ++ x ∷ [] = take_more all number (record { rank = 0; place = 0 }) c.loop-each-test.true in
    let at = c.in-Some.at in
    record {
      filled =
          c.in_ok-push_at.ensures
          ∙ ap (λ gs. placed gs at x) c.loop-each.invariant.filled
          ∙ sym (place_one ranks at x done c.requires.rising c.in-Some.ensures.0 c.in-Some.ensures.1)
          ∙ ap (groups_of ranks) (sym more);
      among = subst (λ (xs : List RankedSibling). AllByRecursion (IsAmongRanks ranks) xs) (sym more) (all_with (IsAmongRanks ranks) done x c.loop-each.invariant.among (among_at ranks at x c.in-Some.ensures.0 c.in-Some.ensures.1));
    }

pub returns-clause-filled : goal.returns-clause-filled
returns-clause-filled c = λ full. c.loop-each.invariant.filled ∙ ap (groups_of c.args.ranks.now) (take_all c.loop-each.each-index c.args.siblings.now (omega arith))

pub returns-clause-among : goal.returns-clause-among
returns-clause-among c = λ full. subst (λ (xs : List RankedSibling). AllByRecursion (IsAmongRanks c.args.ranks.now) xs) (take_all c.loop-each.each-index c.args.siblings.now (omega arith)) c.loop-each.invariant.among
