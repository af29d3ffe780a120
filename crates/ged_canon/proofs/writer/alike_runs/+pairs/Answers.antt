use Rattle.std.proofs.Common.{◌≡◌, ◌+◌, true, List, length, take, drop, refl, sym, ap, ◌∙◌, subst, leb-true, arith}
use Rattle.std.specs.List.{AllByRecursion}
use Rattle.ged_tree.specs.Runs.{trees_between}
use Rattle.ged_tree.proofs.CallerLemmas.{run_ends}
use Rattle.ged_schema.specs.declared.context.Context.{Context}
use Rattle.ged_schema.specs.declared.context.Context.TheVariants.{File}
use Rattle.ged_canon.specs.declared.edition.Edition.{Edition}
use Rattle.ged_canon.specs.declared.edition.Edition.TheVariants.{First}
use Rattle.ged_canon.specs.declared.writer.rank.RankedSibling.{RankedSibling}
use Rattle.ged_canon.specs.Steps.{renamed}
use Rattle.ged_canon.specs.inner.Working.{number_of, sorted}
use Rattle.ged_canon.specs.inner.Siblings.{StandsRanked, sibling_trees}
use Rattle.ged_canon.specs.inner.Paired.{Bare}
use Rattle.ged_canon.proofs.theory.Bare.{sorted_bare}
use Rattle.ged_canon.proofs.writer.AlikeTrees.{if_ok_weaker, stands_alone, same_none, below_as, listed_more, same_listed, first_unnamed}
use Rattle.ged_canon.proofs.writer.RunsWritten.{next_left, all_listed}
use Rattle.ged_canon.proofs.writer.SortedTail.{kept_long}
use Rattle.ged_canon.proofs.writer.alike_runs.+pairs.Goals as goal

-- A structure, and what stands below it.

pub are_trees_alike-returns-clause-same : goal.are_trees_alike-returns-clause-same
are_trees_alike-returns-clause-same g t c = λ names others h k.
    if_ok_weaker c.are_runs_alike.result (λ b below same. record { own = c.if-not-is_alike.ensures names others h k refl; below = below same }) (c.are_runs_alike.ensures.same names others h k)

-- nothing stands below either
pub are_trees_alike-returns-then-below-clause-same : goal.are_trees_alike-returns-then-below-clause-same
are_trees_alike-returns-then-below-clause-same g t c = λ names others h k ends.
    let d = g.F.Forest.trees c.args.first.now.forest.now in
    let e = g.G.Forest.trees c.args.second.now.forest.now in
    let tree = c.args.tree in
    let other = c.args.other in
    record {
      own = c.if-not-is_alike.ensures names others h k refl;
      below = same_none (number_of 1 names) (number_of 1 others) (trees_between d (tree.start + 1) tree.end) (trees_between e (other.start + 1) other.end)
          (run_ends d (tree.start + 1) tree.end (omega arith)) (run_ends e (other.start + 1) other.end (let none = leb-true _ _ ends in omega (arith, none)));
    }

-- Runs in their own order.

pub are_runs_alike-returns-clause-same : goal.are_runs_alike-returns-clause-same
are_runs_alike-returns-clause-same g t c = λ names others h k ends.
    let d = g.F.Forest.trees c.args.first.now.forest.now in
    let e = g.G.Forest.trees c.args.second.now.forest.now in
    c.loop-after.invariant.told names others h k
    (same_none (number_of 1 names) (number_of 1 others) (trees_between d c.loop-after.place c.args.run.end) (trees_between e c.loop-after.other_place c.args.other.end)
    c.in_default.ensures (run_ends e c.loop-after.other_place c.args.other.end (let none = leb-true _ _ ends in omega (arith, none))))

-- Runs that are put in order.

pub are_sorted_alike-loop-number-init : goal.are_sorted_alike-loop-number-init
are_sorted_alike-loop-number-init g t c =
    let d = g.F.Forest.trees c.args.first.now.forest.now in
    let e = g.G.Forest.trees c.args.second.now.forest.now in
    let old = c.args.work.now.siblings.items in
    let other_old = c.args.work.now.others.items in
    let items = c.push_sorted.new.siblings.items in
    let other_items = c.push_sorted-2.new.siblings.items in
    let run = trees_between d c.args.run.start c.args.run.end in
    let other_run = trees_between e c.args.other.start c.args.other.end in
    let from : length old ≡ c.len-base.result = omega arith in
    let other_from : length other_old ≡ c.len-other_base.result = omega arith in
    let start : length old ≡ c.len-base.result + 0 = omega arith in
    let other_start : length other_old ≡ c.len-other_base.result + 0 = omega arith in
    let long = kept_long old items c.in_ok-push_sorted.ensures.kept in
    let other_long = kept_long other_old other_items c.in_ok-push_sorted-2.ensures.kept in
    let first : (edition : Edition) (context : Context) → sibling_trees (λ name. true) edition context d (drop (c.len-base.result + 0) items) ≡ sorted edition context run = λ edition context.
    ap (λ base. sibling_trees (λ name. true) edition context d (drop base items)) (sym start)
    ∙ all_listed edition context d run (drop (length old) items) (c.in_ok-push_sorted.ensures.trees (λ name. true) edition context) in
    let second : (edition : Edition) (context : Context) → sibling_trees (λ name. true) edition context e (drop (c.len-other_base.result + 0) other_items) ≡ sorted edition context other_run = λ edition context.
    ap (λ base. sibling_trees (λ name. true) edition context e (drop base other_items)) (sym other_start)
    ∙ all_listed edition context e other_run (drop (length other_old) other_items) (c.in_ok-push_sorted-2.ensures.trees (λ name. true) edition context) in
    record {
      kept = ap (λ base. take base items) (sym from) ∙ c.in_ok-push_sorted.ensures.kept;
      others_kept = ap (λ base. take base other_items) (sym other_from) ∙ c.in_ok-push_sorted-2.ensures.kept;
      count = omega (arith, from, long);
      other_count = omega (arith, other_from, other_long, c.if-len-other_base.false, from, long);
      within = subst (λ base. AllByRecursion (StandsRanked d) (drop base items)) start c.in_ok-push_sorted.ensures.within;
      others_within = subst (λ base. AllByRecursion (StandsRanked e) (drop base other_items)) other_start c.in_ok-push_sorted-2.ensures.within;
      bare = subst (λ xs. Bare xs) (sym (first First File)) (sorted_bare First File run c.requires.run.bare);
      others_bare = subst (λ xs. Bare xs) (sym (second First File)) (sorted_bare First File other_run c.requires.other.bare);
      told = λ names others h k listed.
          same_listed (number_of 1 names) (number_of 1 others) d e run other_run (drop (c.len-base.result + 0) items) (drop (c.len-other_base.result + 0) other_items) first second listed;
    }

pub are_sorted_alike-are_trees_alike-requires : goal.are_sorted_alike-are_trees_alike-requires
are_sorted_alike-are_trees_alike-requires g t c κs within =
    let d = g.F.Forest.trees c.args.first.now.forest.now in
    let e = g.G.Forest.trees c.args.second.now.forest.now in
    let items = c.loop-number.work.siblings.items in
    let other_items = c.loop-number.work.others.items in
    let at = c.len-base.result + c.loop-number.number in
    let other_at = c.len-other_base.result + c.loop-number.number in
    let x = c.index.result.now in
    let y = c.index-in-loop-number.result.now in
    let listed = next_left items at x (omega arith) c.index.ensures in
    let other_listed = next_left other_items other_at y (omega arith) c.index-in-loop-number.ensures in
    let here = (subst (λ (xs : List RankedSibling). AllByRecursion (StandsRanked d) xs) listed c.loop-number.invariant.within).0 in
    let there = (subst (λ (xs : List RankedSibling). AllByRecursion (StandsRanked e) xs) other_listed c.loop-number.invariant.others_within).0 in (
      omega (arith, c.decreases),
      (
        within.0,
        (
          within.1,
          (
            c.requires.shallow,
            (
              stands_alone d x.place c.after.result c.requires.run.document here.within c.after.ensures,
              stands_alone e y.place c.after-in-loop-number.result c.requires.other.document there.within c.after-in-loop-number.ensures,
            ),
          ),
        ),
      ),
    )

pub are_sorted_alike-loop-number-preserved : goal.are_sorted_alike-loop-number-preserved
are_sorted_alike-loop-number-preserved g t c =
    let d = g.F.Forest.trees c.args.first.now.forest.now in
    let e = g.G.Forest.trees c.args.second.now.forest.now in
    let items = c.loop-number.work.siblings.items in
    let other_items = c.loop-number.work.others.items in
    let at = c.len-base.result + c.loop-number.number in
    let other_at = c.len-other_base.result + c.loop-number.number in
    let x = c.index.result.now in
    let y = c.index-in-loop-number.result.now in
    let listed = next_left items at x (omega arith) c.index.ensures in
    let other_listed = next_left other_items other_at y (omega arith) c.index-in-loop-number.ensures in
    let all = subst (λ (xs : List RankedSibling). AllByRecursion (StandsRanked d) xs) listed c.loop-number.invariant.within in
    let others_all = subst (λ (xs : List RankedSibling). AllByRecursion (StandsRanked e) xs) other_listed c.loop-number.invariant.others_within in
    let bare = subst (λ (xs : List RankedSibling). Bare (sibling_trees (λ name. true) First File d xs)) listed c.loop-number.invariant.bare in
    let others_bare = subst (λ (xs : List RankedSibling). Bare (sibling_trees (λ name. true) First File e xs)) other_listed c.loop-number.invariant.others_bare in
    let same : c.are_trees_alike.new.work.siblings.items ≡ items = c.in_ok-are_trees_alike.ensures.kept c.if-not-branch.false in
    let others_same : c.are_trees_alike.new.work.others.items ≡ other_items = c.in_ok-are_trees_alike.ensures.others_kept c.if-not-branch.false in
    let next : drop (at + 1) items ≡ drop (c.len-base.result + (c.loop-number.number + 1)) c.are_trees_alike.new.work.siblings.items =
    (let step : at + 1 ≡ c.len-base.result + (c.loop-number.number + 1) = omega arith in λ i. drop (step i) (sym same i)) in
    let others_next : drop (other_at + 1) other_items ≡ drop (c.len-other_base.result + (c.loop-number.number + 1)) c.are_trees_alike.new.work.others.items =
    (let step : other_at + 1 ≡ c.len-other_base.result + (c.loop-number.number + 1) = omega arith in λ i. drop (step i) (sym others_same i)) in
    record {
      kept = ap (take c.len-base.result) same ∙ c.loop-number.invariant.kept;
      others_kept = ap (take c.len-other_base.result) others_same ∙ c.loop-number.invariant.others_kept;
      count = c.loop-number.invariant.count ∙ ap (λ (xs : List RankedSibling). length xs) (sym same);
      other_count = c.loop-number.invariant.other_count ∙ ap (λ (xs : List RankedSibling). length xs) (sym others_same);
      within = subst (λ (xs : List RankedSibling). AllByRecursion (StandsRanked d) xs) next all.1;
      others_within = subst (λ (xs : List RankedSibling). AllByRecursion (StandsRanked e) xs) others_next others_all.1;
      bare = subst (λ (xs : List RankedSibling). Bare (sibling_trees (λ name. true) First File d xs)) next bare.2;
      others_bare = subst (λ (xs : List RankedSibling). Bare (sibling_trees (λ name. true) First File e xs)) others_next others_bare.2;
      told = λ names others h k left.
          let new = number_of 1 names in
          let new_other = number_of 1 others in
          let alike = c.in_ok-are_trees_alike.ensures.same names others h k c.if-not-branch.false in
          let below = below_as new new_other d e x.place c.after.result y.place c.after-in-loop-number.result all.0.within others_all.0.within c.after.ensures c.after-in-loop-number.ensures alike.below in
          let more = listed_more new new_other d e x y (drop (at + 1) items) (drop (other_at + 1) other_items) (first_unnamed d x (drop (at + 1) items) bare) (first_unnamed e y (drop (other_at + 1) other_items) others_bare) alike.own below
          (λ edition context. (λ i. renamed new (sibling_trees (λ name. true) edition context d (next i))) ∙ left edition context ∙ sym (λ i. renamed new_other (sibling_trees (λ name. true) edition context e (others_next i)))) in
          c.loop-number.invariant.told names others h k
          (λ edition context. (λ i. renamed new (sibling_trees (λ name. true) edition context d (listed i))) ∙ more edition context ∙ sym (λ i. renamed new_other (sibling_trees (λ name. true) edition context e (other_listed i))));
    }
