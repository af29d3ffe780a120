use Rattle.std.proofs.Common.{◌≡◌, ◌&&◌, Bool, true, false, refl, ◌++◌, List, [], ◌∷◌, length, drop, sym, ap, ◌∙◌, subst, arith}
use Rattle.std.specs.List.{AllByRecursion}
use Rattle.std.proofs.lemmas.List.{append-nil, append_assoc, length_push, take_all, drop_all}
use Rattle.ged_link.specs.Links.{identifiers}
use Rattle.ged_canon.specs.declared.writer.rank.RankedSibling.{RankedSibling}
use Rattle.ged_canon.specs.inner.Working.{used_trees, each_sorted}
use Rattle.ged_canon.specs.inner.Siblings.{StandsRanked, IsTold, sibling_trees}
use Rattle.ged_canon.proofs.writer.SiblingTrees.{first_sibling, all_with}
use Rattle.ged_canon.proofs.writer.SortedTail.{still_kept, still_long, one_more}
use Rattle.ged_canon.proofs.writer.siblings.push_siblings.Goals as goal

both_told : (told last : Bool) → told && last ≡ true → (told ≡ true) × (last ≡ true)
both_told true last e = (refl, e)
both_told false last e = cc

pub loop-after-init : goal.loop-after-init
loop-after-init g c =
    let d = g.F.Forest.trees c.args.forest.now in
    let old = c.args.siblings.now.items in
    let nothing : drop (length old) old ≡ [] = drop_all (length old) old (omega arith) in
    record {
      run = c.requires;
      kept = take_all (length old) old (omega arith);
      long = omega arith;
      within = subst (λ (xs : List RankedSibling). AllByRecursion (StandsRanked d) xs) (sym nothing) tt;
      told = λ _. subst (λ (xs : List RankedSibling). AllByRecursion IsTold xs) (sym nothing) tt;
      counted = omega (arith, ap (λ (xs : List RankedSibling). length xs) nothing);
      listed = λ used edition context rest e. ap (λ (xs : List RankedSibling). sibling_trees used edition context d (xs ++ rest)) nothing ∙ e;
    }

pub loop-after-preserved : goal.loop-after-preserved
loop-after-preserved g c =
    let d = g.F.Forest.trees c.args.forest.now in
    let step = c.in-Some.ensures in
    let pushed_one = c.in_ok-is_told.ensures in
    let last = pushed_one.0 in
    let at = pushed_one.2 in
    let start = c.args.siblings.now.items in
    let now = c.loop-after.siblings.items in
    let inv = c.loop-after.invariant in
    let more = one_more start now c.push_sibling.new.siblings.items last inv.long pushed_one.1 in
    record {
      run = step.rest;
      kept = still_kept start now c.push_sibling.new.siblings.items last inv.long pushed_one.1 inv.kept;
      long = still_long start now c.push_sibling.new.siblings.items last inv.long pushed_one.1;
      within = subst (λ (xs : List RankedSibling). AllByRecursion (StandsRanked d) xs) (sym more) (all_with (StandsRanked d) (drop (length start) now) last inv.within pushed_one.3);
      told = λ both.
          let told = both_told c.loop-after.are_told c.in_ok-is_told.is_told both in
          subst (λ (xs : List RankedSibling). AllByRecursion IsTold xs) (sym more) (all_with IsTold (drop (length start) now) last (inv.told told.0) (pushed_one.4 told.1));
      counted =
          let pushed = ap (λ (xs : List RankedSibling). length xs) more ∙ length_push (drop (length start) now) last in
          let first = ap (λ t. length (identifiers t)) step.first in
          omega (arith, pushed, first, inv.counted);
      listed = λ used edition context rest e.
          ap (λ (xs : List RankedSibling). sibling_trees used edition context d (xs ++ rest)) more
          ∙ ap (sibling_trees used edition context d) (append_assoc (drop (length start) now) (last ∷ []) rest)
          ∙ inv.listed used edition context (last ∷ rest)
          (first_sibling used edition context d c.loop-after.place c.args.end c.in-Some.after last rest inv.run step at e);
    }

pub returns-clause-trees : goal.returns-clause-trees
returns-clause-trees g c = λ used edition context.
    let d = g.F.Forest.trees c.args.forest.now in
    let made = drop (length c.args.siblings.now.items) c.loop-after.siblings.items in
    ap (sibling_trees used edition context d) (sym (append-nil made))
    ∙ c.loop-after.invariant.listed used edition context [] (ap (λ t. each_sorted edition context (used_trees used t)) (sym c.in_default.ensures))

pub returns-clause-count : goal.returns-clause-count
returns-clause-count g c =
    let d = g.F.Forest.trees c.args.forest.now in
    let left = ap (λ t. length (identifiers t)) c.in_default.ensures in
    omega (arith, left, c.loop-after.invariant.counted)
