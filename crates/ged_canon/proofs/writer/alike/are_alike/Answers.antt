use Rattle.std.proofs.Common.{◌≡◌, ◌+◌, ◌<◌, List, [], ◌∷◌, drop, length, get_or, refl, sym, ap, ◌∙◌, subst, arith}
use Rattle.std.specs.List.{AllByRecursion}
use Rattle.std.proofs.lemmas.Bool.{false≢true}
use Rattle.std.proofs.lemmas.List.{drop_all, get_or_default}
use Rattle.ged_tree.specs.Documents.{are_at}
use Rattle.ged_schema.specs.declared.context.Context.TheVariants.{File}
use Rattle.ged_canon.specs.declared.writer.rank.RankedSibling.{RankedSibling}
use Rattle.ged_canon.specs.inner.Working.{is_named}
use Rattle.ged_canon.specs.inner.Siblings.{StandsRanked, sibling_trees}
use Rattle.ged_canon.specs.inner.CanonBytes.{numbered_siblings, spelled_siblings}
use Rattle.ged_canon.proofs.writer.AlikeRecords.{same_first, same_others, all_spelled}
use Rattle.ged_canon.proofs.writer.Records.{first_stands, others_stand}
use Rattle.ged_canon.proofs.writer.RunsWritten.{next_left}
use Rattle.ged_canon.proofs.writer.alike.are_alike.Goals as goal

pub are_same_records-requires-clause-first : goal.are_same_records-requires-clause-first
are_same_records-requires-clause-first g c =
    let d = g.F.Forest.trees c.args.first.now.forest.now in
    let edition = c.args.first.now.plan.edition in
    let xs = c.args.siblings.now in
    let at = c.loop-number.number in
    let x : RankedSibling = get_or xs at (record { rank = 0; place = 0 }) in
    let split = next_left xs at x c.loop-number-test.true (get_or_default xs at (record { rank = 0; place = 0 }) x c.loop-number-test.true) in
    let all : AllByRecursion (StandsRanked d) (x ∷ drop (at + 1) xs) =
    subst (λ (zs : List RankedSibling). AllByRecursion (StandsRanked d) zs) split c.loop-number.invariant.within in
    record {
      document = c.requires.first.document;
      within = (all.0, tt);
      stand = first_stands (is_named d) edition d x (drop (at + 1) xs)
          (ap (λ (zs : List RankedSibling). are_at 0 (sibling_trees (is_named d) edition File d zs)) (sym split) ∙ c.loop-number.invariant.stand);
    }

pub are_same_records-requires-clause-second : goal.are_same_records-requires-clause-second
are_same_records-requires-clause-second g c =
    let e = g.G.Forest.trees c.args.second.now.forest.now in
    let edition = c.args.second.now.plan.edition in
    let ys = c.args.others.now in
    let at = c.loop-number.number in
    let y : RankedSibling = get_or ys at (record { rank = 0; place = 0 }) in
    let within : at < length ys = omega (arith, c.loop-number-test.true, c.requires.count) in
    let split = next_left ys at y within (get_or_default ys at (record { rank = 0; place = 0 }) y within) in
    let all : AllByRecursion (StandsRanked e) (y ∷ drop (at + 1) ys) =
    subst (λ (zs : List RankedSibling). AllByRecursion (StandsRanked e) zs) split c.loop-number.invariant.others_within in
    record {
      document = c.requires.second.document;
      within = (all.0, tt);
      stand = first_stands (is_named e) edition e y (drop (at + 1) ys)
          (ap (λ (zs : List RankedSibling). are_at 0 (sibling_trees (is_named e) edition File e zs)) (sym split) ∙ c.loop-number.invariant.others_stand);
    }

pub returns-then-not-branch : goal.returns-then-not-branch
returns-then-not-branch g c = λ names other_names numbering named other_numbering other_named.
    let d = g.F.Forest.trees c.args.first.now.forest.now in
    let e = g.G.Forest.trees c.args.second.now.forest.now in
    let edition = c.args.first.now.plan.edition in
    let other_edition = c.args.second.now.plan.edition in
    let xs = c.args.siblings.now in
    let ys = c.args.others.now in
    let at = c.loop-number.number in
    let x : RankedSibling = get_or xs at (record { rank = 0; place = 0 }) in
    let y : RankedSibling = get_or ys at (record { rank = 0; place = 0 }) in
    let split = next_left xs at x c.loop-number-test.true (get_or_default xs at (record { rank = 0; place = 0 }) x c.loop-number-test.true) in
    let within : at < length ys = omega (arith, c.loop-number-test.true, c.requires.count) in
    let other_split = next_left ys at y within (get_or_default ys at (record { rank = 0; place = 0 }) y within) in (
      (λ e. absurd (false≢true e)),
      (λ whole.
          let rest = (c.loop-number.invariant.told names other_names numbering named other_numbering other_named).1 whole in
          let here = ap (numbered_siblings (is_named d) edition names d) (sym split) ∙ rest ∙ ap (numbered_siblings (is_named e) other_edition other_names e) other_split in
          let same = same_first (is_named d) (is_named e) edition other_edition names other_names d e x y (drop (at + 1) xs) (drop (at + 1) ys) here in
          sym c.if-not-branch.true ∙ (c.in_ok-are_same_records.ensures.same names other_names numbering named other_numbering other_named).1 same),
    )

pub loop-number-preserved : goal.loop-number-preserved
loop-number-preserved g c =
    let d = g.F.Forest.trees c.args.first.now.forest.now in
    let e = g.G.Forest.trees c.args.second.now.forest.now in
    let edition = c.args.first.now.plan.edition in
    let other_edition = c.args.second.now.plan.edition in
    let xs = c.args.siblings.now in
    let ys = c.args.others.now in
    let at = c.loop-number.number in
    let x : RankedSibling = get_or xs at (record { rank = 0; place = 0 }) in
    let y : RankedSibling = get_or ys at (record { rank = 0; place = 0 }) in
    let split = next_left xs at x c.loop-number-test.true (get_or_default xs at (record { rank = 0; place = 0 }) x c.loop-number-test.true) in
    let within : at < length ys = omega (arith, c.loop-number-test.true, c.requires.count) in
    let other_split = next_left ys at y within (get_or_default ys at (record { rank = 0; place = 0 }) y within) in
    let all : AllByRecursion (StandsRanked d) (x ∷ drop (at + 1) xs) =
    subst (λ (zs : List RankedSibling). AllByRecursion (StandsRanked d) zs) split c.loop-number.invariant.within in
    let others_all : AllByRecursion (StandsRanked e) (y ∷ drop (at + 1) ys) =
    subst (λ (zs : List RankedSibling). AllByRecursion (StandsRanked e) zs) other_split c.loop-number.invariant.others_within in
    record {
      empty = c.in_ok-are_same_records.ensures.empty;
      other_empty = c.in_ok-are_same_records.ensures.other_empty;
      within = all.1;
      stand = others_stand (is_named d) edition d x (drop (at + 1) xs)
          (ap (λ (zs : List RankedSibling). are_at 0 (sibling_trees (is_named d) edition File d zs)) (sym split) ∙ c.loop-number.invariant.stand);
      others_within = others_all.1;
      others_stand = others_stand (is_named e) other_edition e y (drop (at + 1) ys)
          (ap (λ (zs : List RankedSibling). are_at 0 (sibling_trees (is_named e) other_edition File e zs)) (sym other_split) ∙ c.loop-number.invariant.others_stand);
      told = λ names other_names numbering named other_numbering other_named.
          let (lines, equal) = c.loop-number.invariant.told names other_names numbering named other_numbering other_named in
          let same : spelled_siblings (is_named d) edition names d (x ∷ []) ≡ spelled_siblings (is_named e) other_edition other_names e (y ∷ []) =
          (c.in_ok-are_same_records.ensures.same names other_names numbering named other_numbering other_named).0 c.if-not-branch.false in (
            (λ left.
                lines (ap (spelled_siblings (is_named d) edition names d) split
                ∙ all_spelled (is_named d) (is_named e) edition other_edition names other_names d e x y (drop (at + 1) xs) (drop (at + 1) ys) same left
                ∙ ap (spelled_siblings (is_named e) other_edition other_names e) (sym other_split))),
            (λ whole.
                same_others (is_named d) (is_named e) edition other_edition names other_names d e x y (drop (at + 1) xs) (drop (at + 1) ys)
                (ap (numbered_siblings (is_named d) edition names d) (sym split) ∙ equal whole ∙ ap (numbered_siblings (is_named e) other_edition other_names e) other_split)),
          );
    }

pub returns : goal.returns
returns g c = λ names other_names numbering named other_numbering other_named.
    let d = g.F.Forest.trees c.args.first.now.forest.now in
    let e = g.G.Forest.trees c.args.second.now.forest.now in
    let edition = c.args.first.now.plan.edition in
    let other_edition = c.args.second.now.plan.edition in
    let none : drop c.loop-number.number c.args.siblings.now ≡ [] = drop_all c.loop-number.number c.args.siblings.now (omega arith) in
    let no_other : drop c.loop-number.number c.args.others.now ≡ [] = drop_all c.loop-number.number c.args.others.now (omega (arith, c.requires.count)) in (
      (λ same.
          (c.loop-number.invariant.told names other_names numbering named other_numbering other_named).0
          (ap (spelled_siblings (is_named d) edition names d) none ∙ ap (spelled_siblings (is_named e) other_edition other_names e) (sym no_other))),
      (λ whole. refl),
    )
