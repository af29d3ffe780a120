use Rattle.std.proofs.Common.{None, ◌≡◌, ◌+◌, ◌++◌, true, List, [], OnOk, option_map, length, take, drop, refl, sym, ap, ◌∙◌, subst, append-nil, arith}
use Rattle.std.specs.List.{AllByRecursion}
use Rattle.std.specs.Option.{option_copied}
use Rattle.std.proofs.lemmas.List.{drop_all}
use Rattle.ged_line.specs.Spelling.{spelled_lines}
use Rattle.ged_tree.specs.Trees.{none}
use Rattle.ged_tree.specs.Documents.{are_at}
use Rattle.ged_tree.specs.DocumentLines.{structure_lines, lines_of}
use Rattle.ged_tree.specs.Places.{structure_at, below_at}
use Rattle.ged_tree.specs.Runs.{IsRunOfTrees, trees_between}
use Rattle.ged_tree.proofs.CallerLemmas.{below_run, run_below, run_ends}
use Rattle.ged_schema.specs.Rows.{as_row}
use Rattle.ged_schema.specs.Tables.{row, below_row}
use Rattle.ged_canon.specs.declared.writer.rank.RankedSibling.{RankedSibling}
use Rattle.ged_canon.specs.Steps.{renamed}
use Rattle.ged_canon.specs.inner.Working.{used_xref, number_of, sorted, each_sorted}
use Rattle.ged_canon.specs.inner.Siblings.{sibling_trees, StandsRanked}
use Rattle.ged_canon.specs.inner.Writing.{renamed_sibling, sibling_at, CanWriteTree}
use Rattle.ged_canon.specs.inner.Written.{written}
use Rattle.ged_canon.proofs.writer.SiblingTrees.{below_step}
use Rattle.ged_canon.proofs.writer.RunsWritten.{tree_lines, lines_alike, can_write_alike, written_below, written_all, first_stands, below_stands, rest_stands, next_told, next_left, all_listed, in_order_sorted, run_first}
use Rattle.ged_canon.proofs.writer.plan.Writer.+trees.Goals as goal

-- A structure, and what stands below it.

pub write_tree-overflow_add-start : goal.write_tree-overflow_add-start
write_tree-overflow_add-start g t c = omega (arith, c.requires.run.fills, c.ranges.end.fits)

pub write_tree-write_run-requires : goal.write_tree-write_run-requires
write_tree-write_run-requires g t c κs within =
    let low = c.requires.stands.shallow in (
      omega (arith, c.decreases, low),
      (
        within,
        record {
          document = c.requires.document;
          run = c.requires.run;
          deep = omega arith;
          stand = (λ i. are_at (c.args.level + 1) (sorted c.args.self.now.plan.edition (c.context_below.ensures i) (c.requires.deeper i))) ∙ c.requires.below;
        },
      ),
    )

pub write_tree-returns-clause-lines : goal.write_tree-returns-clause-lines
write_tree-returns-clause-lines g t c = λ names h.
    let d = g.F.Forest.trees c.args.self.now.forest.now in
    let edition = c.args.self.now.plan.edition in
    let new = number_of 1 names in
    let r = option_map as_row (option_copied c.args.rule) in
    let own = structure_lines c.args.level (renamed_sibling new edition r (option_copied c.args.xref) d c.args.sibling) in
    subst (λ text. OnOk c.write_run.result (written c.args.self.now.plan.file.now c.write_run.new.work.answer ≡ text))
    ((λ i. written c.args.self.now.plan.file.now c.write_structure.new.work.answer ++ spelled_lines (lines_of (c.args.level + 1) (renamed new (sorted edition (c.context_below.ensures i) (c.requires.deeper i)))))
    ∙ written_below (written c.args.self.now.plan.file.now c.args.work.now.answer) (written c.args.self.now.plan.file.now c.write_structure.new.work.answer) own (lines_of (c.args.level + 1) (renamed new (sorted edition (below_row r) (below_at d c.args.sibling.place)))) (c.in_ok-write_structure.ensures.lines names h))
    (c.write_run.ensures.lines names h)

-- nothing stands below a leaf
pub write_tree-returns-then-start-end-clause-lines : goal.write_tree-returns-then-start-end-clause-lines
write_tree-returns-then-start-end-clause-lines g t c = λ names h.
    let d = g.F.Forest.trees c.args.self.now.forest.now in
    let place = c.args.sibling.place in
    let edition = c.args.self.now.plan.edition in
    let new = number_of 1 names in
    let r = option_map as_row (option_copied c.args.rule) in
    let leaf : below_at d place ≡ none = sym c.requires.deeper ∙ run_ends d (place + 1) c.args.end (omega arith) in
    let own = structure_lines c.args.level (renamed_sibling new edition r (option_copied c.args.xref) d c.args.sibling) in
    c.in_ok-write_structure.ensures.lines names h
    ∙ ap (λ ls. written c.args.self.now.plan.file.now c.args.work.now.answer ++ spelled_lines ls) (sym (append-nil own))
    ∙ ap (λ t. written c.args.self.now.plan.file.now c.args.work.now.answer ++ spelled_lines (own ++ lines_of (c.args.level + 1) (renamed new (sorted edition (below_row r) t)))) (sym leaf)

-- The same, with the row that it has in a context.

pub write_by_row-write_tree-requires : goal.write_by_row-write_tree-requires
write_by_row-write_tree-requires g t c κs within =
    let d = g.F.Forest.trees c.args.self.now.forest.now in
    let edition = c.args.self.now.plan.edition in
    let place = c.args.place in
    let tag = c.tag-tag.result in
    let rule = c.row-rule.ensures ∙ ap (λ k. row k tag.now) c.of.ensures ∙ ap (row c.args.context) c.tag-tag.ensures in (
      omega (arith, c.decreases),
      (
        within,
        subst (λ r. CanWriteTree edition r c.args.level None d (record { tag = tag; place = place }) c.args.end) (sym rule)
            (can_write_alike edition (row c.args.context (structure_at d place).tag) c.args.level None d tag place c.args.end c.tag-tag.ensures c.requires),
      ),
    )

pub write_by_row-returns-clause-lines : goal.write_by_row-returns-clause-lines
write_by_row-returns-clause-lines g t c = λ names h.
    let d = g.F.Forest.trees c.args.self.now.forest.now in
    let tag = c.tag-tag.result in
    let rule = c.row-rule.ensures ∙ ap (λ k. row k tag.now) c.of.ensures ∙ ap (row c.args.context) c.tag-tag.ensures in
    subst (λ text. OnOk c.write_tree.result (written c.args.self.now.plan.file.now c.write_tree.new.work.answer ≡ written c.args.self.now.plan.file.now c.args.work.now.answer ++ text))
    (lines_alike (number_of 1 names) c.args.self.now.plan.edition None d tag c.args.place c.args.level _ _ c.tag-tag.ensures rule)
    (c.write_tree.ensures.lines names h)

-- The same, where they are looked up only if they matter.

pub write_sibling-overflow_add-start : goal.write_sibling-overflow_add-start
write_sibling-overflow_add-start g t c = omega (arith, c.requires.run.fills, c.ranges.end.fits)

pub write_sibling-write_run-requires : goal.write_sibling-write_run-requires
write_sibling-write_run-requires g t c κs within =
    let low = c.requires.stands.shallow in
    let rule = c.row-rule.ensures ∙ ap (λ k. row k c.tag.result.now) c.of.ensures ∙ ap (row c.args.context) c.tag.ensures in (
      omega (arith, c.decreases, low),
      (
        within,
        record {
          document = c.requires.document;
          run = c.requires.run;
          deep = omega arith;
          stand = (λ i. are_at (c.args.level + 1) (sorted c.args.self.now.plan.edition ((c.context_below.ensures ∙ ap below_row rule) i) (c.requires.deeper i))) ∙ c.requires.below;
        },
      ),
    )

pub write_sibling-returns-clause-lines : goal.write_sibling-returns-clause-lines
write_sibling-returns-clause-lines g t c = λ names h.
    let d = g.F.Forest.trees c.args.self.now.forest.now in
    let edition = c.args.self.now.plan.edition in
    let new = number_of 1 names in
    let r = row c.args.context (structure_at d c.args.place).tag in
    let rule = c.row-rule.ensures ∙ ap (λ k. row k c.tag.result.now) c.of.ensures ∙ ap (row c.args.context) c.tag.ensures in
    let own = structure_lines c.args.level (renamed_sibling new edition r None d (sibling_at d c.args.place)) in
    subst (λ text. OnOk c.write_run.result (written c.args.self.now.plan.file.now c.write_run.new.work.answer ≡ text))
    ((λ i. written c.args.self.now.plan.file.now c.write_at_once.new.work.answer ++ spelled_lines (lines_of (c.args.level + 1) (renamed new (sorted edition ((c.context_below.ensures ∙ ap below_row rule) i) (c.requires.deeper i)))))
    ∙ written_below (written c.args.self.now.plan.file.now c.args.work.now.answer) (written c.args.self.now.plan.file.now c.write_at_once.new.work.answer) own (lines_of (c.args.level + 1) (renamed new (sorted edition (below_row r) (below_at d c.args.place)))) (c.in_ok-write_at_once.ensures.lines names h c.if-not-branch.false))
    (c.write_run.ensures.lines names h)

-- the leaves below it stand together
pub write_sibling-returns-in-Some-clause-lines : goal.write_sibling-returns-in-Some-clause-lines
write_sibling-returns-in-Some-clause-lines g t c = λ names h.
    let d = g.F.Forest.trees c.args.self.now.forest.now in
    let file = c.args.self.now.plan.file.now in
    let edition = c.args.self.now.plan.edition in
    let new = number_of 1 names in
    let r = row c.args.context (structure_at d c.args.place).tag in
    let own = structure_lines c.args.level (renamed_sibling new edition r None d (sibling_at d c.args.place)) in
    let before = written file c.write_at_once.new.work.answer in
    let stand = (λ i. are_at (c.args.level + 1) (sorted edition (below_row r) (c.requires.deeper i))) ∙ c.requires.below in
    subst (λ text. OnOk c.push_run.result (written file c.push_run.new.self ≡ text))
    (ap (λ bytes. before ++ bytes) (c.in-Some.ensures.1 new (below_row r) stand)
    ∙ (λ i. before ++ spelled_lines (lines_of (c.args.level + 1) (renamed new (sorted edition (below_row r) (c.requires.deeper i)))))
    ∙ written_below (written file c.args.work.now.answer) before own (lines_of (c.args.level + 1) (renamed new (sorted edition (below_row r) (below_at d c.args.place)))) (c.in_ok-write_at_once.ensures.lines names h c.if-not-branch.false))
    c.push_run.ensures

pub write_sibling-returns-then-start-end-clause-lines : goal.write_sibling-returns-then-start-end-clause-lines
write_sibling-returns-then-start-end-clause-lines g t c = λ names h.
    let d = g.F.Forest.trees c.args.self.now.forest.now in
    let place = c.args.place in
    let edition = c.args.self.now.plan.edition in
    let new = number_of 1 names in
    let r = row c.args.context (structure_at d place).tag in
    let leaf : below_at d place ≡ none = sym c.requires.deeper ∙ run_ends d (place + 1) c.args.end (omega arith) in
    let own = structure_lines c.args.level (renamed_sibling new edition r None d (sibling_at d place)) in
    c.in_ok-write_at_once.ensures.lines names h c.if-not-branch.false
    ∙ ap (λ ls. written c.args.self.now.plan.file.now c.args.work.now.answer ++ spelled_lines ls) (sym (append-nil own))
    ∙ ap (λ t. written c.args.self.now.plan.file.now c.args.work.now.answer ++ spelled_lines (own ++ lines_of (c.args.level + 1) (renamed new (sorted edition (below_row r) t)))) (sym leaf)

-- A run that is in order.

pub write_run-loop-after-init : goal.write_run-loop-after-init
write_run-loop-after-init g t c =
    let d = g.F.Forest.trees c.args.self.now.forest.now in
    let edition = c.args.self.now.plan.edition in
    let run = trees_between d c.args.start c.args.end in
    let same : each_sorted edition c.args.context run ≡ sorted edition c.args.context run = sym (in_order_sorted edition c.args.context run (c.are_told_in_order.ensures c.if-not-are_told_in_order.false)) in
    record {
      run = c.requires.run;
      kept = refl;
      stand = ap (are_at c.args.level) same ∙ c.requires.stand;
      told = λ names h. ap (λ left. written c.args.self.now.plan.file.now c.args.work.now.answer ++ spelled_lines (lines_of c.args.level (renamed (number_of 1 names) left))) same;
    }

pub write_run-write_sibling-requires : goal.write_run-write_sibling-requires
write_run-write_sibling-requires g t c κs within =
    let d = g.F.Forest.trees c.args.self.now.forest.now in
    let edition = c.args.self.now.plan.edition in
    let place = c.loop-after.place in
    let sibling = sibling_at d place in
    let x = (structure_at d place).xref in
    let all = each_sorted edition c.args.context (trees_between d place c.args.end) in
    let rest = each_sorted edition c.args.context (trees_between d c.in-Some.after c.args.end) in
    let is = run_first edition c.args.context d place c.args.end c.in-Some.after sibling c.loop-after.invariant.run c.in-Some.ensures refl refl in (
      omega (arith, c.decreases),
      (
        within,
        record {
          document = c.requires.document;
          within = (c.in-Some.ensures.within, refl);
          run = c.in-Some.ensures.below;
          deeper = below_step d place c.args.end c.in-Some.after c.loop-after.invariant.run c.in-Some.ensures;
          stands = first_stands edition c.args.context d c.args.level sibling x all rest is c.requires.deep c.loop-after.invariant.stand;
          below = below_stands edition c.args.context d c.args.level sibling x all rest is c.requires.deep c.loop-after.invariant.stand;
        },
      ),
    )

pub write_run-loop-after-preserved : goal.write_run-loop-after-preserved
write_run-loop-after-preserved g t c =
    let d = g.F.Forest.trees c.args.self.now.forest.now in
    let edition = c.args.self.now.plan.edition in
    let place = c.loop-after.place in
    let sibling = sibling_at d place in
    let x = (structure_at d place).xref in
    let all = each_sorted edition c.args.context (trees_between d place c.args.end) in
    let rest = each_sorted edition c.args.context (trees_between d c.in-Some.after c.args.end) in
    let is = run_first edition c.args.context d place c.args.end c.in-Some.after sibling c.loop-after.invariant.run c.in-Some.ensures refl refl in
    record {
      run = c.in-Some.ensures.rest;
      kept = c.in_ok-write_sibling.ensures.kept ∙ c.loop-after.invariant.kept;
      stand = rest_stands edition c.args.context d c.args.level sibling x all rest is c.requires.deep c.loop-after.invariant.stand;
      told = λ names h. next_told edition c.args.context d c.args.level sibling x all rest is c.requires.deep c.loop-after.invariant.stand (number_of 1 names)
          (written c.args.self.now.plan.file.now c.args.work.now.answer ++ spelled_lines (lines_of c.args.level (renamed (number_of 1 names) (sorted edition c.args.context (trees_between d c.args.start c.args.end)))))
          (written c.args.self.now.plan.file.now c.loop-after.work.answer) (written c.args.self.now.plan.file.now c.write_sibling.new.work.answer) (c.in_ok-write_sibling.ensures.lines names h ∙ ap (λ bytes. written c.args.self.now.plan.file.now c.loop-after.work.answer ++ bytes) (tree_lines (number_of 1 names) edition None d sibling c.args.level _ (row c.args.context sibling.tag.now) refl)) (c.loop-after.invariant.told names h);
    }

pub write_run-returns-clause-lines : goal.write_run-returns-clause-lines
write_run-returns-clause-lines g t c = λ names h.
    let d = g.F.Forest.trees c.args.self.now.forest.now in
    let edition = c.args.self.now.plan.edition in
    written_all (written c.args.self.now.plan.file.now c.args.work.now.answer ++ spelled_lines (lines_of c.args.level (renamed (number_of 1 names) (sorted edition c.args.context (trees_between d c.args.start c.args.end)))))
    (written c.args.self.now.plan.file.now c.loop-after.work.answer) (lines_of c.args.level (renamed (number_of 1 names) (each_sorted edition c.args.context (trees_between d c.loop-after.place c.args.end))))
    (ap (λ left. lines_of c.args.level (renamed (number_of 1 names) (each_sorted edition c.args.context left))) c.in_default.ensures)
    (c.loop-after.invariant.told names h)

-- A run in another order.

pub write_sorted-loop-number-init : goal.write_sorted-loop-number-init
write_sorted-loop-number-init g t c =
    let d = g.F.Forest.trees c.args.self.now.forest.now in
    let edition = c.args.self.now.plan.edition in
    let old = c.args.work.now.siblings.items in
    let items = c.push_sorted.new.siblings.items in
    let from : length old ≡ c.len-base.result = omega arith in
    let whole : sibling_trees (λ name. true) edition c.args.context d (drop c.len-base.result items) ≡ sorted edition c.args.context (trees_between d c.args.start c.args.end) =
    ap (λ base. sibling_trees (λ name. true) edition c.args.context d (drop base items)) (sym from)
    ∙ all_listed edition c.args.context d (trees_between d c.args.start c.args.end) (drop (length old) items) (c.in_ok-push_sorted.ensures.trees (λ name. true) edition c.args.context) in
    record {
      kept = ap (λ base. take base items) (sym from) ∙ c.in_ok-push_sorted.ensures.kept;
      within = subst (λ base. AllByRecursion (StandsRanked d) (drop base items)) from c.in_ok-push_sorted.ensures.within;
      stand = ap (are_at c.args.level) whole ∙ c.requires.stand;
      told = λ names h. ap (λ left. written c.args.self.now.plan.file.now c.args.work.now.answer ++ spelled_lines (lines_of c.args.level (renamed (number_of 1 names) left))) whole;
    }

pub write_sorted-write_sibling-requires : goal.write_sorted-write_sibling-requires
write_sorted-write_sibling-requires g t c κs within =
    let d = g.F.Forest.trees c.args.self.now.forest.now in
    let edition = c.args.self.now.plan.edition in
    let items = c.loop-number.work.siblings.items in
    let at = c.loop-number.number in
    let ranked = c.index-ranked.result.now in
    let sibling = sibling_at d ranked.place in
    let tag = (structure_at d sibling.place).tag in
    let x = used_xref (λ name. true) (structure_at d sibling.place).xref in
    let listed = next_left items at ranked (omega arith) c.index-ranked.ensures in
    let all = sibling_trees (λ name. true) edition c.args.context d (drop at items) in
    let rest = sibling_trees (λ name. true) edition c.args.context d (drop (at + 1) items) in
    let here = (subst (λ (xs : List RankedSibling). AllByRecursion (StandsRanked d) xs) listed c.loop-number.invariant.within).0 in
    let is = ap (sibling_trees (λ name. true) edition c.args.context d) listed in (
      omega (arith, c.decreases),
      (
        within,
        record {
          document = c.requires.document;
          within = (here.within, refl);
          run = subst (λ q. IsRunOfTrees d (sibling.place + 1) q) (sym c.after-after.ensures) (run_below d sibling.place here.within);
          deeper = ap (trees_between d (sibling.place + 1)) c.after-after.ensures ∙ below_run d sibling.place here.within;
          stands = first_stands edition c.args.context d c.args.level sibling x all rest is c.requires.deep c.loop-number.invariant.stand;
          below = below_stands edition c.args.context d c.args.level sibling x all rest is c.requires.deep c.loop-number.invariant.stand;
        },
      ),
    )

pub write_sorted-loop-number-preserved : goal.write_sorted-loop-number-preserved
write_sorted-loop-number-preserved g t c =
    let d = g.F.Forest.trees c.args.self.now.forest.now in
    let edition = c.args.self.now.plan.edition in
    let items = c.loop-number.work.siblings.items in
    let now = c.write_sibling.new.work.siblings.items in
    let at = c.loop-number.number in
    let ranked = c.index-ranked.result.now in
    let sibling = sibling_at d ranked.place in
    let tag = (structure_at d sibling.place).tag in
    let x = used_xref (λ name. true) (structure_at d sibling.place).xref in
    let listed = next_left items at ranked (omega arith) c.index-ranked.ensures in
    let all = sibling_trees (λ name. true) edition c.args.context d (drop at items) in
    let rest = sibling_trees (λ name. true) edition c.args.context d (drop (at + 1) items) in
    let is = ap (sibling_trees (λ name. true) edition c.args.context d) listed in
    let same : now ≡ items = c.in_ok-write_sibling.ensures.kept in
    record {
      kept = ap (take c.len-base.result) same ∙ c.loop-number.invariant.kept;
      within = subst (λ (xs : List RankedSibling). AllByRecursion (StandsRanked d) (drop (at + 1) xs)) (sym same)
          (subst (λ (xs : List RankedSibling). AllByRecursion (StandsRanked d) xs) listed c.loop-number.invariant.within).1;
      stand = ap (λ (xs : List RankedSibling). are_at c.args.level (sibling_trees (λ name. true) edition c.args.context d (drop (at + 1) xs))) same
          ∙ rest_stands edition c.args.context d c.args.level sibling x all rest is c.requires.deep c.loop-number.invariant.stand;
      told = λ names h.
          ap (λ (xs : List RankedSibling). written c.args.self.now.plan.file.now c.write_sibling.new.work.answer ++ spelled_lines (lines_of c.args.level (renamed (number_of 1 names) (sibling_trees (λ name. true) edition c.args.context d (drop (at + 1) xs))))) same
          ∙ next_told edition c.args.context d c.args.level sibling x all rest is c.requires.deep c.loop-number.invariant.stand (number_of 1 names)
          (written c.args.self.now.plan.file.now c.args.work.now.answer ++ spelled_lines (lines_of c.args.level (renamed (number_of 1 names) (sorted edition c.args.context (trees_between d c.args.start c.args.end)))))
          (written c.args.self.now.plan.file.now c.loop-number.work.answer) (written c.args.self.now.plan.file.now c.write_sibling.new.work.answer) (c.in_ok-write_sibling.ensures.lines names h ∙ ap (λ bytes. written c.args.self.now.plan.file.now c.loop-number.work.answer ++ bytes) (tree_lines (number_of 1 names) edition None d sibling c.args.level _ (row c.args.context tag) refl)) (c.loop-number.invariant.told names h);
    }

pub write_sorted-returns-clause-lines : goal.write_sorted-returns-clause-lines
write_sorted-returns-clause-lines g t c = λ names h.
    let d = g.F.Forest.trees c.args.self.now.forest.now in
    let edition = c.args.self.now.plan.edition in
    let items = c.loop-number.work.siblings.items in
    let at = c.loop-number.number in
    let nothing : drop at items ≡ [] = drop_all at items (omega arith) in
    written_all (written c.args.self.now.plan.file.now c.args.work.now.answer ++ spelled_lines (lines_of c.args.level (renamed (number_of 1 names) (sorted edition c.args.context (trees_between d c.args.start c.args.end)))))
    (written c.args.self.now.plan.file.now c.loop-number.work.answer) (lines_of c.args.level (renamed (number_of 1 names) (sibling_trees (λ name. true) edition c.args.context d (drop at items))))
    (ap (λ (xs : List RankedSibling). lines_of c.args.level (renamed (number_of 1 names) (sibling_trees (λ name. true) edition c.args.context d xs))) nothing)
    (c.loop-number.invariant.told names h)
