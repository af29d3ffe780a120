use Rattle.std.proofs.Common.{None, ◌≡◌, ◌-◌, ◌+◌, ◌++◌, [], slice_range, take, drop, refl, sym, ap, ◌∙◌, append-nil, arith}
use Rattle.ged_line.specs.Bytes.{Bytes}
use Rattle.ged_line.specs.Spelling.{spelled_lines}
use Rattle.ged_tree.specs.Trees.{none}
use Rattle.ged_tree.specs.Documents.{are_at}
use Rattle.ged_tree.specs.DocumentLines.{rest_of_line, structure_lines, lines_of}
use Rattle.ged_tree.specs.Places.{structure_at, below_at}
use Rattle.ged_tree.specs.Runs.{trees_between}
use Rattle.ged_tree.proofs.CallerLemmas.{run_ends}
use Rattle.ged_schema.specs.declared.context.Context.{Context}
use Rattle.ged_schema.specs.Tables.{row, context_below}
use Rattle.ged_canon.specs.Steps.{renamed}
use Rattle.ged_canon.specs.inner.Working.{sorted, each_sorted}
use Rattle.ged_canon.specs.inner.Writing.{renamed_sibling, sibling_at}
use Rattle.ged_canon.proofs.writer.PlainLines.{plain_brief, plain_line}
use Rattle.ged_canon.proofs.writer.RunsKept.{goes_on}
use Rattle.ged_canon.proofs.writer.RunsWritten.{written_all, rest_stands, next_told, in_order_sorted, run_first}
use Rattle.ged_canon.proofs.writer.SiblingTrees.{below_step}
use Rattle.ged_canon.proofs.writer.plan.Writer.few_leaves_run.Goals as goal

pub loop-after-init : goal.loop-after-init
loop-after-init g c =
    let d = g.F.Forest.trees c.args.self.now.forest.now in
    let first = c.start_of-first.result in
    let nothing : first - first ≡ 0 = omega arith in
    record {
      run = c.requires.run;
      order = omega arith;
      stand = λ context h. h;
      told = λ new context h. ap (λ n. take n (drop first c.args.self.now.plan.file.now) ++ spelled_lines (lines_of c.args.level (renamed new (each_sorted c.args.self.now.plan.edition context (trees_between d c.args.start c.args.end))))) nothing;
    }

-- a structure below which nothing stands has one line, which goes on with those before it
pub loop-after-preserved : goal.loop-after-preserved
loop-after-preserved g c =
    let d = g.F.Forest.trees c.args.self.now.forest.now in
    let edition = c.args.self.now.plan.edition in
    let file = c.args.self.now.plan.file.now in
    let first = c.start_of-first.result in
    let last = c.loop-after.last in
    let place = c.loop-after.place in
    let to = c.in_ok-from.to in
    let s = structure_at d place in
    let sibling = sibling_at d place in
    let all = λ (context : Context). each_sorted edition context (trees_between d place c.args.end) in
    let rest = λ (context : Context). each_sorted edition context (trees_between d c.in-Some.after c.args.end) in
    let is = λ (context : Context). run_first edition context d place c.args.end c.in-Some.after sibling c.loop-after.invariant.run c.in-Some.ensures refl refl in
    let leaf : below_at d place ≡ none = sym (below_step d place c.args.end c.in-Some.after c.loop-after.invariant.run c.in-Some.ensures) ∙ run_ends d (place + 1) c.in-Some.after (omega (arith, c.if-after-place.false)) in
    let own = λ (new : Bytes → Bytes) (context : Context). structure_lines c.args.level (renamed_sibling new edition (row context s.tag) None d sibling) in
    let line = c.in_ok-from.ensures in
    let here : c.in_ok-from.from ≡ last = omega (arith, c.if-from-last.false) in
    let spelled = λ (new : Bytes → Bytes) (context : Context).
    ap (λ n. slice_range file n to) (sym here)
    ∙ line.line
    ∙ plain_line edition (row context s.tag) new c.args.level None s.tag s.payload (rest_of_line s) line.value line.alone (plain_brief edition context s.tag (rest_of_line s) s.payload line.first refl line.plain) refl
    ∙ ap (λ ls. spelled_lines ls) (sym (append-nil (own new context)))
    ∙ ap (λ t. spelled_lines (own new context ++ lines_of (c.args.level + 1) (renamed new (sorted edition (context_below context s.tag) t)))) (sym leaf) in
    record {
      run = c.in-Some.ensures.rest;
      order = omega (arith, c.loop-after.invariant.order, line.order, here);
      stand = λ context h. rest_stands edition context d c.args.level sibling s.xref (all context) (rest context) (is context) c.requires.deep (c.loop-after.invariant.stand context h);
      told = λ new context h. next_told edition context d c.args.level sibling s.xref (all context) (rest context) (is context) c.requires.deep (c.loop-after.invariant.stand context h) new
          (spelled_lines (lines_of c.args.level (renamed new (each_sorted edition context (trees_between d c.args.start c.args.end)))))
          (slice_range file first last) (slice_range file first to)
          (goes_on file (slice_range file first last) [] first last to c.loop-after.invariant.order (omega (arith, line.order, here)) refl ∙ ap (λ bytes. slice_range file first last ++ bytes) (spelled new context))
          (c.loop-after.invariant.told new context h);
    }

pub returns : goal.returns
returns g c = (
  c.loop-after.invariant.order,
  λ new context h.
      let d = g.F.Forest.trees c.args.self.now.forest.now in
      let edition = c.args.self.now.plan.edition in
      let run = trees_between d c.args.start c.args.end in
      let left = trees_between d c.loop-after.place c.args.end in
      let same : each_sorted edition context run ≡ sorted edition context run = sym (in_order_sorted edition context run (c.are_in_order.ensures.0 c.if-not-are_in_order.false)) in
      written_all (spelled_lines (lines_of c.args.level (renamed new (each_sorted edition context run))))
      (slice_range c.args.self.now.plan.file.now c.start_of-first.result c.loop-after.last)
      (lines_of c.args.level (renamed new (each_sorted edition context left)))
      (ap (λ t. lines_of c.args.level (renamed new (each_sorted edition context t))) c.in_default.ensures)
      (c.loop-after.invariant.told new context (ap (are_at c.args.level) same ∙ h))
      ∙ ap (λ t. spelled_lines (lines_of c.args.level (renamed new t))) same,
)
