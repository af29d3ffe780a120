use Rattle.std.proofs.Common.{refl, sym, ◌∙◌, ap, subst, ◌≡◌, ◌+◌, ◌<◌, ℕ, Some, length, slice_get}
use Rattle.ged_schema.specs.Rows.{Row}
use Rattle.ged_schema.specs.declared.context.Context.{Context}
use Rattle.ged_schema.specs.Tables.{rows, row}
use Rattle.ged_schema.specs.inner.LineWalks.{open_at, IsClosed}
use Rattle.ged_schema.proofs.Marking.{on_true}
use Rattle.ged_schema.proofs.LineOpening.{opens_by_rule, opens_without_row}
use Rattle.ged_schema.proofs.line_walk.LineWalk.open_by_parts.Goals as goal

pub returns-in-Some : goal.returns-in-Some
returns-in-Some c = λ line is_level is_tag is_value.
    let walk = c.args.self.now in
    let level : c.from-level.result ≡ line.level = c.from-level.ensures ∙ sym is_level in
    let context : c.context_at-context.result ≡ (open_at walk line.level).context = c.context_at-context.ensures ∙ ap (λ (n : ℕ). (open_at walk n).context) level in
    let found = subst (λ (x : Context). (c.in-Some.number < length (rows x)) × (slice_get (rows x) c.in-Some.number ≡ row x c.args.tag.now)) context c.in-Some.ensures.row in
    let only = subst (λ (x : Context). (i : ℕ) (r : Row) → slice_get (rows x) i ≡ Some r → r.tag ≡ c.args.tag.now → Some c.in-Some.number ≡ Some i) context c.in-Some.ensures.only in
    opens_by_rule (open_at walk line.level).context line walk c.open_listed.new.self refl
    (subst (λ (n : ℕ). IsClosed walk (n + 1)) level (on_true c.is_closed.result c.is_closed.ensures c.if-not-is_closed.false))
    c.args.tag.now (sym is_tag) c.rows.result.now (c.rows.ensures.rows ∙ ap rows context) c.in-Some.number
    found.0 found.1 only _ c.from-level.result level _ (sym is_value) c.open_listed.result c.open_listed.ensures

pub returns-in-None : goal.returns-in-None
returns-in-None c = λ line is_level is_tag is_value.
    let walk = c.args.self.now in
    let level : c.from-level.result ≡ line.level = c.from-level.ensures ∙ sym is_level in
    let context : c.context_at-context.result ≡ (open_at walk line.level).context = c.context_at-context.ensures ∙ ap (λ (n : ℕ). (open_at walk n).context) level in
    opens_without_row (open_at walk line.level).context line walk c.open_unlisted.new.self refl
    (subst (λ (n : ℕ). IsClosed walk (n + 1)) level (on_true c.is_closed.result c.is_closed.ensures c.if-not-is_closed.false))
    c.context_at-context.result context c.from-level.result level c.args.tag.now (sym is_tag) c.in-None.ensures.row c.in-None.ensures.only c.open_unlisted.ensures
