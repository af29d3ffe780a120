use Rattle.std.proofs.Common.{List, ◌∙◌, ap}
use Rattle.ged_schema.specs.Rows.{Row}
use Rattle.ged_schema.specs.inner.Lookups.{row_of}
use Rattle.ged_schema.proofs.context_rows.ContextRows.row.Goals as goal

pub returns : goal.returns
unfolding Rattle.ged_schema.specs.Tables.row
returns c = rw (← c.self.view_is) (c.rule_among.ensures ∙ ap (λ (rs : List Row). row_of rs c.args.name.now) c.self.invariant.0)
