use Rattle.std.proofs.Common.{◌∙◌, ap, option_map}
use Rattle.ged_schema.specs.Rows.{as_row}
use Rattle.ged_schema.specs.Tables.{row}
use Rattle.ged_schema.proofs.lookups.lookup_name.Goals as goal

pub returns : goal.returns
unfolding row
returns c = ap (option_map as_row) c.copied.ensures ∙ rw c.rows.ensures.rows at c.rule_among.ensures
