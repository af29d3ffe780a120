use Rattle.std.proofs.Common.{◌∙◌, ap, sym, length}
use Rattle.std.proofs.lemmas.List.{length-map}
use Rattle.ged_schema.specs.Rows.{as_row}
use Rattle.ged_schema.specs.Tables.{row}
use Rattle.ged_schema.proofs.slots.row_number.Goals as goal

pub number_within-requires : goal.number_within-requires
number_within-requires c = record {
  count = c.count_of.ensures ∙ ap length (sym c.rows.ensures.rows) ∙ length-map c.rows.result.now as_row;
  small = c.seed_of.ensures.small;
  few = c.rows.ensures.few;
  kept = rw c.rows.ensures.rows c.seed_of.ensures.kept;
}

pub returns : goal.returns
unfolding row
returns c =
    let told = rw c.rows.ensures.rows at c.number_within.ensures in
    record { row = told.row; small = told.small; only = told.only }
