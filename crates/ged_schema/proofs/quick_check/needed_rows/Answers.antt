use Rattle.std.proofs.Common.{◌≡◌, true, refl, slice_index_or}
use Rattle.ged_schema.specs.Tables.{rows as rows_of}
use Rattle.ged_schema.specs.inner.Marks.{are_simple}
use Rattle.ged_schema.specs.declared.context.Context.{Context}
use Rattle.ged_schema.specs.declared.context.Context.TheVariants.{Leaf, Unchecked}
use Rattle.ged_schema.specs.declared.quick_check.TheConstants.{NEEDED}
use Rattle.ged_schema.proofs.quick_check.needed_rows.Goals as goal

pub returns : goal.returns
unfolding rows_of
returns c = go c.args.context refl
  where
    -- each context has a clause of its own, in which its number is one
    go : (context : Context) → c.args.context ≡ context → are_simple (slice_index_or NEEDED c.from.result 0) 0 (rows_of c.args.context) ≡ true
    go Leaf is = rw is refl
    go Unchecked is = rw is refl
    go other is = let number = rw is at c.from.ensures in rw (is, number) refl
