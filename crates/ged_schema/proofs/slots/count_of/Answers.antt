use Rattle.std.proofs.Common.{◌≡◌, refl, length}
use Rattle.ged_schema.specs.Tables.{rows as rows_of}
use Rattle.ged_schema.specs.declared.context.Context.{Context}
use Rattle.ged_schema.specs.declared.context.Context.TheVariants.{File}
use Rattle.ged_schema.proofs.slots.count_of.Goals as goal

pub returns : goal.returns
unfolding rows_of
returns c = go c.args.context refl
  where
    -- each context has a clause of its own, in which both are numbers
    go : (context : Context) → c.args.context ≡ context → c.from.result ≡ length (rows_of c.args.context)
    go File is = let count = rw is at c.from.ensures in rw (is, count) refl
    go other is = let count = rw is at c.from.ensures in rw (is, count) refl
