use Rattle.std.proofs.Common.{◌≡◌, true, refl}
use Rattle.ged_schema.specs.Tables.{rows as rows_of}
use Rattle.ged_schema.specs.Slots.{are_numbered, kept_number}
use Rattle.ged_schema.specs.declared.context.Context.{Context}
use Rattle.ged_schema.specs.declared.context.Context.TheVariants.{Leaf, Unchecked}
use Rattle.ged_schema.proofs.slots.seed_of.Goals as goal

pub returns-clause-kept : goal.returns-clause-kept
unfolding rows_of
returns-clause-kept c = go c.args.context refl
  where
    -- each context has a clause of its own, in which the seed is a number
    go : (context : Context) → c.args.context ≡ context → are_numbered (kept_number c.from.result) 0 (rows_of c.args.context) ≡ true
    go Leaf is = rw is refl
    go Unchecked is = rw is refl
    go other is = let seed = rw is at c.from.ensures in rw (is, seed) refl
