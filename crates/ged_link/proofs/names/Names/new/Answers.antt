use Rattle.std.proofs.Common.{rules, ◌≡◌, ℕ, Option, Some, None, refl, ap, ◌∙◌, nat_eq}
use Rattle.std.specs.HashMap.{get}
use Rattle.ged_link.specs.NameNumbers.{short_number}
use Rattle.ged_link.specs.Indexes.{found_by, first_of}
use Rattle.ged_link.proofs.NameLemmas.{above}
use Rattle.ged_link.specs.declared.names.Names.{Names}
use Rattle.ged_link.proofs.names.Names.new.Goals as goal

pub returns-clause-none : goal.returns-clause-none
returns-clause-none c name = go (short_number name) refl
  where
    made : Names
    made = record { slots = c.args.slots; short = c.with_hasher.result; long = c.in_ok-new.field-0 }

    go : (o : Option ℕ) → short_number name ≡ o → found_by made name o ≡ None
    go (Some number) e = ap (λ kept. first_of kept (get nat_eq made.short number)) (c.requires.free name number (above name number e)) ∙ (search rules)
    go None e = c.in_ok-new.ensures.none name
