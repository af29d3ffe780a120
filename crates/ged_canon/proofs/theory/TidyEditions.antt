-- The first edition's steps at places are the second's, and the second's tidy form is the first's.
use Rattle.ged_tree.specs.Trees.{Trees}
use Rattle.ged_schema.specs.declared.context.Context.TheVariants.{File}
use Rattle.ged_canon.specs.declared.edition.Edition.TheVariants.{First, Second}
use Rattle.ged_canon.specs.Tidy.{PlaceStep}
use Rattle.ged_canon.specs.TidyLaws.{TidyEditionsAgree, SecondIsTidyInFirst}
use Rattle.ged_canon.proofs.theory.Chains.{both, back}
use Rattle.ged_canon.proofs.theory.Chains as chains
use Rattle.ged_canon.proofs.theory.Editions.{somewhere_second, normal_first}
use Rattle.ged_canon.proofs.theory.Tidy.{place_back, unique}

step_second : (d e : Trees) → PlaceStep First d e → PlaceStep Second d e
step_second d e h = record { from = h.from; to = h.to; changed = somewhere_second File d e h.changed }

pub one_second : TidyEditionsAgree
one_second d e m n p a b h k =
    let forth = both (chains.under (λ x. x) step_second a.equivalent) (back (place_back Second) (chains.under (λ x. x) step_second b.equivalent)) in
    unique Second n p (both (back (place_back Second) h.equivalent) (both forth k.equivalent)) h.tidy k.tidy

pub first_tidy : SecondIsTidyInFirst
first_tidy d h = record { places = normal_first File d h.places; records_in_order = h.records_in_order }
