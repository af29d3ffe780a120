-- Steps at places are steps, and each is undone by one.
use Rattle.ged_tree.specs.Trees.{Trees}
use Rattle.ged_canon.specs.declared.edition.Edition.{Edition}
use Rattle.ged_canon.specs.Steps.{change, Step, Equivalent}
use Rattle.ged_canon.specs.Tidy.{PlaceStep, EquivalentInPlace}
use Rattle.ged_canon.proofs.theory.Chains as chains

place_step : (edition : Edition) (d e : Trees) → PlaceStep edition d e → Step edition d e
place_step edition d e h = record { from = h.from; to = h.to; move = change h.changed }

pub in_place : (edition : Edition) (d e : Trees) → EquivalentInPlace edition d e → Equivalent edition d e
in_place edition d e h = chains.under (λ x. x) (place_step edition) h
