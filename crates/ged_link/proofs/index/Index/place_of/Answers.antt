use Rattle.std.proofs.Common.{◌≡◌, ◌↔◌, ℕ, Some, subst, sym, Option}
use Rattle.ged_tree.specs.Trees.{Trees}
use Rattle.ged_link.specs.LinkFaults.{HasXref}
use Rattle.ged_link.specs.Indexes.{IsIndexOf}
use Rattle.ged_link.proofs.index.Index.place_of.Goals as goal

pub returns : goal.returns
returns c =
    subst (λ (found : Option ℕ). (d : Trees) → IsIndexOf d c.args.self.now → (place : ℕ) → (found ≡ Some place) ↔ HasXref d place c.args.name.now)
    (sym c.find_place.ensures)
    (λ d is place. is.records.placed c.args.name.now place)
