use Rattle.std.proofs.Common.{◌≡◌, ◌↔◌, ℕ, Some, subst, sym, Option}
use Rattle.ged_tree.specs.Trees.{Trees}
use Rattle.ged_link.specs.Links.{IsRecordNumber}
use Rattle.ged_link.specs.Indexes.{IsIndexOf}
use Rattle.ged_link.proofs.index.Index.record_named.Goals as goal

pub returns : goal.returns
returns c =
    subst (λ (found : Option ℕ). (d : Trees) → IsIndexOf d c.args.self.now → (number : ℕ) → (found ≡ Some number) ↔ IsRecordNumber d number c.args.name.now)
    (sym c.find_number.ensures)
    (λ d is number. is.records.numbered c.args.name.now number)
