-- What is known of each file (FamilySearch GEDCOM 7.0, "Lines" and "Structures").
use Rattle.std.specs.Prelude.{ℕ, ◌⊎◌}
use Rattle.ged_line.specs.Bytes.{Bytes}
use Rattle.ged_tree.specs.Trees.{Trees}
use Rattle.ged_tree.specs.Building.{HasFile}
use Rattle.ged_tree.specs.FileFaults.{FirstFaultIn}
use Rattle.ged_tree.specs.declared.fault.TreeFault.{TreeFault}

-- the file has a document or a first fault
abbrev pub HasDocumentOrFault : Bytes → Type 0
HasDocumentOrFault file = ((document : Trees) × HasFile document file) ⊎ ((line : ℕ) × (fault : TreeFault) × FirstFaultIn file line fault)
