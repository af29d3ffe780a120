-- A law of cross-references, the contract of a public function.
use Rattle.std.specs.Prelude.{◌≡◌, ◌⊎◌, true}
use Rattle.ged_tree.specs.Trees.{Trees}
use Rattle.ged_tree.specs.Documents.{is_document}
use Rattle.ged_link.specs.declared.fault.LinkFault.{LinkFault}
use Rattle.ged_link.specs.Links.{Resolved}
use Rattle.ged_link.specs.LinkFaults.{HasLinkFault}

-- a document's cross-references are resolved or have a fault
abbrev pub ResolvedOrFault : Type 0
ResolvedOrFault = (document : Trees) → is_document document ≡ true → Resolved document ⊎ ((fault : LinkFault) × HasLinkFault document fault)
