-- Laws of resolved documents and of the faults of cross-references, each the contract of a public function.
use Rattle.std.specs.Prelude.{◌≡◌, ◌↔◌, ℕ, true, Some}
use Rattle.ged_line.specs.Bytes.{Bytes}
use Rattle.ged_tree.specs.Trees.{Trees}
use Rattle.ged_tree.specs.Documents.{is_document}
use Rattle.ged_tree.specs.Places.{structure_at}
use Rattle.ged_link.specs.declared.fault.LinkFault.{LinkFault}
use Rattle.ged_link.specs.Links.{IsAmong, SomeTree, xrefs, Resolved}
use Rattle.ged_link.specs.LinkFaults.{HasXref, HasLinkFault}
use Rattle.ged_link.specs.Notices.{OneWay, OneWayAt}

-- a document's cross-references have no fault exactly where they are resolved
abbrev pub ResolvedIsFaultless : Type 0
ResolvedIsFaultless = (document : Trees) → is_document document ≡ true → Resolved document ↔ ((fault : LinkFault) → HasLinkFault document fault → ⊥)

-- a document's identifiers are those that its structures have
abbrev pub IdentifiersHavePlaces : Type 0
IdentifiersHavePlaces = (document : Trees) → is_document document ≡ true → (name : Bytes) → IsAmong name (xrefs document) ↔ ((place : ℕ) × HasXref document place name)

-- where cross-references are resolved, the structure that has an identifier has a tag exactly where some record has both
abbrev pub OneRecordHasName : Type 0
OneRecordHasName = (document : Trees) → is_document document ≡ true → Resolved document → (place : ℕ) (name tag : Bytes) → HasXref document place name →
    ((structure_at document place).tag ≡ tag) ↔ SomeTree (λ s below. (s.xref ≡ Some name) × (s.tag ≡ tag)) document

-- cross-references have one fault at most
abbrev pub OneLinkFault : Type 0
OneLinkFault = (document : Trees) (fault other : LinkFault) → HasLinkFault document fault → HasLinkFault document other → fault ≡ other

-- some link goes in one direction only exactly where the structure at some place does
abbrev pub OneWayHasPlace : Type 0
OneWayHasPlace = (document : Trees) → OneWay document ↔ ((place : ℕ) × OneWayAt document place)
