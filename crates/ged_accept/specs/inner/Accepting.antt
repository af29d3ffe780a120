-- Nothing here need be believed: only private contracts and proofs cite it.
-- A document that is accepted.
use Rattle.std.specs.Prelude.{◌≡◌}
use Rattle.ged_tree.specs.Trees.{Trees}
use Rattle.ged_link.specs.Links.{Resolved}
use Rattle.ged_schema.specs.Profiles.{CheckedAs}
use Rattle.ged_schema.specs.declared.profile.Profile.{Profile}

-- the document is accepted
abbrev pub IsAcceptable : Profile → Trees → Trees → Type 0
IsAcceptable profile document accepted = (accepted ≡ document) × Resolved document × CheckedAs profile document
