-- The tidy form of a document: substructures and records in the order of their tags, and payloads without what has no meaning.
-- Identifiers stay as they are, also those that no pointer names
-- (FamilySearch GEDCOM 7.0, "Structures", "Lines", "Date" and "Integer").
use Rattle.std.specs.Prelude.{◌≡◌, true}
use Rattle.ged_tree.specs.Trees.{Trees, records_of}
use Rattle.ged_tree.specs.Documents.{is_document}
use Rattle.ged_schema.specs.declared.context.Context.TheVariants.{File}
use Rattle.ged_canon.specs.declared.edition.Edition.{Edition}
use Rattle.ged_canon.specs.Steps.{Change, Somewhere, Chain}
use Rattle.ged_canon.specs.Normal.{InOrder, AreNormal}

-- a step that is a change at one place, so that each identifier stays as it is
pub record PlaceStep (edition : Edition) (d e : Trees) : Type 0 where
  pub from : is_document d ≡ true
  pub to : is_document e ≡ true
  pub changed : Somewhere (Change edition) File d e

-- a document becomes another by such steps
abbrev pub EquivalentInPlace : Edition → Trees → Trees → Type 0
EquivalentInPlace edition = Chain (PlaceStep edition)

-- the document is tidy
pub record Tidy (edition : Edition) (d : Trees) : Type 0 where
  pub places : AreNormal edition File d
  pub records_in_order : InOrder (records_of d)

-- the second document is tidy, and the first becomes it by steps at places
pub record IsTidyForm (edition : Edition) (d e : Trees) : Type 0 where
  pub equivalent : EquivalentInPlace edition d e
  pub tidy : Tidy edition e
