-- Laws of the tidy form, each the contract of a public function.
use Rattle.std.specs.Prelude.{◌≡◌, ◌↔◌, true}
use Rattle.ged_tree.specs.Trees.{Trees}
use Rattle.ged_tree.specs.Documents.{is_document}
use Rattle.ged_schema.specs.Checked.{Checked}
use Rattle.ged_canon.specs.declared.edition.Edition.{Edition}
use Rattle.ged_canon.specs.declared.edition.Edition.TheVariants.{First, Second}
use Rattle.ged_canon.specs.Steps.{Equivalent}
use Rattle.ged_canon.specs.Normal.{Normal, IsNormalForm}
use Rattle.ged_canon.specs.Tidy.{PlaceStep, EquivalentInPlace, Tidy, IsTidyForm}

-- two tidy documents of which one becomes the other by steps at places are equal
abbrev pub TidyFormIsUnique : Type 0
TidyFormIsUnique = (edition : Edition) (d e : Trees) → EquivalentInPlace edition d e → Tidy edition d → Tidy edition e → d ≡ e

-- each document that is checked has a tidy form
abbrev pub TidyFormExists : Type 0
TidyFormExists = (edition : Edition) (d : Trees) → is_document d ≡ true → Checked d → (e : Trees) × IsTidyForm edition d e

-- the tidy forms of two documents are equal exactly when one document becomes the other by steps at places
abbrev pub EqualTidyForms : Type 0
EqualTidyForms = (edition : Edition) (d e m n : Trees) → IsTidyForm edition d m → IsTidyForm edition e n → (m ≡ n) ↔ EquivalentInPlace edition d e

-- each step at a place is undone by one
abbrev pub PlaceStepIsUndone : Type 0
PlaceStepIsUndone = (edition : Edition) (d e : Trees) → PlaceStep edition d e → PlaceStep edition e d

-- what a document becomes by steps at places becomes that document by such steps
abbrev pub InPlaceIsSymmetric : Type 0
InPlaceIsSymmetric = (edition : Edition) (d e : Trees) → EquivalentInPlace edition d e → EquivalentInPlace edition e d

-- what a document becomes by steps at places, and that becomes by further ones, the document becomes by such steps
abbrev pub InPlaceIsTransitive : Type 0
InPlaceIsTransitive = (edition : Edition) (d e f : Trees) → EquivalentInPlace edition d e → EquivalentInPlace edition e f → EquivalentInPlace edition d f

-- what a document becomes by steps at places it becomes by steps
abbrev pub InPlaceIsEquivalent : Type 0
InPlaceIsEquivalent = (edition : Edition) (d e : Trees) → EquivalentInPlace edition d e → Equivalent edition d e

-- what holds of a document holds of each that it becomes by steps at places
abbrev pub IsKeptInPlace : (Trees → Type 0) → Type 0
IsKeptInPlace P = (edition : Edition) (d e : Trees) → EquivalentInPlace edition d e → P d → P e

-- the normal forms of a document are those of its tidy form
abbrev pub NormalFormOfTidy : Type 0
NormalFormOfTidy = (edition : Edition) (d t e : Trees) → IsTidyForm edition d t → IsNormalForm edition t e ↔ IsNormalForm edition d e

-- a normal document is tidy
abbrev pub NormalIsTidy : Type 0
NormalIsTidy = (edition : Edition) (d : Trees) → Normal edition d → Tidy edition d

-- documents that have the same tidy form of the first edition have the same tidy form of the second
abbrev pub TidyEditionsAgree : Type 0
TidyEditionsAgree = (d e m n p : Trees) → IsTidyForm First d m → IsTidyForm First e m → IsTidyForm Second d n → IsTidyForm Second e p → n ≡ p

-- what is tidy in the second edition is tidy in the first
abbrev pub SecondIsTidyInFirst : Type 0
SecondIsTidyInFirst = (d : Trees) → Tidy Second d → Tidy First d
